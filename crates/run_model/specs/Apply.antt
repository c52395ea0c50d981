-- The command `apply`: a script on a store.
use Rattle.std.specs.Prelude.{◌≡◌, ℕ, List, IfSome}
use Rattle.base_model.specs.Streams.{AtEnd}
use Rattle.disk_model.specs.Words.{TellsImages}
use Rattle.trie_model.specs.Maps.{Map}
use Rattle.store_model.specs.Refusals.{Refusal}
use Rattle.session_model.specs.Script.{Played, script, text_of}
use Rattle.run_model.specs.OutsideThings.{Outside}
use Rattle.run_model.specs.End.{End, Done, NotOpened}
use Rattle.run_model.specs.Outcome.{Outcome, PrintsNothing}
use Rattle.run_model.specs.Script.{ScriptRuns, Survives, end_of_stop}
use Rattle.run_model.specs.Store.{OnMap}

abbrev pub outcome_of : Played → Outcome
outcome_of p = record { end = end_of_stop p.stop; text = text_of p.steps }

-- the outcome on a store that stands for this map and on a whole input
abbrev pub apply_outcome : ℕ → Map → List ℕ → Outcome
apply_outcome w m bytes = outcome_of (script w m bytes)

-- what a run of `apply` promises
pub record ApplyRuns (w : ℕ) (before after : Outside) (end : End) : Type 0 where
  -- of files that stand for a map: what the script promises
  pub script_runs : OnMap w before.disk (λ m. IfSome before.input.left (λ bytes. ScriptRuns w m bytes before after end))
  -- a crash at any moment leaves the map after a prefix of the script's commits, which holds each one whose line was taken
  pub survives : TellsImages before.disk.tells → OnMap w before.disk (λ m. IfSome before.input.left (λ bytes.
      Survives m (script w m bytes).steps before.output.taken after.output.taken before.disk.moments after.disk.moments))
  -- the input was read to its end
  pub done : end ≡ Done → AtEnd after.input.left
  -- where the files are not opened nothing is read and nothing printed
  pub refused : (why : Refusal) → end ≡ NotOpened why → (after.input ≡ before.input) × PrintsNothing before after
