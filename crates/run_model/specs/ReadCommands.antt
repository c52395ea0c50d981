-- A command that reads the map of a store, and changes nothing of it.
use Rattle.std.specs.Prelude.{◌≡◌, ◌≢◌, ◌⊎◌, ℕ}
use Rattle.std.specs.Io.KnownBytes.{Appends}
use Rattle.base_model.specs.Streams.{AppendsPrefix}
use Rattle.disk_model.specs.Words.{TellsImages}
use Rattle.trie_model.specs.Maps.{Map, limits}
use Rattle.text_model.specs.Texts.{LimitKind}
use Rattle.store_model.specs.Journal.{Stands}
use Rattle.store_model.specs.Openings.{Opens}
use Rattle.store_model.specs.Refusals.{Refusal}
use Rattle.run_model.specs.OutsideThings.{Outside}
use Rattle.run_model.specs.End.{End, Done, NotHeld, BadLine, NotOpened, Limit, Read, Disk}
use Rattle.run_model.specs.Outcome.{Outcome, PrintsNothing}
use Rattle.run_model.specs.Store.{OnMap}

-- an end that such a command itself comes to
abbrev pub IsAnswer : End → Type 0
IsAnswer end = (end ≡ Done) ⊎ (end ≡ NotHeld)

-- the run ended so, and printed the text
pub record Answers (o : Outcome) (before after : Outside) (end : End) : Type 0 where
  pub ends : end ≡ o.end
  pub text : Appends before.output.taken after.output.taken o.text

-- what a run of such a command promises, by its outcome on a store that stands for a map
pub record ReadRuns (outcome : Map → Outcome) (w : ℕ) (before after : Outside) (end : End) : Type 0 where
  -- what the command itself comes to is its outcome, and the text was printed
  pub came : IsAnswer end → OnMap w before.disk (λ m. Answers (outcome m) before after end)
  -- with any end a prefix of that text was
  pub prefix : OnMap w before.disk (λ m. AppendsPrefix before.output.taken after.output.taken (outcome m).text)
  -- the map stays, also where the run is stopped
  pub files : end ≢ Disk → OnMap w before.disk (λ m. Stands limits after.disk.files m)
  pub opens : TellsImages before.disk.tells → OnMap w before.disk (λ m. Opens limits m before.disk.moments after.disk.moments)
  -- the input is not read
  pub input : after.input ≡ before.input
  pub no_line : (number : ℕ) → end ≢ BadLine number
  pub no_limit : (kind : LimitKind) → end ≢ Limit kind
  pub no_read : end ≢ Read
  -- where the files are not opened nothing is printed
  pub refused : (why : Refusal) → end ≡ NotOpened why → PrintsNothing before after
