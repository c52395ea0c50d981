-- A batch that is written: what its step, and a crash in it, leave of the files.
use Rattle.std.proofs.Common.{ℕ, List, [], ◌∷◌, Option, Some, inl, inr, arith}
use Rattle.base_model.specs.Streams.{AppendsPrefix}
use Rattle.disk_model.specs.Files.{Files}
use Rattle.disk_model.specs.Moments.{Moments, LeavesOnly, Meanwhile}
use Rattle.disk_model.proofs.Meanwhile.{weaker, at_last}
use Rattle.trie_model.specs.Maps.{Map, limits}
use Rattle.batch_model.specs.Batch.{Change, after_batch}
use Rattle.store_model.specs.Journal.{Stands}
use Rattle.session_model.specs.Session.{Step}
use Rattle.session_model.specs.Script.{text_of}
use Rattle.run_model.specs.Script.{HasSteps, Keeps as KeepsSteps}
use Rattle.value_store.specs.Writes.{StandEither}
use Rattle.run_model.proofs.PrintedText.{nothing_yet}
use Rattle.script_run.proofs.KeptSteps.{none_done, all_done, fewer, all_kept}

module _ (m : Map) (batch : List Change) (text : List ℕ) where
  -- the step of this batch
  abbrev steps : List Step
  steps = record { text = text; committed = Some batch } ∷ []

  either : (old : Moments) (file : ℕ) (image : Files) → StandEither old file m (after_batch m batch) image → HasSteps m steps 0 image
  either old file image h = elim h.stands [
    | inl before ↦ none_done m steps image before
    | inr after ↦ fewer m steps 0 1 (omega arith) image (all_done m steps image after)
  ]

  -- behind it
  pub written : (files : Files) → Stands limits files (after_batch m batch) → HasSteps m steps 0 files
  written files stands = fewer m steps 0 1 (omega arith) files (all_done m steps files stands)

  pub printing : (old now : Moments) (file : ℕ) → Meanwhile (StandEither old file m (after_batch m batch)) old now → LeavesOnly (λ image. Stands limits image (after_batch m batch)) now.now → (taken taken' : Option (List ℕ)) → AppendsPrefix taken taken' (text_of steps) → KeepsSteps m steps taken taken' old now
  printing old now file run left taken taken' text = all_kept m steps taken taken' old now (weaker run (either old file)) left text

  -- in it
  pub begun : (old now : Moments) (file : ℕ) → LeavesOnly (λ image. Stands limits image m) old.now → Meanwhile (StandEither old file m (after_batch m batch)) old now → (taken : Option (List ℕ)) → KeepsSteps m steps taken taken old now
  begun old now file left run taken =
      let meanwhile = weaker run (either old file) in record {
        meanwhile = meanwhile;
        told = 0;
        text = nothing_yet taken [];
        left = at_last (λ image is. none_done m steps image (left image is)) meanwhile;
      }
