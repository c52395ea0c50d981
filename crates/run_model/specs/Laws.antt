-- Laws of what the first bytes of an input decide, of what the lines of `verify` tell, of what a store has, and of what words ask for.
use Rattle.std.specs.Prelude.{◌≡◌, ℕ, List, ◌++◌, Some, None, Result, Ok}
use Rattle.std.specs.List.{AllByRecursion}
use Rattle.trie_model.specs.Bits.{IsWidth}
use Rattle.disk_model.specs.Files.{Files, IsFile}
use Rattle.trie_model.specs.Maps.{Map, Limits, IsMap}
use Rattle.range_model.specs.Ranges.{Range as Bounds}
use Rattle.text_model.specs.Laws.{IsAskedRange}
use Rattle.text_model.specs.Lines.{AreWholeLines}
use Rattle.text_model.specs.Words.{RootWord}
use Rattle.store_model.specs.Journal.{Stands}
use Rattle.store_model.specs.Refusals.{Refusal}
use Rattle.run_model.specs.Command.{Range, Changes, job_of}
use Rattle.run_model.specs.End.{End, Done}
use Rattle.run_model.specs.Outcome.{Outcome}
use Rattle.run_model.specs.Root.{root_outcome, root_decided}
use Rattle.run_model.specs.Verify.{verify_outcome, verify_decided, passed, come_to_store, IsTrueLine}

-- what is decided of `root` is the outcome, whatever bytes follow
abbrev pub DecidedStays : Type 0
DecidedStays = (w : ℕ) (front rest : List ℕ) (o : Outcome) → root_decided front ≡ Some o → root_outcome w (front ++ rest) ≡ o

-- where whole lines decide nothing of `root`, an input that ends behind them is one of finished work
abbrev pub UndecidedRootFinishes : Type 0
UndecidedRootFinishes = (w : ℕ) (front : List ℕ) → root_decided front ≡ None → AreWholeLines front → (root_outcome w front).end ≡ Done

-- what is decided of `verify` is how it ends, whatever bytes follow
abbrev pub DecidedVerifyStays : Type 0
DecidedVerifyStays =
    (w : ℕ) (found : Result Map Refusal) (front rest : List ℕ) (end : End) → verify_decided w found front ≡ Some end → (verify_outcome w found (front ++ rest)).end ≡ end

-- where whole lines decide nothing of `verify`, an input that ends behind them is one of finished work
abbrev pub UndecidedVerifyFinishes : Type 0
UndecidedVerifyFinishes =
    (w : ℕ) (found : Result Map Refusal) (front : List ℕ) → verify_decided w found front ≡ None → AreWholeLines front → (verify_outcome w found front).end ≡ Done

-- lines that pass are true, each of them
abbrev pub PassedLinesAreTrue : Type 0
PassedLinesAreTrue = (w : ℕ) (found : Result Map Refusal) (lines : List (List ℕ)) → IsWidth w → AllByRecursion (IsTrueLine w found) (passed w found lines)

-- whether lines ask for the store does not hang on what it is found to be
abbrev pub StoreIsAskedAlike : Type 0
StoreIsAskedAlike = (w : ℕ) (a b : Result Map Refusal) (lines : List (List ℕ)) → come_to_store w a lines ≡ come_to_store w b lines

-- the map for which the files of a store stand is one of byte strings within the limits
abbrev pub StoredMapsAreWithin : Type 0
StoredMapsAreWithin = (l : Limits) (files : Files) (m : Map) → ((file : ℕ) → IsFile (files file)) → Stands l files m → IsMap l m

-- what words ask for of a range, or of changes in one, is within the limits
abbrev pub RangeWordsAreWithin : Type 0
RangeWordsAreWithin =
    ((given : List (List ℕ)) (w : ℕ) (root : RootWord) (asked : Bounds) (pairs bytes : ℕ) → job_of given ≡ Ok (record { width = w; command = Range root asked pairs bytes }) → IsAskedRange asked pairs bytes)
    × ((given : List (List ℕ)) (w : ℕ) (from to : RootWord) (asked : Bounds) (pairs bytes : ℕ) → job_of given ≡ Ok (record { width = w; command = Changes from to asked pairs bytes }) → IsAskedRange asked pairs bytes)
