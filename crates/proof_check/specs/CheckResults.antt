-- What the result of a check tells of the reason why a proof is refused, and what the check cost.
use Rattle.std.specs.Prelude.{◌≡◌, ℕ, ◌+◌, Option, Some, None, Result, Ok, Err}
use Rattle.proof_model.specs.Refusals.{Refusal}
use Rattle.proof_model.specs.Refusals as words
use Rattle.trie_items.specs.declared.source_fault.SourceFault.{SourceFault}
use Rattle.trie_items.specs.declared.source_fault.SourceFault.TheVariants as sources
use Rattle.proof_check.specs.declared.verify_fault.VerifyFault.{VerifyFault}
use Rattle.proof_check.specs.declared.verify_fault.VerifyFault.TheVariants as faults

-- the fault where the source of the local pairs gives no answer
abbrev pub of_source : SourceFault → VerifyFault
of_source sources.Failed = faults.Failed
of_source sources.NoMemory = faults.NoMemory

-- a fault is the reason; want of memory may come in the place of any answer, and a failed source never
abbrev pub IsReason : VerifyFault → Option Refusal → Type 0
IsReason (faults.Unsorted place) why = why ≡ Some (words.Unsorted place)
IsReason (faults.Outside place) why = why ≡ Some (words.Outside place)
IsReason (faults.PathOrder place) why = why ≡ Some (words.PathOrder place)
IsReason (faults.PathsDiffer place) why = why ≡ Some (words.PathsDiffer place)
IsReason (faults.Idle place) why = why ≡ Some (words.Idle place)
IsReason (faults.RootDiffers have want) why = why ≡ Some (words.RootDiffers have want)
IsReason faults.Failed why = ⊥
IsReason faults.NoMemory why = Unit {0}

-- the proof is accepted exactly where there is no reason, and each reason is told exactly
abbrev pub Tells : {A : Type 0} → Result A VerifyFault → Option Refusal → Type 0
Tells (Ok x) why = why ≡ None
Tells (Err f) why = IsReason f why

-- what a check costs that ends in a fault, where n strings are to be hashed: all of them where another root was made, and
-- none where none was; where memory ran out nothing is said
abbrev pub FaultCosts : VerifyFault → ℕ → ℕ → ℕ → Type 0
FaultCosts (faults.RootDiffers have want) old new n = new ≡ old + n
FaultCosts faults.NoMemory old new n = Unit {0}
FaultCosts other old new n = new ≡ old

abbrev pub Costs : {A : Type 0} → Result A VerifyFault → ℕ → ℕ → ℕ → Type 0
Costs (Ok x) old new n = new ≡ old + n
Costs (Err f) old new n = FaultCosts f old new n
