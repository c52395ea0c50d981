-- What a check against a local map tells, whose source may fail or tell no map.
use Rattle.std.specs.Prelude.{◌≡◌, ℕ, List, Option, Some, None, Result, Ok, Err}
use Rattle.trie_model.specs.Ids.{id}
use Rattle.trie_model.specs.Maps.{Map}
use Rattle.range_model.specs.Ranges.{Range}
use Rattle.batch_model.specs.Batch.{after_batch}
use Rattle.trie_items.specs.declared.source_fault.SourceFault.{SourceFault}
use Rattle.trie_items.specs.declared.source_fault.SourceFault.TheVariants as sources
use Rattle.proof_model.specs.ChangeProofs.{ChangeProof, changed_keys, is_idle}
use Rattle.proof_model.specs.Claims.{Claim, claim_items}
use Rattle.proof_model.specs.RangeProofs.{pairs_in}
use Rattle.proof_model.specs.Refusals.{Refusal, Idle, first_place, or_else, root_refusal}
use Rattle.proof_model.specs.Refusals as words
use Rattle.proof_check.specs.Claims.{listed_refusal}
use Rattle.proof_check.specs.CheckResults.{IsReason}
use Rattle.proof_check.specs.declared.verify_fault.VerifyFault.{VerifyFault}
use Rattle.proof_check.specs.declared.verify_fault.VerifyFault.TheVariants as faults

-- ---- with a local map

-- a fault is the reason; want of memory and a failed source may come in the place of any answer
abbrev pub IsReasonOr : VerifyFault → Option Refusal → Type 0
IsReasonOr faults.Failed why = Unit {0}
IsReasonOr other why = IsReason other why

-- the proof is accepted only where there is no reason, and each reason is told exactly
abbrev pub TellsOr : Result (Unit {0}) VerifyFault → Option Refusal → Type 0
TellsOr (Ok x) why = why ≡ None
TellsOr (Err f) why = IsReasonOr f why

-- ---- without one

-- why a proof is refused, whatever the local map is
abbrev pub early_refusal : Range → ChangeProof → Option Refusal
early_refusal asked p = listed_refusal asked (changed_keys p.changes) p.start p.end

-- such a reason is told exactly, and any other answer says that there is none
abbrev pub IsEarly : VerifyFault → Option Refusal → Type 0
IsEarly (faults.Unsorted place) why = why ≡ Some (words.Unsorted place)
IsEarly (faults.Outside place) why = why ≡ Some (words.Outside place)
IsEarly (faults.PathOrder place) why = why ≡ Some (words.PathOrder place)
IsEarly (faults.PathsDiffer place) why = why ≡ Some (words.PathsDiffer place)
IsEarly (faults.Idle place) why = why ≡ None
IsEarly (faults.RootDiffers have want) why = why ≡ None
IsEarly faults.Failed why = why ≡ None
IsEarly faults.NoMemory why = Unit {0}

abbrev pub TellsEarly : Result (Unit {0}) VerifyFault → Option Refusal → Type 0
TellsEarly (Ok x) why = why ≡ None
TellsEarly (Err f) why = IsEarly f why

-- ---- the reasons that come later

-- a proof as it is checked for a range that its changes tell of
abbrev pub reached_claim : Range → Map → ChangeProof → Claim
reached_claim r local p = record {
  keys = changed_keys p.changes;
  reached = r;
  pairs = pairs_in (after_batch local p.changes) r;
  start = p.start;
  end = p.end;
  idle = first_place (is_idle local) 0 p.changes;
}

-- why a proof is refused that is not refused early
abbrev pub late_refusal : ℕ → Range → Map → List ℕ → ChangeProof → Option Refusal
late_refusal w r local root p = or_else Idle (first_place (is_idle local) 0 p.changes) (root_refusal (id w (claim_items w (reached_claim r local p))) root)

-- ---- the source

-- what a check says of the calls of the source
abbrev pub source_fault : VerifyFault → SourceFault
source_fault faults.Failed = sources.Failed
source_fault other = sources.NoMemory

abbrev pub source_answer : Result (Unit {0}) VerifyFault → Result (Unit {0}) SourceFault
source_answer (Ok x) = Ok x
source_answer (Err f) = Err (source_fault f)
