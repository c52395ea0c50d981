-- Change proofs: what a store shows of the changes between two maps in a range, and how it is checked against a local map.
use Rattle.std.specs.Prelude.{ℕ, Bool, List, map, Option}
use Rattle.std.specs.FinMap as map_of
use Rattle.trie_model.specs.Maps.{Map}
use Rattle.range_model.specs.Ranges.{Range}
use Rattle.batch_model.specs.Batch.{Change, after_batch}
use Rattle.history_model.specs.Changes.{changes, change_size, same_value}
use Rattle.proof_model.specs.Paths.{ProofNode}
use Rattle.proof_model.specs.TakenEntries.{taken, is_cut, reached_by}
use Rattle.proof_model.specs.Claims.{Claim}
use Rattle.proof_model.specs.RangeProofs.{pairs_in}
use Rattle.proof_model.specs.Refusals.{Refusal, first_place, refusal}
use Rattle.proof_model.specs.TrueClaims.{path_to}

-- changes, whether others of the range follow them, and the paths of the start and of where the changes reach, both in the
-- map to which the changes lead
pub record ChangeProof : Type 0 where
  pub cut : Bool
  pub changes : List Change
  pub start : List ProofNode
  pub end : List ProofNode

-- ---- making

abbrev pub changed_keys : List Change → List (List ℕ)
changed_keys cs = map (λ (c : Change). c.key) cs

-- the range that changes tell of, where they were listed for a range
abbrev pub changes_reach : Range → Bool → List Change → Range
changes_reach asked cut cs = reached_by asked cut (changed_keys cs)

-- changes that lead to a map, with the paths to the bounds of the range that they tell of
abbrev pub proof_of_changes : ℕ → Map → Range → Bool → List Change → ChangeProof
proof_of_changes w m asked cut cs = record { cut = cut; changes = cs; start = path_to w m asked.start; end = path_to w m (changes_reach asked cut cs).end }

-- what is proved of the changes in a range from one map to another, where n changes and z bytes of them are allowed
abbrev pub change_proof : ℕ → Map → Map → Range → ℕ → ℕ → ChangeProof
change_proof w m1 m2 r n z = proof_of_changes w m2 r (is_cut change_size n z (changes m1 m2 r)) (taken change_size n z (changes m1 m2 r))

-- ---- checking

-- a map has at the key of a change what the change makes of it
abbrev pub is_idle : Map → Change → Bool
is_idle m c = same_value (map_of.get m c.key) c.value

-- a change proof is checked as the pairs that the local map has in the range of which the changes tell, once they are made
abbrev pub change_claim : Range → Map → ChangeProof → Claim
change_claim asked local p = record {
  keys = changed_keys p.changes;
  reached = changes_reach asked p.cut p.changes;
  pairs = pairs_in (after_batch local p.changes) (changes_reach asked p.cut p.changes);
  start = p.start;
  end = p.end;
  idle = first_place (is_idle local) 0 p.changes;
}

-- why a change proof is refused that is checked against a local map
abbrev pub change_refusal : ℕ → Range → Map → List ℕ → ChangeProof → Option Refusal
change_refusal w asked local root p = refusal w asked root (change_claim asked local p)
