-- What an accepted change proof proves, and which change proofs are accepted.
use Rattle.std.specs.Prelude.{◌≡◌, ◌⊎◌, ℕ, ◌≤◌, List, None}
use Rattle.std.specs.List.{AllByRecursion}
use Rattle.trie_model.specs.Bits.{IsWidth}
use Rattle.trie_model.specs.Maps.{Map, Limits, IsMap, root, map_strings}
use Rattle.trie_model.specs.Strings.{Break}
use Rattle.range_model.specs.Ranges.{Range, IsRange}
use Rattle.batch_model.specs.Batch.{Change, after_batch}
use Rattle.proof_model.specs.Paths.{IsProofNode}
use Rattle.proof_model.specs.Claims.{claim_strings}
use Rattle.proof_model.specs.RangeLaws.{IsKey}
use Rattle.proof_model.specs.RangeProofs.{pairs_in}
use Rattle.proof_model.specs.ChangeProofs.{ChangeProof, changes_reach, change_proof, change_claim, change_refusal}

-- what is asked of a change proof that is handed in as a value: keys within the limit, and nodes for tokens of w bits.
-- In what order the keys stand is not asked, nor that they lie in any range
pub record IsChangeClaim (l : Limits) (w : ℕ) (p : ChangeProof) : Type 0 where
  pub listed : AllByRecursion (λ (c : Change). IsKey l c.key) p.changes
  pub start : AllByRecursion (IsProofNode w) p.start
  pub end : AllByRecursion (IsProofNode w) p.end

-- SHA-256 is broken by the strings of a change proof that is checked against a local map, and of a map
abbrev pub ChangeBreak : ℕ → Range → Map → ChangeProof → Map → Type 0
ChangeBreak w asked local p m = Break (claim_strings w (change_claim asked local p)) (map_strings w m)

-- a change proof that is accepted against the root of a map leads to that map: where the changes reach, the local map has
-- the pairs of that map once they are made
abbrev pub AcceptedChangesAreTrue : Type 0
AcceptedChangesAreTrue =
    (l : Limits) (w : ℕ) (asked : Range) (local : Map) (p : ChangeProof) (m : Map) → IsWidth w → IsRange l asked → IsChangeClaim l w p → IsMap l local → IsMap l m
    → change_refusal w asked local (root w m) p ≡ None
    → ChangeBreak w asked local p m ⊎ (pairs_in (after_batch local p.changes) (changes_reach asked p.cut p.changes) ≡ pairs_in m (changes_reach asked p.cut p.changes))

-- what is proved of the changes from one map to another is accepted against the root of the later one, where the local map
-- is the former one
abbrev pub TrueChangesAreAccepted : Type 0
TrueChangesAreAccepted =
    (l : Limits) (w : ℕ) (m1 m2 : Map) (asked : Range) (n z : ℕ) → IsWidth w → IsMap l m1 → IsMap l m2 → IsRange l asked → 1 ≤ n
    → change_refusal w asked m1 (root w m2) (change_proof w m1 m2 asked n z) ≡ None
