-- Why a proof is refused. The first of the reasons in their order is told, each at the first entry or node that gives it.
use Rattle.std.specs.Prelude.{ℕ, suc, Bool, true, false, ◌&&◌, ◌==◌, nat_lt, if◌then◌else◌, List, [], ◌∷◌, length, Option, Some, None}
use Rattle.std.specs.Ordering.{is_lt, eq_by_cmp}
use Rattle.base_model.specs.Bytes.{bytes_cmp}
use Rattle.trie_model.specs.Bits.{is_prefix, same_key}
use Rattle.trie_model.specs.Ids.{id}
use Rattle.range_model.specs.Ranges.{Range, holds, only}
use Rattle.proof_model.specs.Paths.{ProofNode}
use Rattle.proof_model.specs.Proofs.{PointProof}
use Rattle.proof_model.specs.Claims.{Claim, claim_items, point_claim}

-- by the place of the entry, or of the node, where those of the start path are counted first and then those of the end path
pub data Refusal : Type 0 where
  -- the key of an entry is not greater than the one before it
  Unsorted : ℕ → Refusal
  -- the key of an entry is not in the range that was asked for
  Outside : ℕ → Refusal
  -- the key of a node does not strictly extend the one before it in its path
  PathOrder : ℕ → Refusal
  -- a node of the end path has the key of one of the start path, and another content
  PathsDiffer : ℕ → Refusal
  -- a change changes nothing
  Idle : ℕ → Refusal
  -- the items have this ID, and not the root that was asked for
  RootDiffers : List ℕ → List ℕ → Refusal

-- ---- the first place

-- the first place where a test holds, counted from n
abbrev pub first_place : {A : Type 0} → (A → Bool) → ℕ → List A → Option ℕ
first_place test n [] = None
first_place test n (x ∷ xs) = if test x then Some n else first_place test (suc n) xs

-- the first place of one that does not follow the one before it, where the first of them has place n
abbrev pub first_break : {A : Type 0} → (A → A → Bool) → ℕ → List A → Option ℕ
first_break follows n [] = None
first_break follows n (x ∷ []) = None
first_break follows n (x ∷ y ∷ ys) = if follows x y then first_break follows (suc n) (y ∷ ys) else Some (suc n)

-- ---- tests

abbrev pub same_bytes : List ℕ → List ℕ → Bool
same_bytes = eq_by_cmp bytes_cmp

abbrev pub is_less : List ℕ → List ℕ → Bool
is_less a b = is_lt (bytes_cmp a b)

abbrev pub lies_outside : Range → List ℕ → Bool
lies_outside r key = if holds r key then false else true

-- the key of the second node strictly extends that of the first
abbrev pub extends : ProofNode → ProofNode → Bool
extends a b = is_prefix a.key b.key && nat_lt (length a.key) (length b.key)

abbrev pub same_digest : Option (List ℕ) → Option (List ℕ) → Bool
same_digest None None = true
same_digest None (Some e) = false
same_digest (Some d) None = false
same_digest (Some d) (Some e) = same_bytes d e

abbrev pub same_children : List (ℕ × List ℕ) → List (ℕ × List ℕ) → Bool
same_children [] [] = true
same_children [] (d ∷ ds) = false
same_children (c ∷ cs) [] = false
same_children (c ∷ cs) (d ∷ ds) = (c.0 == d.0) && same_bytes c.1 d.1 && same_children cs ds

-- two nodes have one key, and not one content
abbrev pub disagree : ProofNode → ProofNode → Bool
disagree a b = if same_key a.key b.key then (if same_digest a.digest b.digest && same_children a.children b.children then false else true) else false

-- a node disagrees with one of others
abbrev pub disagrees_with : List ProofNode → ProofNode → Bool
disagrees_with [] n = false
disagrees_with (m ∷ ms) n = if disagree m n then true else disagrees_with ms n

-- ---- the first refusal

-- a reason, where there is a place, and else the next one
abbrev pub or_else : (ℕ → Refusal) → Option ℕ → Option Refusal → Option Refusal
or_else reason None next = next
or_else reason (Some i) next = Some (reason i)

-- one place, and else the other
abbrev pub or_then : Option ℕ → Option ℕ → Option ℕ
or_then None next = next
or_then (Some i) next = Some i

-- where nodes don't extend each other, in the one path and then in the other
abbrev pub path_break : List ProofNode → List ProofNode → Option ℕ
path_break start end = or_then (first_break extends 0 start) (first_break extends (length start) end)

-- why the paths are refused, and else the next reason
unfoldable pub path_refusal : List ProofNode → List ProofNode → Option Refusal → Option Refusal
path_refusal start end next =
    or_else PathOrder (path_break start end) (or_else PathsDiffer (first_place (disagrees_with start) (length start) end) next)

-- why the items are refused
abbrev pub root_refusal : List ℕ → List ℕ → Option Refusal
root_refusal have want = if same_bytes have want then None else Some (RootDiffers have want)

-- why a proof is refused that was asked for a range, against a root; None where it is accepted
unfoldable pub refusal : ℕ → Range → List ℕ → Claim → Option Refusal
refusal w asked root c =
    or_else Unsorted (first_break is_less 0 c.keys)
    (or_else Outside (first_place (lies_outside asked) 0 c.keys)
    (path_refusal c.start c.end
    (or_else Idle c.idle
    (root_refusal (id w (claim_items w c)) root))))

-- why a point proof is refused
abbrev pub point_refusal : ℕ → List ℕ → List ℕ → PointProof → Option Refusal
point_refusal w key root p = refusal w (only key) root (point_claim key p)
