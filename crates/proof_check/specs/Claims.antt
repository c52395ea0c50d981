-- A claim as the definitions have it, and what is asked of one before it is checked.
use Rattle.std.specs.Prelude.{◌≡◌, ℕ, Bool, true, List, ◌++◌, map, Option, None}
use Rattle.std.specs.List.{AllByRecursion, flat_map}
use Rattle.base_model.specs.Bytes.{AreBytes}
use Rattle.trie_model.specs.Bits.{bits_of}
use Rattle.trie_model.specs.Items.{Item}
use Rattle.trie_model.specs.Maps.{limits}
use Rattle.range_model.specs.Ranges.{Range, IsRange, holds}
use Rattle.proof_model.specs.Paths.{ProofNode, IsProofNode}
use Rattle.proof_model.specs.Proofs.{Pair}
use Rattle.proof_model.specs.Claims as words
use Rattle.proof_model.specs.Claims.{nodes, stub_beside, value_beside}
use Rattle.proof_model.specs.Refusals.{Refusal, Unsorted, Outside, or_else, first_break, first_place, extends, is_less, lies_outside, path_refusal}
use Rattle.proof_model.specs.SoundProofs.{AreSorted}
use Rattle.proof_check.specs.declared.claim.Entry.{Entry}
use Rattle.proof_check.specs.declared.claim.Claim.{Claim}

abbrev pub pair_of : Entry → Pair
pair_of e = (e.key.now, e.value.now)

abbrev pub keys_of : List Entry → List (List ℕ)
keys_of es = map (λ (e : Entry). e.key.now) es

abbrev pub claim_of : Claim → words.Claim
claim_of c = record {
  keys = keys_of c.entries.now;
  reached = c.reached.now;
  pairs = map pair_of c.entries.now;
  start = c.start.now;
  end = c.end.now;
  idle = None;
}

-- whether the key of an entry is below that of another
abbrev pub entry_less : Entry → Entry → Bool
entry_less a b = is_less a.key.now b.key.now

abbrev pub entry_outside : Range → Entry → Bool
entry_outside r e = lies_outside r e.key.now

-- why entries are refused, and else the next reason
abbrev pub entry_refusal : Range → List Entry → Option Refusal → Option Refusal
entry_refusal asked es next = or_else Unsorted (first_break entry_less 0 es) (or_else Outside (first_place (entry_outside asked) 0 es) next)

-- why keys and paths are refused
abbrev pub listed_refusal : Range → List (List ℕ) → List ProofNode → List ProofNode → Option Refusal
listed_refusal asked keys start end = or_else Unsorted (first_break is_less 0 keys) (or_else Outside (first_place (lies_outside asked) 0 keys) (path_refusal start end None))

-- the children of the node with key k that are told as stubs
abbrev pub stubs_of : ℕ → words.Claim → List Bool → List (ℕ × List ℕ) → List Item
stubs_of w c k children = flat_map (λ (d : ℕ × List ℕ). stub_beside c.reached (nodes c) (k ++ bits_of w d.0) d.1) children

-- what some of the nodes tell beside the range
abbrev pub told_of : ℕ → words.Claim → List ProofNode → List Item
told_of w c shown = flat_map (λ (n : ProofNode). value_beside c.reached n ++ stubs_of w c n.key n.children) shown

-- keys of bytes
abbrev pub HaveBytes : List Entry → Type 0
HaveBytes es = AllByRecursion (λ (e : Pair). AreBytes e.0) (map pair_of es)

-- no node breaks the order of its path
pub record AreUnbroken (c : words.Claim) : Type 0 where
  pub start : first_break extends 0 c.start ≡ None
  pub end : first_break extends 0 c.end ≡ None

-- what is asked of a claim: a range, and nodes for tokens of w bits. Entries that are sorted and lie in
-- the range that is asked for are to lie in the one that is reached. Whether they are and do is tested
pub record IsCheckable (w : ℕ) (asked : Range) (c : words.Claim) : Type 0 where
  pub range : IsRange limits c.reached
  pub reaches : AreSorted c.pairs → AllByRecursion (λ (e : Pair). holds asked e.0 ≡ true) c.pairs → AllByRecursion (λ (e : Pair). holds c.reached e.0 ≡ true) c.pairs
  pub shown : AllByRecursion (IsProofNode w) (nodes c)
