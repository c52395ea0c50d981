-- What the nodes of a path tell beside a range, on the way down and on the way back up.
use Rattle.std.specs.Prelude.{◌≡◌, ℕ, Bool, true, List, [], ◌∷◌, ◌++◌, length, take, drop, None, nat_lt}
use Rattle.std.specs.List.{AllByRecursion, prefix_len}
use Rattle.trie_model.specs.Bits.{token_at}
use Rattle.trie_model.specs.Items.{Item}
use Rattle.proof_model.specs.Paths.{ProofNode, IsProofNode}
use Rattle.proof_model.specs.Claims.{Claim, nodes, leads_to, value_beside}
use Rattle.proof_model.specs.Refusals.{extends, first_break}
use Rattle.proof_check.specs.Claims.{stubs_of}

-- a path in order, whose nodes are among those of a claim
pub record IsPathOf (w : ℕ) (c : Claim) (path : List ProofNode) : Type 0 where
  pub whole : AllByRecursion (IsProofNode w) path
  pub unbroken : first_break extends 0 path ≡ None
  pub shown : (s : List Bool) → leads_to s path ≡ true → leads_to s (nodes c) ≡ true

-- a child comes in front of a token
abbrev pub is_in_front : ℕ → ℕ × List ℕ → Bool
is_in_front t d = nat_lt d.0 t

-- how many children of a node come in front of the token that leads to the next node of its path; all, where there is none
abbrev pub in_front : ℕ → ProofNode → List ProofNode → ℕ
in_front w n [] = length n.children
in_front w n (m ∷ ms) = prefix_len (is_in_front (token_at w (length n.key) m.key)) n.children

-- what a node tells in front of the next one: its value, and stubs
abbrev pub told_ahead : ℕ → Claim → ProofNode → List ProofNode → List Item
told_ahead w c n ns = value_beside c.reached n ++ stubs_of w c n.key (take (in_front w n ns) n.children)

-- and behind it
abbrev pub told_behind : ℕ → Claim → ProofNode → List ProofNode → List Item
told_behind w c n ns = stubs_of w c n.key (drop (in_front w n ns) n.children)

-- what the nodes tell in front of those further down, and behind them
abbrev pub told_down : ℕ → Claim → List ProofNode → List Item
told_down w c [] = []
told_down w c (n ∷ ns) = told_ahead w c n ns ++ told_down w c ns

abbrev pub told_up : ℕ → Claim → List ProofNode → List Item
told_up w c [] = []
told_up w c (n ∷ ns) = told_up w c ns ++ told_behind w c n ns
