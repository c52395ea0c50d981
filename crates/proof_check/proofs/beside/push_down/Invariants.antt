use Rattle.std.proofs.Common.{◌≡◌, ◌++◌, drop, map}
use Rattle.bit_keys.specs.Branch.{width_of}
use Rattle.trie_items.specs.Items.{item_of}
use Rattle.proof_check.specs.Claims.{claim_of}
use Rattle.proof_check.specs.Descents.{told_down}
use Rattle.proof_check.proofs.beside.push_down.Given as goal

-- what was told, and what is to come, is all
abbrev pub invariant-loop-i : goal.invariant-loop-i
invariant-loop-i l = map item_of l.told.items ++ told_down (width_of l.branch) (claim_of l.claim) (drop l.i l.path) ≡ map item_of l.fn.told.items ++ told_down (width_of l.branch) (claim_of l.claim) l.path
