use Rattle.std.proofs.Common.{◌≡◌, ◌++◌, ◌≤◌, length, drop, map}
use Rattle.bit_keys.specs.Branch.{width_of}
use Rattle.trie_items.specs.Items.{item_of}
use Rattle.proof_check.specs.Claims.{claim_of}
use Rattle.proof_check.specs.Descents.{told_up}
use Rattle.proof_check.proofs.beside.push_up.Given as goal

abbrev pub invariant-loop-left : goal.invariant-loop-left
invariant-loop-left l = record {
  within : l.left ≤ length l.path;
  so_far : map item_of l.told.items ≡ map item_of l.fn.told.items ++ told_up (width_of l.branch) (claim_of l.claim) (drop l.left l.path);
}

abbrev pub decreases-loop-left : goal.decreases-loop-left
decreases-loop-left l = l.left
