use Rattle.std.proofs.Common.{◌≡◌, ◌++◌, map, take}
use Rattle.bit_keys.specs.Branch.{width_of}
use Rattle.trie_items.specs.Items.{item_of}
use Rattle.trie_items.specs.Children.{children_of}
use Rattle.proof_check.specs.Claims.{claim_of, stubs_of}
use Rattle.proof_check.proofs.beside.push_stubs.Given as goal

abbrev pub invariant-loop-child : goal.invariant-loop-child
invariant-loop-child l = map item_of l.told.items ≡ map item_of l.fn.told.items ++ stubs_of (width_of l.branch) (claim_of l.claim) l.key (children_of (take l.child-index l.children))
