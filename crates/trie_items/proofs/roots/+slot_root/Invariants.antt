use Rattle.std.proofs.Common.{◌≡◌, ℕ, ◌+◌, ◌++◌, length, drop, map}
use Rattle.std.specs.List.{AllByRecursion}
use Rattle.bit_keys.specs.Branch.{width_of}
use Rattle.trie_model.specs.Ids.{node_key, children, id}
use Rattle.trie_model.specs.Items.{IsValid}
use Rattle.trie_model.specs.Strings.{strings, strings_below}
use Rattle.trie_items.specs.Children.{children_of}
use Rattle.trie_items.specs.Items.{item_of}
use Rattle.trie_items.specs.SlotIds.{depth}
use Rattle.trie_items.proofs.NodeKeys.{Hanging}
use Rattle.trie_items.proofs.roots.+slot_root.Given as goal

abbrev pub decreases-slot_root : goal.decreases-slot_root
decreases-slot_root g l = depth l.slot (map item_of l.items.now)

abbrev pub invariant-loop-rest : goal.invariant-loop-rest
invariant-loop-rest g l = let w = width_of l.branch in let k = node_key w (map item_of l.items) in record {
  children : children_of l.children.items ++ children (id w) w k (map item_of l.rest) ≡ children (id w) w k (map item_of l.items);
  cost : l.steps + length (strings_below (strings w) w k (map item_of l.rest)) ≡ l.fn.steps + length (strings_below (strings w) w k (map item_of l.items));
  hang : AllByRecursion (Hanging w k) (map item_of l.rest);
  valid : IsValid w (map item_of l.rest);
  part : (n : ℕ) × (l.rest ≡ drop n l.items);
}

abbrev pub decreases-loop-rest : goal.decreases-loop-rest
decreases-loop-rest g l = length l.rest
