use Rattle.std.proofs.Common.{◌≡◌, ◌+◌, ◌-◌, ◌*◌, ◌≤◌, length, drop, map}
use Rattle.std.specs.List.{AllByRecursion, prefix_len}
use Rattle.bit_keys.specs.Branch.{width_of}
use Rattle.trie_model.specs.Items.{Item, place_of}
use Rattle.trie_items.specs.Items.{item_of}
use Rattle.trie_items.specs.SlotIds.{has_token}
use Rattle.trie_items.proofs.roots.run_len.Given as goal

abbrev pub invariant-loop-count : goal.invariant-loop-count
invariant-loop-count l = record {
  within : l.count ≤ length l.items;
  so_far : l.count + prefix_len (has_token (width_of l.branch) (width_of l.branch * l.tokens) l.token) (map item_of (drop l.count l.items)) ≡ prefix_len (has_token (width_of l.branch) (width_of l.branch * l.tokens) l.token) (map item_of l.items);
  long : AllByRecursion (λ (i : Item). width_of l.branch * (l.tokens + 1) ≤ length (place_of i)) (map item_of (drop l.count l.items));
}

abbrev pub decreases-loop-count : goal.decreases-loop-count
decreases-loop-count l = length l.items - l.count
