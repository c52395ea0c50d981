use Rattle.std.proofs.Common.{◌≡◌, ◌++◌, map, take}
use Rattle.trie_model.specs.Maps.{entry_item}
use Rattle.trie_items.specs.Items.{item_of}
use Rattle.proof_check.specs.Claims.{pair_of}
use Rattle.proof_check.proofs.items.push_entries.Given as goal

abbrev pub invariant-loop-entry : goal.invariant-loop-entry
invariant-loop-entry l = map item_of l.items.items ≡ map item_of l.fn.items.items ++ map entry_item (map pair_of (take l.entry-index l.entries))
