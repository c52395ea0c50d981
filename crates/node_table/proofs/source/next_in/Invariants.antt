use Rattle.std.proofs.Common.{◌≡◌, drop}
use Rattle.trie_items.specs.Sources.{next_key}
use Rattle.node_table.specs.Pairs.{keys_of}
use Rattle.node_table.proofs.source.next_in.Given as goal

abbrev pub invariant-loop-key : goal.invariant-loop-key
invariant-loop-key l = next_key l.past l.fn.from (keys_of (drop l.key-index l.pairs)) ≡ next_key l.past l.fn.from (keys_of l.pairs)
