use Rattle.std.proofs.Common.{◌≡◌, None, drop}
use Rattle.std.specs.Option.{option_copied}
use Rattle.node_table.specs.Pairs.{are_good, keys_of}
use Rattle.node_table.proofs.source.are_in_order.Given as goal

abbrev pub invariant-loop-key : goal.invariant-loop-key
invariant-loop-key l = are_good (option_copied l.last) (keys_of (drop l.key-index l.pairs)) ≡ are_good None (keys_of l.pairs)
