use Rattle.std.proofs.Common.{◌≡◌, drop}
use Rattle.std.specs.FinMap as map_of
use Rattle.base_model.specs.Bytes.{bytes_cmp}
use Rattle.node_table.specs.Pairs.{pairs_of}
use Rattle.node_table.proofs.source.value_in.Given as goal

abbrev pub invariant-loop-at : goal.invariant-loop-at
invariant-loop-at l = map_of.find bytes_cmp l.fn.key (pairs_of (drop l.at-index l.pairs)) ≡ map_of.find bytes_cmp l.fn.key (pairs_of l.pairs)
