use Rattle.std.proofs.Common.{◌≡◌, map, take}
use Rattle.trie_model.specs.Maps.{digest_entry}
use Rattle.node_table.specs.Pairs.{pairs_of}
use Rattle.node_table.proofs.source.told.Given as goal

abbrev pub invariant-loop-key : goal.invariant-loop-key
invariant-loop-key l = record {
  branch : l.builder.branch ≡ l.fn.branch;
  pairs : l.builder.pairs ≡ map digest_entry (pairs_of (take l.key-index l.pairs));
}
