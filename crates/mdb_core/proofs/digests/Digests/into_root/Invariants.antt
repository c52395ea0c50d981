use Rattle.std.proofs.Common.{◌≡◌, ◌++◌, map}
use Rattle.trie_model.proofs.PlainEntries.{plain}
use Rattle.mdb_core.proofs.MapDigests.{key_items}
use Rattle.mdb_core.proofs.digests.Digests.into_root.Given as goal

abbrev pub invariant-loop-key : goal.invariant-loop-key
invariant-loop-key l = record {
  branch : l.builder.branch ≡ l.fn.branch;
  pairs : l.builder.pairs ++ map (plain key_items) l.key-iterator ≡ l.fn.self;
}
