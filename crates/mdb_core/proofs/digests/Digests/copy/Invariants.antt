use Rattle.std.proofs.Common.{◌≡◌, ◌++◌, map}
use Rattle.trie_model.proofs.PlainEntries.{plain}
use Rattle.mdb_core.proofs.MapDigests.{key_items}
use Rattle.mdb_core.proofs.digests.Digests.copy.Given as goal

abbrev pub invariant-loop-key : goal.invariant-loop-key
invariant-loop-key l = l.copy ++ map (plain key_items) l.key-iterator ≡ l.fn.self
