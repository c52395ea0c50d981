use Rattle.std.proofs.Common.{◌≡◌, ◌++◌, map}
use Rattle.trie_model.proofs.PlainEntries.{plain, vec_items}
use Rattle.map_root.proofs.tests.filled.Given as goal

abbrev pub invariant-loop-key : goal.invariant-loop-key
invariant-loop-key l = l.builder.pairs ++ map (plain vec_items) l.key-iterator ≡ map (plain vec_items) l.fn.entries.entries
