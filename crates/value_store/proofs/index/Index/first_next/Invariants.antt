use Rattle.std.proofs.Common.{◌≡◌, map}
use Rattle.std.specs.FinMap.{keys}
use Rattle.trie_model.proofs.PlainEntries.{vec_items}
use Rattle.value_store.specs.Values.{next_of}
use Rattle.value_store.proofs.index.Index.first_next.Given as goal

abbrev pub invariant-loop-key : goal.invariant-loop-key
invariant-loop-key l = next_of (map vec_items l.key-iterator) l.fn.from l.fn.past ≡ next_of (keys l.fn.self) l.fn.from l.fn.past
