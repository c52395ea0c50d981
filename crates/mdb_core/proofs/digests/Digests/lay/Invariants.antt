use Rattle.std.proofs.Common.{◌≡◌, drop}
use Rattle.trie_model.specs.Maps.{Map, map_digests}
use Rattle.batch_model.specs.Batch.{after_batch}
use Rattle.node_table.specs.Pairs.{AreShort}
use Rattle.mdb_core.specs.Stores.{keys_of}
use Rattle.mdb_core.proofs.digests.Digests.lay.Given as goal

abbrev pub invariant-loop-change : goal.invariant-loop-change
invariant-loop-change l = record {
  laid : (m : Map) → l.fn.self ≡ map_digests m → (n : Map) × (l.self ≡ map_digests n) × (after_batch n (drop l.change-index l.change-items) ≡ after_batch m l.fn.batch);
  short : AreShort (keys_of l.fn.self) → AreShort (keys_of l.self);
}
