use Rattle.std.proofs.Common.{◌≡◌, drop}
use Rattle.trie_model.specs.Maps.{Map, map_digests}
use Rattle.view_model.specs.Maps.{laid}
use Rattle.view_model.specs.Standing.{AreLive}
use Rattle.view_stack.specs.ViewAnswers.{numbers}
use Rattle.node_table.specs.Pairs.{AreShort}
use Rattle.mdb_core.specs.Stores.{keys_of}
use Rattle.mdb_core.proofs.store.Db.lay_all.Given as goal

abbrev pub invariant-loop-id : goal.invariant-loop-id
invariant-loop-id l = record {
  live : AreLive l.fn.self.forest (numbers (drop l.id-index l.fn.ids));
  laid : (m : Map) → l.fn.digests ≡ map_digests m → (n : Map) × (l.digests ≡ map_digests n) × (laid l.fn.self.forest n (numbers (drop l.id-index l.fn.ids)) ≡ laid l.fn.self.forest m (numbers l.fn.ids));
  short : AreShort (keys_of l.fn.digests) → AreShort (keys_of l.digests);
}
