use Rattle.std.proofs.Common.{ap, sym}
use Rattle.trie_items.specs.Sources.{row_of}
use Rattle.mdb_core.proofs.EmptyMaps.{empty_table}
use Rattle.mdb_core.proofs.store.Db.node_at.Goals as goal

pub returns-in-Empty-clause-node : goal.returns-in-Empty-clause-node
returns-in-Empty-clause-node c = λ m n e is.
    sym (ap (row_of c.args.key.now) (empty_table c.args.self.now m c.args.spot.now n c.args.self.now.width c.in-Empty.is is))
