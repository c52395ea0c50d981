use Rattle.std.proofs.Common.{ap, sym}
use Rattle.trie_items.specs.Sources.{first_key}
use Rattle.mdb_core.proofs.EmptyMaps.{empty_table}
use Rattle.mdb_core.proofs.store.Db.root_key_at.Goals as goal

pub returns-in-Empty-clause-key : goal.returns-in-Empty-clause-key
returns-in-Empty-clause-key c = λ m n e is. sym (ap first_key (empty_table c.args.self.now m c.args.spot.now n c.args.self.now.width c.in-Empty.is is))
