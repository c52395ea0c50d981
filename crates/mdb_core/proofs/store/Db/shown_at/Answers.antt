use Rattle.std.proofs.Common.{ap, sym, List}
use Rattle.std.specs.Prelude.{option_map}
use Rattle.trie_model.specs.Table.{Row}
use Rattle.trie_items.specs.Shown.{shown_of}
use Rattle.trie_items.specs.Sources.{row_of}
use Rattle.mdb_core.proofs.EmptyMaps.{empty_table}
use Rattle.mdb_core.proofs.store.Db.shown_at.Goals as goal

pub returns-in-Empty-clause-shown : goal.returns-in-Empty-clause-shown
returns-in-Empty-clause-shown c = λ m n e is.
    sym (ap (λ (rows : List Row). option_map (shown_of c.args.token) (row_of c.args.key.now rows)) (empty_table c.args.self.now m c.args.spot.now n c.args.self.now.width c.in-Empty.is is))
