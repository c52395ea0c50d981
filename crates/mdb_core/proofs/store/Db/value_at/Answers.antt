use Rattle.std.proofs.Common.{ap, sym, ◌∙◌}
use Rattle.std.specs.FinMap.{get, get-empty}
use Rattle.base_model.specs.Bytes.{bytes_cmp}
use Rattle.trie_model.specs.Maps.{Map}
use Rattle.mdb_core.proofs.EmptyMaps.{names_none}
use Rattle.mdb_core.proofs.store.Db.value_at.Goals as goal

pub returns-in-Empty-clause-value : goal.returns-in-Empty-clause-value
returns-in-Empty-clause-value g c = λ told m n k is.
    sym (ap (λ (x : Map). get x c.args.key.now) (names_none c.args.self.now m c.args.spot.now n c.in-Empty.is is) ∙ get-empty bytes_cmp c.args.key.now)
