use Rattle.history_model.specs.Between.{changes_between}
use Rattle.change_history.specs.ToldChanges.{Tells}
use Rattle.mdb_core.proofs.HeldMaps.{said_of_held}
use Rattle.mdb_core.proofs.store.Db.changes.Goals as goal

pub returns-clause-maps : goal.returns-clause-maps
returns-clause-maps c = λ m r.
    said_of_held (λ w maps. Tells c.args.pairs c.args.bytes (changes_between w maps c.args.from.now c.args.to.now c.args.range.now) c.changes.result) _ c.args.self.now m c.self.view_is c.changes.ensures.recalls r
