use Rattle.std.proofs.Common.{◌≡◌}
use Rattle.history_model.specs.Held.{is_held}
use Rattle.mdb_core.proofs.HeldMaps.{said_of_held}
use Rattle.mdb_core.proofs.store.Db.held.Goals as goal

pub returns-clause-maps : goal.returns-clause-maps
returns-clause-maps c = λ m r. said_of_held (λ w maps. c.held.result ≡ is_held w maps c.args.root.now) _ c.args.self.now m c.self.view_is c.held.ensures.recalls r
