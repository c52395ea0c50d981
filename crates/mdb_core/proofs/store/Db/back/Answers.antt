use Rattle.std.proofs.Common.{◌≡◌, option_map}
use Rattle.trie_model.specs.Maps.{root}
use Rattle.history_model.specs.Held.{back}
use Rattle.mdb_core.proofs.HeldMaps.{said_of_held}
use Rattle.mdb_core.proofs.store.Db.back.Goals as goal

pub returns-clause-maps : goal.returns-clause-maps
returns-clause-maps c = λ m r. said_of_held (λ w maps. c.back.result ≡ option_map (root w) (back c.args.commits maps)) _ c.args.self.now m c.self.view_is c.back.ensures.recalls r
