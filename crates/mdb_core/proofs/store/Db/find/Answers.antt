use Rattle.std.proofs.Common.{ap, sym, ◌∙◌}
use Rattle.mdb_core.specs.Stores.{is_failed}
use Rattle.mdb_core.proofs.Refusals.{get_fails}
use Rattle.mdb_core.proofs.store.Db.find.Goals as goal

pub returns-in-Err-clause-fault : goal.returns-in-Err-clause-fault
returns-in-Err-clause-fault c =
    let works = ap is_failed (sym c.self.view_is) ∙ (sym c.failed.ensures ∙ c.if-failed.false) in
    get_fails c.args.self.now c.args.at c.in-View.id c.live.result c.in-Err.fault works c.in-View.is c.live.ensures c.in-Err.is
