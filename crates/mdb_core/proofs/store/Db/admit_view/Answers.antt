use Rattle.std.proofs.Common.{sym, ◌∙◌, subst}
use Rattle.view_stack.specs.ViewAnswers.{number_in}
use Rattle.mdb_core.specs.Stores.{DbState}
use Rattle.mdb_core.specs.Proposals.{MakeFails}
use Rattle.mdb_core.proofs.Refusals.{make_fails}
use Rattle.mdb_core.proofs.store.Db.admit_view.Goals as goal

pub returns-in-Err-clause-fault : goal.returns-in-Err-clause-fault
returns-in-Err-clause-fault c =
    subst (λ (s : DbState). MakeFails s (number_in c.args.parent) c.args.batch.now c.told_of_view.result) c.self.view_is
    (make_fails _ (number_in c.args.parent) c.args.batch.now c.may.result c.in-Err.fault c.told_of_view.result (sym c.failed.ensures ∙ c.if-failed.false) c.may.ensures c.in-Err.is c.told_of_view.ensures)
