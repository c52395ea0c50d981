use Rattle.std.proofs.Common.{subst, sym}
use Rattle.mdb_core.specs.Stores.{DbState, Keeps}
use Rattle.mdb_core.proofs.StoresAfterCalls.{kept, closed_or_not}
use Rattle.mdb_core.proofs.store.Db.close_view.Goals as goal

pub invariant_of-self : goal.invariant_of-self
invariant_of-self c = closed_or_not _ c.args.id.number c.close.result c.close.new.self.forest c.self.invariant c.close.ensures.step

pub returns-clause-keeps : goal.returns-clause-keeps
returns-clause-keeps c = λ m files k.
    let before = subst (λ (s : DbState). Keeps s m files) (sym c.self.view_is) k in
    kept _ m files (invariant_of-self c) before.values before.digests before.history
