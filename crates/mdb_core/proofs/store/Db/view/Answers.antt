use Rattle.std.proofs.Common.{ap, sym, ◌∙◌, subst, ◌++◌, ◌∷◌, []}
use Rattle.view_model.proofs.Forests.{parent_passed}
use Rattle.view_stack.specs.ViewAnswers.{number_in}
use Rattle.mdb_core.specs.Stores.{DbState, Keeps}
use Rattle.mdb_core.proofs.StoresAfterCalls.{proposed, kept, root_at-made}
use Rattle.mdb_core.proofs.store.Db.view.Goals as goal

pub invariant_of-self-in-Ok-make : goal.invariant_of-self-in-Ok-make
invariant_of-self-in-Ok-make g c =
    let may = c.in-Ok.ensures.may in
    let p = number_in c.args.parent in
    proposed _ c.args.self.now c.in-Ok.root p c.args.batch c.make.new.self.forest c.reserve.new.self.items c.push_reserved.new.self.items c.self.view_is c.self.invariant
    (parent_passed c.args.self.now.forest p c.args.batch may.may.allowed) may.fits c.in-Ok.ensures.root c.in-Ok-make.ensures.step.2 c.reserve.ensures.items c.push_reserved.ensures.items

pub returns-in-Ok-make-clause-keeps : goal.returns-in-Ok-make-clause-keeps
returns-in-Ok-make-clause-keeps g c = λ m files k.
    let before = subst (λ (s : DbState). Keeps s m files) (sym c.self.view_is) k in
    kept _ m files (invariant_of-self-in-Ok-make g c) before.values before.digests before.history

pub returns-in-Ok-make-clause-root : goal.returns-in-Ok-make-clause-root
returns-in-Ok-make-clause-root g c = λ m e.
    let roots = c.push_reserved.ensures.items ∙ ap (λ xs. xs ++ c.in-Ok.root ∷ []) c.reserve.ensures.items in
    root_at-made _ c.in-Ok.root c.push_reserved.new.self.items c.in-Ok-make.id.number c.self.invariant roots c.in-Ok-make.ensures.step.1 ∙ c.in-Ok.ensures.root m e
