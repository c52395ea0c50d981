use Rattle.std.proofs.Common.{refl, ◌∙◌}
use Rattle.proof_check.proofs.PathOrders.{children_compare}
use Rattle.proof_check.proofs.paths.same_children.Goals as goal

pub returns : goal.returns
returns c = c.eq.ensures ∙ children_compare _ (λ x y. refl) c.args.a.now c.args.b.now
