use Rattle.std.proofs.Common.{◌≡◌, ap, sym, ◌∙◌}
use Rattle.view_model.specs.Forest.{Forest}
use Rattle.view_model.specs.Calls.{view_refused, closed}
use Rattle.view_stack.specs.Forests.{StackState, forest_of}
use Rattle.view_stack.proofs.Refusals.{ok_admits}
use Rattle.view_stack.proofs.ClosedViews.{forest_closed}
use Rattle.view_stack.proofs.Stacks.{stack_closed}
use Rattle.view_stack.proofs.stack.ViewStack.close.Goals as goal

pub invariant_of-self : goal.invariant_of-self
invariant_of-self c =
    let admitted = ok_admits (view_refused (forest_of c.self.inside.tree) c.args.id.number) c.in-Ok.number c.in-Ok.ensures in
    stack_closed c.self.inside.tree c.end.new.self c.self.inside.room c.in-Ok.number c.self.invariant c.end.ensures.sound admitted.1.1 c.end.ensures.ended c.end.ensures.ends

pub returns-in-Ok-clause-step : goal.returns-in-Ok-clause-step
returns-in-Ok-clause-step c =
    let t = c.self.inside.tree in
    let tree = c.self.invariant.tree in
    let admitted = ok_admits (view_refused (forest_of t) c.args.id.number) c.in-Ok.number c.in-Ok.ensures in
    let same : forest_of t ≡ c.args.self.now.forest = ap (λ (s : StackState). s.forest) c.self.view_is in (
      ap (λ (f : Forest). view_refused f c.args.id.number) (sym same) ∙ admitted.0,
      forest_closed t c.end.new.self c.in-Ok.number tree.sound.linked.rooted c.end.ensures.sound.linked.rooted tree.marked admitted.1.1 c.end.ensures.ended c.end.ensures.ends
          ∙ (ap (closed (forest_of t)) admitted.1.0 ∙ ap (λ (f : Forest). closed f c.args.id.number) same),
    )
