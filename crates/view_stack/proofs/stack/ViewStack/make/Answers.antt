use Rattle.std.proofs.Common.{◌≡◌, ap, sym, ◌∙◌, subst, arith, length, refl, Some}
use Rattle.view_model.specs.Forest.{Forest, payload}
use Rattle.view_model.specs.Calls.{make_refused, parent_refused, limit_passed, made, parent_path}
use Rattle.view_stack.specs.declared.slot.Kept.TheVariants.{Live}
use Rattle.view_stack.specs.Slots.{TreeState}
use Rattle.view_stack.specs.Links.{IsOpen, IsSound}
use Rattle.view_stack.specs.Paths.{tree_path}
use Rattle.view_stack.specs.Forests.{StackState, IsTree, IsStack, forest_of}
use Rattle.view_stack.specs.ViewAnswers.{number_in}
use Rattle.view_stack.proofs.AddedViews.{added_is}
use Rattle.view_stack.proofs.Forests.{count-forest}
use Rattle.view_stack.proofs.Refusals.{ok_admits, none_parts, within_limits}
use Rattle.view_stack.proofs.ForestGrowth.{forest_made}
use Rattle.view_stack.proofs.Stacks.{tree_reserved, forest_reserved, stack_reserved, stack_made, went_well}
use Rattle.view_stack.proofs.stack.ViewStack.make.Goals as goal

pub overflow_add-self-inside : goal.overflow_add-self-inside
overflow_add-self-inside c = omega (arith, c.self.invariant.one)

pub invariant_of-self : goal.invariant_of-self
invariant_of-self c = subst (λ t. IsStack t c.self.inside.room) (sym c.reserve.ensures.same) (stack_reserved c.self.inside.tree c.reserve.new.self.capacity c.self.inside.room c.self.invariant c.reserve.ensures.grows)

pub returns-then-is_err-clause-step : goal.returns-then-is_err-clause-step
returns-then-is_err-clause-step c =
    let t = c.self.inside.tree in
    let admitted = ok_admits (make_refused (forest_of t) (number_in c.args.parent) c.args.batch) c.in-Ok.parent c.in-Ok.ensures in
    let same : forest_of t ≡ c.args.self.now.forest = ap (λ (s : StackState). s.forest) c.self.view_is in
    (ap (λ (f : Forest). make_refused f (number_in c.args.parent) c.args.batch) (sym same) ∙ admitted.0, ap forest_of c.reserve.ensures.same ∙ (forest_reserved t c.reserve.new.self.capacity ∙ same))

pub add-requires-clause-sound : goal.add-requires-clause-sound
add-requires-clause-sound c = subst IsSound (sym c.reserve.ensures.same) (tree_reserved c.self.inside.tree c.reserve.new.self.capacity c.self.invariant.tree).sound

pub add-requires-clause-few : goal.add-requires-clause-few
add-requires-clause-few c =
    let t = c.self.inside.tree in
    let p = number_in c.args.parent in
    let admitted = ok_admits (make_refused (forest_of t) p c.args.batch) c.in-Ok.parent c.in-Ok.ensures in
    let within = within_limits t p c.args.batch c.self.invariant.tree (none_parts (parent_refused (forest_of t) p) (limit_passed (forest_of t) p c.args.batch) admitted.0).1 in
    omega (arith, within.few, ap (λ (u : TreeState). length u.slots) c.reserve.ensures.same)

pub add-requires-clause-light : goal.add-requires-clause-light
add-requires-clause-light c =
    let t = c.self.inside.tree in
    let p = number_in c.args.parent in
    let admitted = ok_admits (make_refused (forest_of t) p c.args.batch) c.in-Ok.parent c.in-Ok.ensures in
    let within = within_limits t p c.args.batch c.self.invariant.tree (none_parts (parent_refused (forest_of t) p) (limit_passed (forest_of t) p c.args.batch) admitted.0).1 in
    omega (arith, within.light, ap (λ (u : TreeState). u.weight) c.reserve.ensures.same, ap payload c.in-Ok-new.ensures.ok)

pub invariant_of-self-2 : goal.invariant_of-self-2
invariant_of-self-2 c =
    let t = c.self.inside.tree in
    let u = c.reserve.new.self in
    let p = number_in c.args.parent in
    let admitted = ok_admits (make_refused (forest_of t) p c.args.batch) c.in-Ok.parent c.in-Ok.ensures in
    let within = within_limits t p c.args.batch c.self.invariant.tree (none_parts (parent_refused (forest_of t) p) (limit_passed (forest_of t) p c.args.batch) admitted.0).1 in
    let same = c.reserve.ensures.same in
    let spare = went_well c.reserve.result c.is_err.result c.is_err.ensures.value c.if-is_err.false c.reserve.ensures.room in
    let few = ap (λ (w : TreeState). length w.slots) same in
    let weight = ap (λ (w : TreeState). w.weight) same in
    subst (λ w. IsStack w c.self.inside.room) (sym c.add.ensures)
    (stack_made u c.in-Ok.parent c.self.inside.room (Live c.in-Ok-new.batch) c.args.batch (subst IsTree (sym same) (tree_reserved t u.capacity c.self.invariant.tree)) c.self.invariant.one (omega (arith, spare, few)) (subst (λ w. IsOpen w c.in-Ok.parent) (sym same) admitted.1.0) refl (ap payload c.in-Ok-new.ensures.ok)
    (record { few = omega (arith, within.few, few); light = omega (arith, within.light, weight) }))

pub returns-clause-step : goal.returns-clause-step
returns-clause-step c =
    let t = c.self.inside.tree in
    let u = c.reserve.new.self in
    let p = number_in c.args.parent in
    let admitted = ok_admits (make_refused (forest_of t) p c.args.batch) c.in-Ok.parent c.in-Ok.ensures in
    let same : forest_of t ≡ c.args.self.now.forest = ap (λ (s : StackState). s.forest) c.self.view_is in
    let kept : u ≡ record t { capacity = u.capacity } = c.reserve.ensures.same in
    let tree : IsTree u = subst IsTree (sym kept) (tree_reserved t u.capacity c.self.invariant.tree) in
    let on : IsOpen u c.in-Ok.parent = subst (λ w. IsOpen w c.in-Ok.parent) (sym kept) admitted.1.0 in
    let forest : forest_of u ≡ forest_of t = ap forest_of kept ∙ forest_reserved t u.capacity in
    let way : tree_path u c.in-Ok.parent ≡ parent_path (forest_of u) p = ap (λ w. tree_path w c.in-Ok.parent) kept ∙ (admitted.1.1 ∙ ap (λ (f : Forest). parent_path f p) (sym forest)) in
    let count = (added_is u c.in-Ok.parent (Live c.in-Ok-new.batch) tree.sound.linked on).count in (
      ap (λ (f : Forest). make_refused f p c.args.batch) (sym same) ∙ admitted.0,
      omega (arith, c.count.ensures, ap (λ (w : TreeState). length w.slots) c.add.ensures, count, ap (λ (w : TreeState). length w.slots) kept, count-forest t, ap (λ (f : Forest). length f.views) same),
      ap forest_of c.add.ensures ∙ (forest_made u c.in-Ok.parent (Live c.in-Ok-new.batch) tree.sound tree.marked on refl p c.args.batch way (ap Some c.in-Ok-new.ensures.ok) refl ∙ ap (λ (f : Forest). made f p c.args.batch) (forest ∙ same)),
    )
