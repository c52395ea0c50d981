use Rattle.std.proofs.Common.{◌<◌, sym, ap, subst, arith}
use Rattle.view_stack.specs.declared.slot.Slot.{Slot}
use Rattle.view_stack.specs.Links.{IsOn}
use Rattle.view_stack.proofs.WrittenViews.{live_has}
use Rattle.view_stack.proofs.ManyViewsEnd.{marked_dead, ends_then, child_on, child_later, parent_stays, child_falls, over_on, over_same, over_itself, has_same, count_same}
use Rattle.view_stack.proofs.tree.Tree.+end.Goals as goal

pub slot-requires : goal.slot-requires
slot-requires t c = live_has _ _ c.requires.live

pub end-requires : goal.end-requires
end-requires t c =
    let h = c.loop-child.invariant in
    let now = c.loop-child.self in
    let on : IsOn now c.args.number c.loop-child.child = child_on now _ _ h.0.linked h.1 h.3 c.loop-child-test.true in
    let later = child_later now _ _ h.0.linked.rooted on in
    let within = (live_has now c.loop-child.child on.live).within in
    (omega (arith, c.decreases, later, within, count_same c.args.self.now now h.2.parents_stay), (h.0, on.live))

pub slot-requires-in-loop-child : goal.slot-requires-in-loop-child
slot-requires-in-loop-child t c = has_same c.loop-child.self c.end.new.self _ c.end.ensures.ends.parents_stay (live_has c.loop-child.self _ c.loop-child.invariant.1)

pub loop-child-smaller : goal.loop-child-smaller
loop-child-smaller t c =
    let h = c.loop-child.invariant in
    let now = c.loop-child.self in
    let on : IsOn now c.args.number c.loop-child.child = child_on now _ _ h.0.linked h.1 h.3 c.loop-child-test.true in
    let still = parent_stays now c.end.new.self _ _ h.0.linked.rooted on h.1 c.end.ensures.ends in
    let falls = child_falls now c.end.new.self c.args.number c.loop-child.child (marked_dead c.args.closed) h.0.linked c.end.ensures.sound.linked c.end.ensures.ends h.1 still h.3 (live_has now _ on.live).given c.end.ensures.ended in
    subst (λ (s : Slot). s.first < c.loop-child.child) (sym c.slot-in-loop-child.ensures) falls

pub loop-child-preserved : goal.loop-child-preserved
loop-child-preserved t c =
    let h = c.loop-child.invariant in
    let now = c.loop-child.self in
    let on : IsOn now c.args.number c.loop-child.child = child_on now _ _ h.0.linked h.1 h.3 c.loop-child-test.true in (
      c.end.ensures.sound,
      parent_stays now c.end.new.self _ _ h.0.linked.rooted on h.1 c.end.ensures.ends,
      ends_then c.args.self.now now c.end.new.self (marked_dead c.args.closed) h.2 c.end.ensures.ends (λ m over. over_same now c.args.self.now _ m (sym h.2.parents_stay) (over_on now _ _ m h.0.linked.rooted on over)),
      ap (λ (s : Slot). s.first) c.slot-in-loop-child.ensures,
    )

pub returns-clause-ends : goal.returns-clause-ends
returns-clause-ends t c =
    let h = c.loop-child.invariant in
    ends_then c.args.self.now c.loop-child.self c.end_one.new.self (marked_dead c.args.closed) h.2 c.end_one.ensures.ends (λ m e. over_itself c.args.self.now c.args.number m e)
