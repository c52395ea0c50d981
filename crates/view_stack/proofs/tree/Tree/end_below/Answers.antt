use Rattle.std.proofs.Common.{◌<◌, inr, ◌∙◌, sym, ap, refl, subst}
use Rattle.view_stack.specs.declared.slot.Slot.{Slot}
use Rattle.view_stack.proofs.WrittenViews.{live_has}
use Rattle.view_stack.proofs.ManyViewsEnd.{ends_then, has_same}
use Rattle.view_stack.proofs.Siblings.{next_on, on_stays, beside_some, top_stays, next_falls}
use Rattle.view_stack.proofs.tree.Tree.end_below.Goals as goal

pub slot-requires : goal.slot-requires
slot-requires c = live_has _ _ c.requires.on.live

pub slot-requires-in-loop-next : goal.slot-requires-in-loop-next
slot-requires-in-loop-next c = has_same c.loop-next.self c.end.new.self _ c.end.ensures.ends.parents_stay (live_has c.loop-next.self _ c.loop-next.invariant.1.live)

pub loop-next-smaller : goal.loop-next-smaller
loop-next-smaller c =
    let h = c.loop-next.invariant in
    let now = c.loop-next.self in
    let n = next_on now c.args.number c.loop-next.next h.0.linked h.1 h.4 c.loop-next-test.true in
    let still = on_stays now c.end.new.self c.args.number c.loop-next.next h.0.linked.rooted n.0 n.1 h.1 c.end.ensures.ends in
    let same = still.parent ∙ (c.end.ensures.ends.last ∙ sym h.1.parent) in
    subst (λ (s : Slot). s.next < c.loop-next.next) (sym c.slot-in-loop-next.ensures)
    (next_falls now c.end.new.self c.args.number c.loop-next.next refl h.0.linked c.end.ensures.sound.linked c.end.ensures.ends h.1.live still.live same h.4 (live_has now _ n.0.live).given c.end.ensures.ended)

pub loop-next-preserved : goal.loop-next-preserved
loop-next-preserved c =
    let h = c.loop-next.invariant in
    let now = c.loop-next.self in
    let n = next_on now c.args.number c.loop-next.next h.0.linked h.1 h.4 c.loop-next-test.true in
    let still = on_stays now c.end.new.self c.args.number c.loop-next.next h.0.linked.rooted n.0 n.1 h.1 c.end.ensures.ends in (
      c.end.ensures.sound,
      still,
      top_stays now c.end.new.self c.args.number refl h.0.linked c.end.ensures.sound.linked c.end.ensures.ends still h.2,
      ends_then c.args.self.now now c.end.new.self refl h.3 c.end.ensures.ends (λ m over. beside_some c.args.self.now now c.args.number c.loop-next.next m h.3.parents_stay h.0.linked.rooted n.0 n.1 (inr h.1) over),
      ap (λ (s : Slot). s.next) c.slot-in-loop-next.ensures,
    )
