use Rattle.std.proofs.Common.{◌≡◌, ◌≤◌, ◌∙◌, sym, ap, length, arith, subst}
use Rattle.view_stack.specs.declared.slot.Slot.{Slot}
use Rattle.view_stack.specs.Slots.{TreeState}
use Rattle.view_stack.specs.Tree.{Has, slot_at}
use Rattle.view_stack.proofs.WrittenViews.{live_has, open_within, length-with_first, length-with_slot}
use Rattle.view_stack.proofs.tree.Tree.unlink.Goals as goal
use Rattle.view_stack.proofs.tree.Tree.unlink.Goals.{then-prev-eq0, else-prev-eq0}

pub slot-slot-requires : goal.slot-slot-requires
slot-slot-requires c = live_has _ _ c.requires.live

pub set_first_on-requires : goal.set_first_on-requires
set_first_on-requires c =
    let link = c.requires.linked in
    subst (λ (s : Slot). s.parent ≤ length c.args.self.now.slots) (sym c.slot-slot.ensures) (open_within c.args.self.now _ link.rooted.known (link.rooted.stands c.args.number c.requires.live))

pub set_next-requires : goal.set_next-requires
set_next-requires c =
    let link = c.requires.linked in
    subst (λ (s : Slot). Has c.args.self.now s.prev) (sym c.slot-slot.ensures) (live_has _ _ (link.prev c.args.number c.requires.live (λ e. c.if-prev-eq0.false (ap (λ (s : Slot). s.prev) c.slot-slot.ensures ∙ e))).0.live)

pub set_prev-requires : goal.set_prev-requires
set_prev-requires c =
    let link = c.requires.linked in
    let h : Has c.args.self.now c.slot-slot.result.now.next = subst (λ (s : Slot). Has c.args.self.now s.next) (sym c.slot-slot.ensures) (live_has _ _ (link.next c.args.number c.requires.live (λ e. c.if-next-ne0.true (ap (λ (s : Slot). s.next) c.slot-slot.ensures ∙ e))).0.live) in
    let count : length c.if-prev-eq0.self.slots ≡ length c.args.self.now.slots = elim c.if-prev-eq0.branch [
      | then-prev-eq0 w ↦ ap (λ (t : TreeState). length t.slots) (w.self-is ∙ w.set_first_on.ensures) ∙ length-with_first c.args.self.now c.slot-slot.result.now.parent c.slot-slot.result.now.next
      | else-prev-eq0 w ↦ ap (λ (t : TreeState). length t.slots) (w.self-is ∙ w.set_next.ensures) ∙ length-with_slot c.args.self.now c.slot-slot.result.now.prev (record (slot_at c.args.self.now.slots c.slot-slot.result.now.prev) { next = c.slot-slot.result.now.next })
    ] in
    record { given = h.given; within = omega (arith, h.within, count) }
