use Rattle.std.proofs.Common.{◌≡◌, ◌≢◌, ◌∙◌, ap, length, arith}
use Rattle.view_stack.specs.Slots.{TreeState}
use Rattle.view_stack.specs.Tree.{Has, first_on}
use Rattle.view_stack.proofs.WrittenViews.{live_has, open_within, length-with_first}
use Rattle.view_stack.proofs.tree.Tree.add.Goals as goal

pub first_on-next-requires : goal.first_on-next-requires
first_on-next-requires c = open_within c.args.self.now c.args.parent c.requires.sound.linked.rooted.known c.requires.on

pub set_first_on-requires : goal.set_first_on-requires
set_first_on-requires c = open_within c.args.self.now c.args.parent c.requires.sound.linked.rooted.known c.requires.on

pub set_prev-requires : goal.set_prev-requires
set_prev-requires c =
    let t = c.args.self.now in
    let link = c.requires.sound.linked in
    let some : first_on t c.args.parent ≢ 0 = λ z. c.if-next-ne0.true (c.first_on-next.ensures ∙ z) in
    let h : Has t (first_on t c.args.parent) = live_has _ _ (link.first c.args.parent c.requires.on some).live in
    let count : length c.set_first_on.new.self.slots ≡ length t.slots = ap (λ (u : TreeState). length u.slots) c.set_first_on.ensures ∙ length-with_first t c.args.parent _ in
    record { given = omega (arith, h.given, c.first_on-next.ensures); within = omega (arith, h.within, c.first_on-next.ensures, count) }
