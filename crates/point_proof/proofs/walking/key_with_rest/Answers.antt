use Rattle.std.proofs.Common.{◌≡◌, arith, sym, ◌∙◌, subst, IfOk}
use Rattle.point_proof.proofs.JoinedKeys.{cut_off}
use Rattle.point_proof.proofs.walking.key_with_rest.Goals as goal

pub overflow_add-bits : goal.overflow_add-bits
overflow_add-bits c =
    let within = (cut_off c.args.bits c.bits.result c.args.wanted.now c.args.rest.now c.requires c.bits.ensures (sym c.in_ok-stands_behind.ensures ∙ c.if-branch.true)).0 in
    omega (arith, within, c.bits-total.ensures)

pub first-requires : goal.first-requires
first-requires c = (cut_off c.args.bits c.bits.result c.args.wanted.now c.args.rest.now c.requires c.bits.ensures (sym c.in_ok-stands_behind.ensures ∙ c.if-branch.true)).0

pub returns-then-branch : goal.returns-then-branch
returns-then-branch c =
    let cut = (cut_off c.args.bits c.bits.result c.args.wanted.now c.args.rest.now c.requires c.bits.ensures (sym c.in_ok-stands_behind.ensures ∙ c.if-branch.true)).1 in
    subst (λ key. IfOk c.first.result (λ k. k ≡ key)) cut c.first.ensures
