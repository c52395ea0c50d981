use Rattle.std.proofs.Common.{◌≡◌, ◌+◌, ◌-◌, ◌/◌, ap, sym, subst, Vec, Global}
use Rattle.change_history.specs.declared.net.Net.{Net}
use Rattle.change_history.specs.NetChanges.{nets_of, IsSum}
use Rattle.change_history.specs.MergedDeltas.{IsMerged}
use Rattle.change_history.proofs.CallAnswers.{if_ok}
use Rattle.change_history.proofs.NetsBetweenMaps.{no_sum, two_sums}
use Rattle.change_history.proofs.history.History.+sum.Goals as goal

pub returns-then-former-later : goal.returns-then-former-later
returns-then-former-later t c = no_sum c.args.self.now c.args.range.now c.args.former c.args.later (nets_of c.new.result.items) c.if-former-later.true (ap nets_of c.new.ensures.items)

pub returns : goal.returns
returns t c =
    let middle = c.args.later + (c.args.former - c.args.later) / 2 in
    if_ok (λ (v : Vec Net Global). IsMerged (nets_of c.deref.result.now) (nets_of c.deref-2.result.now) (nets_of v.items)) (λ (v : Vec Net Global). IsSum c.args.self.now c.args.range.now c.args.former c.args.later (nets_of v.items)) c.merge.result
    (λ v m. two_sums c.args.self.now c.args.range.now c.args.former middle c.args.later (nets_of c.deref.result.now) (nets_of c.deref-2.result.now) (nets_of v.items)
    (subst (IsSum c.args.self.now c.args.range.now c.args.former middle) (sym (ap nets_of c.deref.ensures.value)) c.in_ok-older.ensures)
    (subst (IsSum c.args.self.now c.args.range.now middle c.args.later) (sym (ap nets_of c.deref-2.ensures.value)) c.in_ok-newer.ensures) m) c.merge.ensures
