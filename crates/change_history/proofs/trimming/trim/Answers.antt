use Rattle.std.proofs.Common.{◌≡◌, ℕ, ◌<◌, ◌≤◌, ◌∙◌, sym, ap, arith}
use Rattle.std.specs.List.{sum_by}
use Rattle.change_history.specs.Histories.{CommitState, commit_weight}
use Rattle.change_history.proofs.KeptCommits.{kept-all, none_left, one_less}
use Rattle.change_history.proofs.trimming.trim.Goals as goal

pub returns-in_default-clause-weight : goal.returns-in_default-clause-weight
returns-in_default-clause-weight c =
    absurd (none_left c.args.limit c.loop-sum.sum c.loop-sum.ring.items (sym c.pop_back.ensures.value ∙ c.in_default.is) c.loop-sum.invariant.weight c.loop-sum-test.true)

pub returns-in_default-clause-light : goal.returns-in_default-clause-light
returns-in_default-clause-light c =
    absurd (none_left c.args.limit c.loop-sum.sum c.loop-sum.ring.items (sym c.pop_back.ensures.value ∙ c.in_default.is) c.loop-sum.invariant.weight c.loop-sum-test.true)

pub overflow_sub-sum : goal.overflow_sub-sum
overflow_sub-sum c =
    let p = one_less c.args.limit 0 c.loop-sum.ring.items c.pop_back.new.self.items c.in-Some.gone (sym c.pop_back.ensures.value ∙ c.in-Some.is) (ap (λ b. b.items) c.pop_back.ensures.items) (omega (arith, c.loop-sum.invariant.weight, c.loop-sum-test.true)) in
    omega (arith, p.1, c.loop-sum.invariant.weight, c.weight-sum.ensures.exact)

pub loop-sum-preserved : goal.loop-sum-preserved
loop-sum-preserved c =
    let is = sym c.pop_back.ensures.value ∙ c.in-Some.is in
    let heavy : c.args.limit < sum_by commit_weight c.loop-sum.ring.items = omega (arith, c.loop-sum.invariant.weight, c.loop-sum-test.true) in
    let left = ap (λ b. b.items) c.pop_back.ensures.items in
    let p = one_less c.args.limit 0 c.loop-sum.ring.items c.pop_back.new.self.items c.in-Some.gone is left heavy in
    record {
      same = λ n few. (one_less c.args.limit n c.loop-sum.ring.items c.pop_back.new.self.items c.in-Some.gone is left heavy).0 ∙ c.loop-sum.invariant.same n few;
      few = omega (arith, p.2, c.loop-sum.invariant.few);
      weight = omega (arith, p.1, c.loop-sum.invariant.weight, c.weight-sum.ensures.exact);
      capacity = ap (λ b. b.capacity) c.pop_back.ensures.items ∙ c.loop-sum.invariant.capacity;
    }

pub returns-clause-kept : goal.returns-clause-kept
returns-clause-kept c = λ n few. sym (kept-all n c.args.limit c.loop-sum.ring.items (omega (arith, few, c.loop-sum.invariant.few)) (omega (arith, c.loop-sum.invariant.weight))) ∙ c.loop-sum.invariant.same n few
