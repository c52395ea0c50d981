use Rattle.std.proofs.Common.{◌≡◌, ℕ, ◌<◌, ◌≤◌, ◌∙◌, ◌∷◌, length, sym, ap, arith}
use Rattle.std.specs.List.{sum_by}
use Rattle.change_history.specs.Histories.{commit_weight, kept}
use Rattle.change_history.proofs.KeptCommits.{one_more, room_left, sum-cons, kept-take, length-kept, length-take_most}
use Rattle.change_history.proofs.trimming.put.Goals as goal
use Rattle.change_history.proofs.trimming.put.Goals.{in-Some, in_default}

pub overflow_sub-sum : goal.overflow_sub-sum
overflow_sub-sum c =
    let p = one_more c.args.ring.now.capacity c.args.ring.now.items c.push_front.new.self.items c.args.commit c.in-Some.gone c.requires.few (ap (λ b. b.items) c.push_front.ensures.items) (sym c.push_front.ensures.value ∙ c.in-Some.is) in
    omega (arith, p, c.requires.weight, c.weight.ensures.exact, c.weight-sum.ensures.exact)

pub trim-requires : goal.trim-requires
trim-requires c = elim c.match-push_front.branch [
  | in-Some w ↦
      let p = one_more c.args.ring.now.capacity c.args.ring.now.items c.push_front.new.self.items c.args.commit w.in-Some.gone c.requires.few (ap (λ b. b.items) c.push_front.ensures.items) (sym c.push_front.ensures.value ∙ w.in-Some.is) in
      omega (arith, p, c.requires.weight, c.weight.ensures.exact, w.weight-sum.ensures.exact, w.sum-is)
  | in_default w ↦
      let p = ap (sum_by commit_weight) (room_left c.args.ring.now.capacity c.args.ring.now.items c.push_front.new.self.items c.args.commit (ap (λ b. b.items) c.push_front.ensures.items) (sym c.push_front.ensures.value ∙ w.in_default.is)) in
      omega (arith, p, sum-cons c.args.commit c.args.ring.now.items, c.requires.weight, c.weight.ensures.exact, w.sum-is)
]

kept_items : (c : goal.After-trim) → c.trim.new.ring.items ≡ kept c.args.ring.now.capacity c.args.limit (c.args.commit ∷ c.args.ring.now.items)
kept_items c =
    let n = c.args.ring.now.capacity in
    let front = ap (λ b. b.items) c.push_front.ensures.items in
    c.trim.ensures.kept n (omega (arith, ap length front, length-take_most n (c.args.commit ∷ c.args.ring.now.items)))
    ∙ ap (λ cs. kept n c.args.limit cs) front ∙ kept-take n n c.args.limit (c.args.commit ∷ c.args.ring.now.items) (omega arith)

pub returns-clause-kept : goal.returns-clause-kept
returns-clause-kept c = kept_items c

pub returns-clause-ring : goal.returns-clause-ring
returns-clause-ring c = record {
  few = omega (arith, ap length (kept_items c), length-kept c.args.ring.now.capacity c.args.limit (c.args.commit ∷ c.args.ring.now.items), c.trim.ensures.capacity, ap (λ b. b.capacity) c.push_front.ensures.items);
  weight = c.trim.ensures.weight;
}
