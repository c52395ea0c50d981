use Rattle.std.proofs.Common.{◌≡◌, ◌+◌, ◌∙◌, ap, sym, arith, length}
use Rattle.change_history.specs.Histories.{HistoryState, roots}
use Rattle.change_history.proofs.RootPlaces.{right_here, not_here, not_past, length-roots}
use Rattle.change_history.proofs.history.History.find.Goals as goal

pub returns-then-is_at : goal.returns-then-is_at
returns-then-is_at c = record {
  first = right_here c.args.root.now c.loop-place.place (roots c.args.self.now) (sym c.is_at.ensures ∙ c.if-is_at.true) ∙ c.loop-place.invariant;
  within = (c.loop-place.auto.place, omega (arith, c.loop-place-test.true, c.len-end.ensures.len, ap (λ (h : HistoryState). length h.ring) c.self.view_is));
}

pub loop-place-preserved : goal.loop-place-preserved
loop-place-preserved c = not_here c.args.root.now c.loop-place.place (c.loop-place.place + 1) (roots c.args.self.now) (omega arith) (sym c.is_at.ensures ∙ c.if-is_at.false) ∙ c.loop-place.invariant

pub returns : goal.returns
returns c = record {
  first = not_past c.args.root.now c.loop-place.place (roots c.args.self.now) (omega (arith, length-roots c.args.self.now, c.loop-place-test.false, c.len-end.ensures.len, ap (λ (h : HistoryState). length h.ring) c.self.view_is)) ∙ c.loop-place.invariant;
  within = tt;
}
