use Rattle.std.proofs.Common.{◌≡◌, ◌∙◌, sym, ap, refl, subst}
use Rattle.view_stack.specs.Slots.{TreeState}
use Rattle.view_stack.specs.Tree.{live_at}
use Rattle.view_stack.specs.EndedViews.{Ends, IsOver}
use Rattle.view_stack.proofs.ManyViewsEnd.{ends_then}
use Rattle.view_stack.proofs.Siblings.{top_on, some_stays, beside_some, top_falls}
use Rattle.view_stack.proofs.tree.Tree.end_above.Goals as goal

pub end-requires-clause-live : goal.end-requires-clause-live
end-requires-clause-live c =
    let h = c.loop-self.invariant in
    let e : c.self.inside.top ≡ c.loop-self.self.top = ap (λ (t : TreeState). t.top) c.self.view_is in
    ap (live_at c.loop-self.self) e ∙ (top_on c.loop-self.self _ h.0.linked h.1 (λ s. c.loop-self-test.true (e ∙ s))).live

pub loop-self-smaller : goal.loop-self-smaller
loop-self-smaller c =
    let h = c.loop-self.invariant in
    let now = c.loop-self.self in
    let e : c.self.inside.top ≡ now.top = ap (λ (t : TreeState). t.top) c.self.view_is in
    let on = top_on now _ h.0.linked h.1 (λ s. c.loop-self-test.true (e ∙ s)) in
    top_falls now c.end.new.self refl h.0.linked c.end.ensures.sound.linked c.end.ensures.ends on (ap (live_at c.end.new.self) (sym e) ∙ c.end.ensures.ended)

pub loop-self-preserved : goal.loop-self-preserved
loop-self-preserved c =
    let h = c.loop-self.invariant in
    let now = c.loop-self.self in
    let e : c.self.inside.top ≡ now.top = ap (λ (t : TreeState). t.top) c.self.view_is in
    let on = top_on now _ h.0.linked h.1 (λ s. c.loop-self-test.true (e ∙ s)) in (
      c.end.ensures.sound,
      some_stays now c.end.new.self _ now.top h.0.linked.rooted on (λ s. c.loop-self-test.true (e ∙ s)) h.1 (subst (λ k. Ends _ (IsOver now k) now c.end.new.self) e c.end.ensures.ends),
      ends_then c.args.self.now now c.end.new.self refl h.2 c.end.ensures.ends (λ m over. beside_some c.args.self.now now _ now.top m h.2.parents_stay h.0.linked.rooted on (λ s. c.loop-self-test.true (e ∙ s)) h.1 (subst (λ k. IsOver now k m) e over)),
    )
