use Rattle.std.proofs.Common.{◌≡◌, ◌++◌, reverse, ◌∙◌, sym, ap, subst}
use Rattle.view_stack.specs.declared.slot.Slot.{Slot}
use Rattle.view_stack.specs.Slots.{TreeState}
use Rattle.view_stack.specs.Links.{parent_at, IsOpen}
use Rattle.view_stack.specs.Paths.{tree_path}
use Rattle.view_stack.specs.ViewAnswers.{numbers}
use Rattle.view_stack.proofs.Paths.{down}
use Rattle.view_stack.proofs.ChainNumbers.{gathered, numbers-reverse}
use Rattle.view_stack.proofs.tree.Tree.chain.Goals as goal

pub loop-at-preserved : goal.loop-at-preserved
loop-at-preserved c =
    let t = c.args.self.now in
    let h = c.loop-at.invariant in
    let e = ap (λ (u : TreeState). u.last) c.self.view_is in
    let d = down t c.loop-at.at c.requires.rooted h.0 (λ s. c.loop-at-test.true (s ∙ sym e)) in
    let p : c.slot.result.now.parent ≡ parent_at t c.loop-at.at = ap (λ (s : Slot). s.parent) c.slot.ensures in
    subst (λ q. IsOpen t q × (tree_path t c.args.view ≡ tree_path t q ++ reverse (numbers c.push.new.self.items))) (sym p) (
      d.on,
      gathered (tree_path t c.args.view) (tree_path t c.loop-at.at) (tree_path t (parent_at t c.loop-at.at)) c.loop-at.at c.loop-at.ids.items (record { number = c.from.result }) h.1 d.step c.from.ensures
          ∙ ap (λ l. tree_path t (parent_at t c.loop-at.at) ++ reverse (numbers l)) (sym c.in_ok-push.ensures.items),
    )

pub returns : goal.returns
returns c =
    let t = c.args.self.now in
    let h = c.loop-at.invariant in
    let e : c.loop-at.at ≡ t.last = c.loop-at-test.false ∙ ap (λ (u : TreeState). u.last) c.self.view_is in
    h.1 ∙ (ap (λ q. tree_path t q ++ reverse (numbers c.loop-at.ids.items)) e ∙ ap (λ l. tree_path t t.last ++ l) (sym (numbers-reverse c.loop-at.ids.items) ∙ ap numbers (sym c.reverse.ensures.items)))
