use Rattle.std.proofs.Common.{◌≡◌, ◌+◌, ◌≤◌, ◌∙◌, subst, [], ◌∷◌, sym, ap, length, length-append, arith}
use Rattle.view_stack.specs.declared.slot.Slot.{Slot}
use Rattle.view_stack.specs.Slots.{TreeState}
use Rattle.view_stack.specs.Links.{parent_at, IsOpen}
use Rattle.view_stack.specs.Paths.{tree_path}
use Rattle.view_stack.proofs.Paths.{down}
use Rattle.view_stack.proofs.tree.Tree.depth.Goals as goal

pub loop-from-preserved : goal.loop-from-preserved
loop-from-preserved c =
    let t = c.args.self.now in
    let h = c.loop-from.invariant in
    let e : c.self.inside.last ≡ t.last = ap (λ (u : TreeState). u.last) c.self.view_is in
    let d = down t c.loop-from.from c.requires.rooted h.0 (λ s. c.loop-from-test.true (s ∙ sym e)) in
    let p : c.slot.result.now.parent ≡ parent_at t c.loop-from.from = ap (λ (s : Slot). s.parent) c.slot.ensures in
    let long = ap length d.step ∙ length-append (tree_path t (parent_at t c.loop-from.from)) (c.loop-from.from ∷ []) in
    subst (λ q. IsOpen t q × (c.loop-from.depth + 1 + length (tree_path t q) ≡ length (tree_path t c.args.view)) × (c.loop-from.depth + 1 + q ≤ c.args.view)) (sym p)
    (d.on, omega (arith, h.1, long), omega (arith, h.2, d.below))
