use Rattle.std.proofs.Common.{◌≡◌, ◌≤◌, ◌∙◌, sym, ap, subst}
use Rattle.view_stack.specs.Slots.{TreeState}
use Rattle.view_stack.specs.Tree.{Has, kept_at, kept_weight, let_go, marked, unlinked, live_at, is_live_kept}
use Rattle.view_stack.specs.Links.{IsSound}
use Rattle.view_stack.specs.EndedViews.{Ends}
use Rattle.view_stack.proofs.ManyViewsEnd.{marked_dead}
use Rattle.view_stack.proofs.LinksAfterRemoval.{taken_out}
use Rattle.view_stack.proofs.OneViewEnds.{has_unlinked, kept_within, weighs-unlinked, sound_without, ends_one}
use Rattle.view_stack.proofs.tree.Tree.end_one.Goals as goal

pub let_go-requires-clause-has : goal.let_go-requires-clause-has
let_go-requires-clause-has c = subst (λ (t : TreeState). Has t c.args.number) (sym c.unlink.ensures) (has_unlinked _ _ c.requires.sound.linked c.requires.live)

pub let_go-requires-clause-weighs : goal.let_go-requires-clause-weighs
let_go-requires-clause-weighs c =
    subst (λ (t : TreeState). kept_weight (kept_at t c.args.number) ≤ t.weight) (sym c.unlink.ensures)
    (kept_within _ _ (weighs-unlinked _ _ c.requires.sound c.requires.live) (has_unlinked _ _ c.requires.sound.linked c.requires.live))

pub returns-clause-sound : goal.returns-clause-sound
returns-clause-sound c =
    let e : c.let_go.new.self ≡ let_go (unlinked c.args.self.now c.args.number) c.args.number (marked c.args.closed) = c.let_go.ensures ∙ (ap (λ t. let_go t c.args.number c.ended.result) c.unlink.ensures ∙ ap (let_go _ c.args.number) c.ended.ensures) in
    subst IsSound (sym e) (sound_without _ _ _ (marked_dead c.args.closed) c.requires.sound c.requires.live c.requires.alone)

pub returns-clause-ends : goal.returns-clause-ends
returns-clause-ends c =
    let e : c.let_go.new.self ≡ let_go (unlinked c.args.self.now c.args.number) c.args.number (marked c.args.closed) = c.let_go.ensures ∙ (ap (λ t. let_go t c.args.number c.ended.result) c.unlink.ensures ∙ ap (let_go _ c.args.number) c.ended.ensures) in
    subst (Ends (marked c.args.closed) (λ n. n ≡ c.args.number) c.args.self.now) (sym e) (ends_one _ _ _ c.requires.sound.linked c.requires.live)

pub returns-clause-ended : goal.returns-clause-ended
returns-clause-ended c =
    let e : c.let_go.new.self ≡ let_go (unlinked c.args.self.now c.args.number) c.args.number (marked c.args.closed) = c.let_go.ensures ∙ (ap (λ t. let_go t c.args.number c.ended.result) c.unlink.ensures ∙ ap (let_go _ c.args.number) c.ended.ensures) in
    ap (λ t. live_at t c.args.number) e ∙ (ap is_live_kept (taken_out _ _ _ c.requires.sound.linked c.requires.live).here ∙ marked_dead c.args.closed)
