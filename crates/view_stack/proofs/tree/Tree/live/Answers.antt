use Rattle.std.proofs.Common.{◌∙◌, sym, ap, refl, Err, Some}
use Rattle.view_model.specs.Calls.{Unknown as unknown, NotLive as not_live, refused_in, view_refused}
use Rattle.view_stack.specs.declared.slot.Slot.{Slot}
use Rattle.view_stack.specs.declared.fault.ViewFault.TheVariants.{NotLive}
use Rattle.view_stack.specs.Tree.{kept_at}
use Rattle.view_stack.specs.Forests.{kept_state, forest_of}
use Rattle.view_stack.specs.ViewAnswers.{state_told}
use Rattle.view_stack.proofs.Refusals.{match_some, match_none, view_refused-none, view_refused-kept, kept_live, refused_dead}
use Rattle.view_stack.proofs.tree.Tree.live.Goals as goal

pub returns-in-None : goal.returns-in-None
returns-in-None c = match_some _ _ (view_refused (forest_of c.args.self.now) c.args.id.number) unknown (view_refused-none c.args.self.now c.args.id.number c.in-None.ensures) refl

pub returns-in-Live : goal.returns-in-Live
returns-in-Live c =
    let t = c.args.self.now in
    let told = kept_live (kept_at t c.in-Some.number) (ap (λ (s : Slot). state_told (kept_state s.kept)) (sym c.slot.ensures) ∙ (sym c.state.ensures ∙ c.in-Live.is)) in
    match_none _ _ (view_refused (forest_of t) c.args.id.number)
    (ap (view_refused (forest_of t)) (sym c.in-Some.ensures.0) ∙ (view_refused-kept t c.in-Some.number c.requires c.in-Some.ensures.1 ∙ ap (λ s. refused_in (Some s)) told.0))
    (c.in-Some.ensures.0, told.1)

pub returns-in_default : goal.returns-in_default
returns-in_default c =
    let t = c.args.self.now in
    let told = c.state.ensures ∙ ap (λ (s : Slot). state_told (kept_state s.kept)) c.slot.ensures in
    match_some _ _ (view_refused (forest_of t) c.args.id.number) (not_live (kept_state (kept_at t c.in-Some.number)))
    (ap (view_refused (forest_of t)) (sym c.in-Some.ensures.0) ∙ (view_refused-kept t c.in-Some.number c.requires c.in-Some.ensures.1 ∙ refused_dead (kept_state (kept_at t c.in-Some.number)) (λ e. c.in_default.not-Live (told ∙ e))))
    (ap (λ s. Err (NotLive s)) told)
