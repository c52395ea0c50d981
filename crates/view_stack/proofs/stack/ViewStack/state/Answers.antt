use Rattle.std.proofs.Common.{ap, sym, ◌∙◌, Some, option_map}
use Rattle.view_model.specs.Forest.{state}
use Rattle.view_stack.specs.declared.slot.Slot.{Slot}
use Rattle.view_stack.specs.Forests.{StackState, kept_state, forest_of}
use Rattle.view_stack.specs.ViewAnswers.{state_told}
use Rattle.view_stack.proofs.Forests.{state-forest, state-none}
use Rattle.view_stack.proofs.stack.ViewStack.state.Goals as goal

pub returns-in-Some : goal.returns-in-Some
returns-in-Some c =
    let t = c.self.inside.tree in
    let tree = c.self.invariant.tree in
    let told = c.state.ensures ∙ ap (λ (s : Slot). state_told (kept_state s.kept)) c.slot.ensures in
    ap Some told
    ∙ (sym (ap (option_map state_told) (state-forest t c.in-Some.number tree.sound.linked.rooted tree.marked c.in-Some.ensures.1))
    ∙ (ap (λ n. option_map state_told (state (forest_of t) n)) c.in-Some.ensures.0 ∙ ap (λ (s : StackState). option_map state_told (state s.forest c.args.id.number)) c.self.view_is))

pub returns-in-None : goal.returns-in-None
returns-in-None c =
    sym (ap (option_map state_told) (state-none c.self.inside.tree c.args.id.number c.in-None.ensures)) ∙ ap (λ (s : StackState). option_map state_told (state s.forest c.args.id.number)) c.self.view_is
