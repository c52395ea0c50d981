use Rattle.std.proofs.Common.{◌≡◌, ap, sym, ◌∙◌, inr, drop, length, subst, ◌++◌}
use Rattle.view_model.specs.Forest.{state, path_of}
use Rattle.view_stack.specs.Links.{IsOpen}
use Rattle.view_stack.specs.Paths.{tree_path}
use Rattle.view_stack.specs.Forests.{StackState}
use Rattle.view_stack.specs.ViewAnswers.{numbers}
use Rattle.view_stack.proofs.Refusals.{live_in_tree, if_ok_weaker, chain_past}
use Rattle.view_stack.proofs.stack.ViewStack.chain.Goals as goal

pub known-requires-clause-live : goal.known-requires-clause-live
known-requires-clause-live c = live_in_tree c.self.inside.tree c.args.id.number c.self.invariant.tree (ap (λ (s : StackState). state s.forest c.args.id.number) c.self.view_is ∙ c.requires)

pub chain-requires-clause-on : goal.chain-requires-clause-on
chain-requires-clause-on c = subst (IsOpen c.self.inside.tree) (sym c.known.ensures) (inr (live_in_tree c.self.inside.tree c.args.id.number c.self.invariant.tree (ap (λ (s : StackState). state s.forest c.args.id.number) c.self.view_is ∙ c.requires)))

pub returns : goal.returns
returns c =
    let t = c.self.inside.tree in
    let live = live_in_tree t c.args.id.number c.self.invariant.tree (ap (λ (s : StackState). state s.forest c.args.id.number) c.self.view_is ∙ c.requires) in
    if_ok_weaker _ _ c.chain.result c.chain.ensures (λ ids e.
    chain_past t c.args.id.number (numbers ids.items) c.self.invariant.tree live (subst (λ n. tree_path t n ≡ tree_path t t.last ++ numbers ids.items) c.known.ensures e)
    ∙ ap (λ (s : StackState). drop (length s.forest.store) (path_of s.forest c.args.id.number)) c.self.view_is)
