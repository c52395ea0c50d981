use Rattle.std.proofs.Common.{◌≡◌, sym, ap, subst, Err, Ok, None, Option}
use Rattle.std.specs.Option.{MatchOption}
use Rattle.std.specs.Result.{IsOkAnd}
use Rattle.view_model.specs.Calls.{parent_refused, parent_path, view_refused}
use Rattle.view_stack.specs.declared.state.ViewId.{ViewId}
use Rattle.view_stack.specs.Slots.{TreeState}
use Rattle.view_stack.specs.Links.{IsOpen}
use Rattle.view_stack.specs.Paths.{tree_path}
use Rattle.view_stack.specs.Forests.{forest_of}
use Rattle.view_stack.specs.ViewAnswers.{number_in, fault_told}
use Rattle.view_stack.proofs.Refusals.{match_weaker, ok_weaker, parent_store, parent_live}
use Rattle.view_stack.proofs.tree.Tree.parent_of.Goals as goal

pub returns-in-None : goal.returns-in-None
returns-in-None c =
    let t = c.args.self.now in
    let e : t.last ≡ c.self.inside.last = sym (ap (λ (u : TreeState). u.last) c.self.view_is) in
    subst (λ (p : Option ViewId). MatchOption (parent_refused (forest_of t) (number_in p)) (IsOpen t c.self.inside.last × (tree_path t c.self.inside.last ≡ parent_path (forest_of t) (number_in p))) (λ r. Ok c.self.inside.last ≡ Err (fault_told r))) (sym c.in-None.is)
    (subst (λ n. IsOpen t n × (tree_path t n ≡ parent_path (forest_of t) None)) e (parent_store t))

pub returns-in-Some : goal.returns-in-Some
returns-in-Some c =
    let t = c.args.self.now in
    subst (λ (p : Option ViewId). MatchOption (parent_refused (forest_of t) (number_in p)) (IsOkAnd c.live.result (λ n. IsOpen t n × (tree_path t n ≡ parent_path (forest_of t) (number_in p)))) (λ r. c.live.result ≡ Err (fault_told r))) (sym c.in-Some.is)
    (match_weaker _ _ _ (view_refused (forest_of t) c.in-Some.id.number) c.live.ensures (λ h. ok_weaker _ _ c.live.result h (λ n. parent_live t c.in-Some.id.number n c.requires)))
