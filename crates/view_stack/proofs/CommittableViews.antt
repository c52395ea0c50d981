-- Which views are live and may be committed, by what the calls answer.
use Rattle.std.proofs.Common.{◌≡◌, ℕ, List, drop, length, refl, ap, arith, length-drop, Option, Some, None, option_map}
use Rattle.std.proofs.lemmas.List.{length-map}
use Rattle.view_model.specs.Forest.{Forest, ViewState as State, Live as live, Committed as committed, Invalid as invalid, Closed as closed, state, path_of}
use Rattle.view_model.specs.Calls.{MayCommit}
use Rattle.view_model.proofs.Commits.{one_number_more}
use Rattle.view_stack.specs.declared.state.ViewId.{ViewId}
use Rattle.view_stack.specs.declared.state.ViewState.{ViewState}
use Rattle.view_stack.specs.declared.state.ViewState.TheVariants.{Live}
use Rattle.view_stack.specs.ViewAnswers.{state_told, numbers}

-- what is told to be live is
pub live_told : (o : Option State) (r : Option ViewState) (s : ViewState) → r ≡ option_map state_told o → r ≡ Some s → s ≡ Live → o ≡ Some live
live_told None r s e is l = absurd (cc)
live_told (Some live) r s e is l = refl
live_told (Some committed) r s e is l = absurd (cc)
live_told (Some invalid) r s e is l = absurd (cc)
live_told (Some closed) r s e is l = absurd (cc)

-- a live view that is alone in its chain may be committed
pub alone_may_commit : (f : Forest) (n : ℕ) (ids : List ViewId) → state f n ≡ Some live → numbers ids ≡ drop (length f.store) (path_of f n) → length ids ≡ 1 → MayCommit f n
alone_may_commit f n ids h e one =
    one_number_more f n h (omega (arith, one, length-map ids (λ (i : ViewId). i.number), ap length e, length-drop (length f.store) (path_of f n)))
