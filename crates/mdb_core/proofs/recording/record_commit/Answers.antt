use Rattle.std.proofs.Common.{◌≡◌, ◌<◌, ◌∷◌, Option, Vec, Global, subst, sym}
use Rattle.std.specs.Prelude.{MatchOption}
use Rattle.history_model.specs.Changes.{deltas, weight}
use Rattle.change_history.specs.Histories.{HistoryState, held_by, recalled, Remembers}
use Rattle.change_history.specs.declared.delta.Delta.{Delta}
use Rattle.change_history.proofs.ToldMaps.{remembers_pushed, remembers_restarted}
use Rattle.mdb_core.proofs.recording.record_commit.Goals as goal

pub returns-in-Some-clause-remembers : goal.returns-in-Some-clause-remembers
returns-in-Some-clause-remembers c = λ w m former past made root-is.
    let h = c.args.history.now in
    let changed = subst (λ (x : Option (Vec Delta Global)). MatchOption x (h.weight < weight former m) (λ ds. ds.items ≡ deltas former m)) c.in-Some.is made in
    subst (λ (x : HistoryState). Remembers w x m × (recalled x m ≡ held_by h (m ∷ recalled h former))) (sym c.push.ensures.pushed) (remembers_pushed w h c.in-Some.deltas.items c.args.root m former past changed root-is)

pub returns-in-None-clause-remembers : goal.returns-in-None-clause-remembers
returns-in-None-clause-remembers c = λ w m former past made root-is.
    let h = c.args.history.now in
    let heavy = subst (λ (x : Option (Vec Delta Global)). MatchOption x (h.weight < weight former m) (λ ds. ds.items ≡ deltas former m)) c.in-None.is made in
    subst (λ (x : HistoryState). Remembers w x m × (recalled x m ≡ held_by h (m ∷ recalled h former))) (sym c.restart.ensures.restarted) (remembers_restarted w h c.args.root m former heavy root-is)
