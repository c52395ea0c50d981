-- Which maps a history recalls, before a commit and after it.
use Rattle.std.proofs.Common.{◌≡◌, ℕ, zero, suc, ◌-◌, ◌<◌, ◌≤◌, Bool, true, false, cond, nat_le, List, [], ◌∷◌, drop, refl, sym, ap, ◌∙◌, subst, arith}
use Rattle.std.specs.List.{sum_by}
use Rattle.trie_model.specs.Maps.{Map, root}
use Rattle.history_model.specs.Changes.{Delta, deltas, delta_weight, weight}
use Rattle.history_model.specs.Held.{held_behind, held}
use Rattle.history_model.proofs.Cuts.{cuts_are_one}
use Rattle.history_model.proofs.WorkedHistories.{heavy_stands_alone}
use Rattle.change_history.specs.Histories.{CommitState, HistoryState, commit_weight, kept, pushed, restarted, Follow, Recalls}

-- the commits that are kept led from the maps that are held
pub follow_kept : (w n z : ℕ) (m : Map) (cs : List CommitState) (ms : List Map) → Follow w m cs ms → Follow w m (kept n z cs) (held_behind n z m ms)
follow_kept w zero z m [] [] f = tt
follow_kept w (suc n) z m [] [] f = tt
follow_kept w n z m [] (l ∷ ms) f = absurd f
follow_kept w n z m (c ∷ cs) [] f = absurd f
follow_kept w zero z m (c ∷ cs) (l ∷ ms) f = tt
follow_kept w (suc n) z m (c ∷ cs) (l ∷ ms) f =
    subst (λ x. Follow w m (cond (nat_le x z) (c ∷ kept n (z - x) cs) []) (held_behind (suc n) z m (l ∷ ms))) (sym (ap (sum_by delta_weight) f.0))
    (go (nat_le (weight l m) z) (follow_kept w n (z - weight l m) l cs ms f.2))
  where
    go : (b : Bool) → Follow w l (kept n (z - weight l m) cs) (held_behind n (z - weight l m) l ms) → Follow w m (cond b (c ∷ kept n (z - weight l m) cs) []) (cond b (l ∷ held_behind n (z - weight l m) l ms) [])
    go true ih = (f.0, f.1, ih)
    go false ih = tt

pub recalls-pushed : (w : ℕ) (h : HistoryState) (ds : List Delta) (id : List ℕ) (m former : Map) (maps : List Map) → Recalls w h (former ∷ maps) → ds ≡ deltas former m → id ≡ root w m → Recalls w (pushed h ds id) (m ∷ former ∷ maps)
recalls-pushed w h ds id m former maps r d e = (
  e,
  subst (λ ms. Follow w m (kept h.commits h.weight (record { deltas = ds; former = h.root } ∷ h.ring)) (drop 1 ms)) (cuts_are_one h.commits h.weight m (former ∷ maps))
      (follow_kept w h.commits h.weight m (record { deltas = ds; former = h.root } ∷ h.ring) (former ∷ held_behind h.commits h.weight former maps) (d, r.0, r.1)),
)

-- a history after a commit, part by part
pub pushed_parts : (n z cap : ℕ) (cs new : List CommitState) (c : CommitState) (former id : List ℕ) (ds : List Delta) (h : HistoryState)
    → record { commits = n; weight = z; root = former; ring = cs } ≡ h → c ≡ record { deltas = ds; former = former } → new ≡ kept n z (c ∷ cs) → cap ≡ n
    → pushed h ds id ≡ record { commits = cap; weight = z; root = id; ring = new }
pushed_parts n z cap cs new c former id ds h view made is room =
    ap (λ h. pushed h ds id) (sym view)
    ∙ ap (λ c. record { commits = n; weight = z; root = id; ring = kept n z (c ∷ cs) }) (sym made)
    ∙ (λ i. record { commits = sym room i; weight = z; root = id; ring = sym is i })

-- before the first commit
pub recalls-first : (w n z : ℕ) (m : Map) (id : List ℕ) (h : HistoryState) → h ≡ record { commits = n; weight = z; root = id; ring = [] } → id ≡ root w m → Recalls w h (m ∷ [])
recalls-first w n z m id h is e = subst (λ (h : HistoryState). Recalls w h (m ∷ [])) (sym is) (e, none n)
  where
    none : (n : ℕ) → Follow w m [] (held_behind n z m [])
    none zero = tt
    none (suc n) = tt

-- after a commit that is too heavy
pub recalls-restarted : (w : ℕ) (h : HistoryState) (id : List ℕ) (m former : Map) (maps : List Map) → h.weight < weight former m → id ≡ root w m → Recalls w (restarted h id) (m ∷ former ∷ maps)
recalls-restarted w h id m former maps heavy e = (e, subst (λ ms. Follow w m [] (drop 1 ms)) (sym (heavy_stands_alone h.commits h.weight m former maps heavy)) tt)
