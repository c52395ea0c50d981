-- The maps that a history tells by itself.
use Rattle.std.proofs.Common.{◌≡◌, ℕ, zero, suc, ◌<◌, ◌≤◌, Bool, true, false, cond, List, [], ◌∷◌, map, refl, sym, ap, ◌∙◌, subst, arith, Option, Some, None}
use Rattle.std.specs.Prelude.{◌||◌, is_some}
use Rattle.std.specs.List.{list_any}
use Rattle.trie_model.specs.Hashing.{zero_id}
use Rattle.trie_model.specs.Maps.{Map, root}
use Rattle.proof_model.specs.Refusals.{same_bytes}
use Rattle.history_model.specs.Changes.{Delta, deltas, weight}
use Rattle.history_model.specs.Held.{no_map, held_behind, is_held, with_root}
use Rattle.history_model.proofs.Cuts.{cut_again}
use Rattle.change_history.specs.Histories.{CommitState, HistoryState, no_commits, pushed, restarted, roots, Follow, Recalls, held_by, maps_behind, map_before, recalled, Remembers}
use Rattle.change_history.proofs.WayBack.{undone_all}
use Rattle.change_history.proofs.RecalledMaps.{recalls-first, recalls-pushed, recalls-restarted}
use Rattle.change_history.proofs.RootPlaces.{roots_held}

-- ---- the maps of a history that recalls some

behind_follow : (w : ℕ) (m : Map) (cs : List CommitState) (ms : List Map) → Follow w m cs ms → maps_behind m cs ≡ ms
behind_follow w m [] [] f = refl
behind_follow w m [] (l ∷ ms) f = absurd f
behind_follow w m (c ∷ cs) [] f = absurd f
behind_follow w m (c ∷ cs) (l ∷ ms) f =
    ap (λ (x : Map). x ∷ maps_behind x cs) (undone_all l m c.deltas f.0) ∙ ap (λ ms. l ∷ ms) (behind_follow w l cs ms f.2)

-- it tells those of them that are held
pub recalled_held : (w : ℕ) (h : HistoryState) (m : Map) (ms : List Map) → Recalls w h (m ∷ ms) → recalled h m ≡ held_by h (m ∷ ms)
recalled_held w h m ms r = ap (λ ms. m ∷ ms) (behind_follow w m h.ring (held_behind h.commits h.weight m ms) r.1)

-- and recalls what it tells
pub recalls_remembers : (w : ℕ) (h : HistoryState) (m : Map) (ms : List Map) → Recalls w h (m ∷ ms) → Remembers w h m
recalls_remembers w h m ms r = (r.0, subst (Follow w m h.ring) (sym cut) r.1)
  where
    cut : held_behind h.commits h.weight m (maps_behind m h.ring) ≡ held_behind h.commits h.weight m ms
    cut = ap (held_behind h.commits h.weight m) (behind_follow w m h.ring (held_behind h.commits h.weight m ms) r.1)
        ∙ cut_again h.commits h.commits h.weight h.weight m ms (omega arith) (omega arith)

-- all that it tells is held
pub held_recalled : (w : ℕ) (h : HistoryState) (m : Map) → Remembers w h m → held_by h (recalled h m) ≡ recalled h m
held_recalled w h m r = sym (recalled_held w h m (maps_behind m h.ring) r)

-- ---- one commit after another

pub remembers_first : (w n z : ℕ) (m : Map) (id : List ℕ) (h : HistoryState) → h ≡ no_commits n z id → id ≡ root w m → Remembers w h m × (recalled h m ≡ m ∷ [])
remembers_first w n z m id h is e = (recalls_remembers w h m [] (recalls-first w n z m id h is e), ap (λ (h : HistoryState). recalled h m) is)

pub remembers_pushed : (w : ℕ) (h : HistoryState) (ds : List Delta) (id : List ℕ) (m former : Map) → Remembers w h former → ds ≡ deltas former m → id ≡ root w m
    → Remembers w (pushed h ds id) m × (recalled (pushed h ds id) m ≡ held_by h (m ∷ recalled h former))
remembers_pushed w h ds id m former r d e =
    let p = recalls-pushed w h ds id m former (maps_behind former h.ring) r d e in
    (recalls_remembers w (pushed h ds id) m (recalled h former) p, recalled_held w (pushed h ds id) m (recalled h former) p)

-- a commit that is too heavy lets the maps before it go
pub remembers_restarted : (w : ℕ) (h : HistoryState) (id : List ℕ) (m former : Map) → h.weight < weight former m → id ≡ root w m
    → Remembers w (restarted h id) m × (recalled (restarted h id) m ≡ held_by h (m ∷ recalled h former))
remembers_restarted w h id m former heavy e =
    let p = recalls-restarted w h id m former (maps_behind former h.ring) heavy e in
    (recalls_remembers w (restarted h id) m (recalled h former) p, recalled_held w (restarted h id) m (recalled h former) p)

-- ---- by their roots

any-map : (w : ℕ) (ms : List Map) (id : List ℕ) → list_any (same_bytes id) (map (root w) ms) ≡ is_held w ms id
any-map w [] id = refl
any-map w (m ∷ ms) id = ap (λ b. same_bytes id (root w m) || b) (any-map w ms id)

-- a root that is kept is that of a map that is told
pub root_told : (w : ℕ) (h : HistoryState) (m : Map) (id : List ℕ) → Remembers w h m → list_any (same_bytes id) (roots h) ≡ is_held w (recalled h m) id
root_told w h m id r =
    ap (list_any (same_bytes id)) (roots_held w h (recalled h m) r ∙ ap (map (root w)) (held_recalled w h m r)) ∙ any-map w (recalled h m) id

named : (w : ℕ) (ms : List Map) (id : List ℕ) → is_some (with_root w ms id) ≡ (is_held w ms id || same_bytes id zero_id)
named w [] id = go (same_bytes id zero_id)
  where
    go : (b : Bool) → is_some (cond b (Some no_map) None) ≡ b
    go true = refl
    go false = refl
named w (m ∷ ms) id = go (same_bytes id (root w m)) (named w ms id)
  where
    go : (b : Bool) → is_some (with_root w ms id) ≡ (is_held w ms id || same_bytes id zero_id) → is_some (cond b (Some m) (with_root w ms id)) ≡ ((b || is_held w ms id) || same_bytes id zero_id)
    go true ih = refl
    go false ih = ih

-- a root names a map where it is kept, or is 32 zeros
pub root_names : (w : ℕ) (h : HistoryState) (m : Map) (id : List ℕ) → Remembers w h m → is_some (with_root w (recalled h m) id) ≡ (list_any (same_bytes id) (roots h) || same_bytes id zero_id)
root_names w h m id r = named w (recalled h m) id ∙ ap (λ b. b || same_bytes id zero_id) (sym (root_told w h m id r))
