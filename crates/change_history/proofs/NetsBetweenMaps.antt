-- What changed between two maps of a history.
use Rattle.std.proofs.Common.{◌≡◌, ℕ, zero, suc, ◌+◌, ◌-◌, ◌<◌, ◌≤◌, Bool, true, false, cond, List, [], ◌∷◌, drop, length, get_or, map, refl, sym, ap, ◌∙◌, subst, arith, Option, Some, None, Result, Ok, Err}
use Rattle.std.specs.List.{slice_get, filter}
use Rattle.trie_model.specs.Maps.{Map, root}
use Rattle.range_model.specs.Ranges.{Range}
use Rattle.batch_model.specs.Batch.{Change}
use Rattle.history_model.specs.Changes.{Delta, deltas, lies_in, changes}
use Rattle.history_model.specs.Held.{no_map, held_behind, until_root}
use Rattle.history_model.specs.Between.{ChangesRefusal, changes_between, changes_from, changes_since, NoEnd, NoStart}
use Rattle.history_model.proofs.Deltas.{deltas-sorted}
use Rattle.history_model.proofs.Changes.{inside-sorted, no_deltas}
use Rattle.change_history.specs.Histories.{CommitState, HistoryState, Follow, Recalls, held_by}
use Rattle.change_history.specs.NetChanges.{map_at, deltas_between, IsSum}
use Rattle.change_history.specs.MergedDeltas.{IsMerged}
use Rattle.change_history.proofs.MergedRuns.{joined_between}

-- ---- one commit

commit_at : (w : ℕ) (m : Map) (cs : List CommitState) (ms : List Map) (k : ℕ) (c : CommitState) → Follow w m cs ms → slice_get cs k ≡ Some c → c.deltas ≡ deltas (get_or (m ∷ ms) (suc k) no_map) (get_or (m ∷ ms) k no_map)
commit_at w m [] ms k c f is = absurd (cc)
commit_at w m (d ∷ cs) [] k c f is = absurd f
commit_at w m (d ∷ cs) (l ∷ ms) zero c f is = let e : c ≡ d = cc in ap (λ (c : CommitState). c.deltas) e ∙ f.0
commit_at w m (d ∷ cs) (l ∷ ms) (suc k) c f is = commit_at w l cs ms k c f.2 is

pub one_sum : (h : HistoryState) (r : Range) (place : ℕ) (c : CommitState) (ds : List Delta) → Some c ≡ slice_get h.ring place → ds ≡ filter (lies_in r) c.deltas → IsSum h r (place + 1) place ds
one_sum h r place c ds is e w [] f = absurd f
one_sum h r place c ds is e w (m ∷ maps) f =
    e ∙ ap (filter (lies_in r)) (commit_at w m h.ring (held_behind h.commits h.weight m maps) place c f.1 (sym is))
    ∙ ap (λ k. deltas_between (held_by h (m ∷ maps)) k place r) next
  where
    next : suc place ≡ place + 1
    next = omega arith

pub none_there : (h : HistoryState) (place : ℕ) → None ≡ slice_get h.ring place → place < length h.ring → ⊥
none_there h place is l = go h.ring place l is
  where
    go : (cs : List CommitState) (k : ℕ) → k < length cs → None ≡ slice_get cs k → ⊥
    go [] k l is = omega (arith, l)
    go (c ∷ cs) zero l is = cc
    go (c ∷ cs) (suc k) l is = go cs k (omega (arith, l)) is

-- ---- more commits

pub no_sum : (h : HistoryState) (r : Range) (former later : ℕ) (ds : List Delta) → former ≡ later → ds ≡ [] → IsSum h r former later ds
no_sum h r former later ds e none w maps f = none ∙ sym (ap (λ k. deltas_between (held_by h maps) k later r) e ∙ ap (filter (lies_in r)) (no_deltas (map_at (held_by h maps) later)))

pub two_sums : (h : HistoryState) (r : Range) (former middle later : ℕ) (older newer ds : List Delta) → IsSum h r former middle older → IsSum h r middle later newer → IsMerged older newer ds → IsSum h r former later ds
two_sums h r former middle later older newer ds p q m w maps f =
    let a = map_at (held_by h maps) former in
    let b = map_at (held_by h maps) middle in
    let c = map_at (held_by h maps) later in
    let x : older ≡ filter (lies_in r) (deltas a b) = p w maps f in
    let y : newer ≡ filter (lies_in r) (deltas b c) = q w maps f in
    joined_between a b c r ds (subst (λ os. IsMerged os (filter (lies_in r) (deltas b c)) ds) x (subst (λ ns. IsMerged older ns ds) y m) (inside-sorted r (deltas a b) (deltas-sorted a b)) (inside-sorted r (deltas b c) (deltas-sorted b c)))

pub one_step : (h : HistoryState) (r : Range) (former later : ℕ) (ds : List Delta) → former - later ≡ 1 → IsSum h r (later + 1) later ds → IsSum h r former later ds
one_step h r former later ds e s = let k : later + 1 ≡ former = omega (arith, e) in subst (λ k. IsSum h r k later ds) k s

-- ---- by their roots

pub drop-front : (ms : List Map) (k : ℕ) → k < length ms → drop k ms ≡ get_or ms k no_map ∷ drop (suc k) ms
drop-front [] k l = absurd (omega (arith, l))
drop-front (m ∷ ms) zero l = refl
drop-front (m ∷ ms) (suc k) l = drop-front ms k (omega (arith, l))

get_or-drop : (ms : List Map) (j k : ℕ) → get_or (drop j ms) k no_map ≡ get_or ms (j + k) no_map
get_or-drop ms zero k = ap (λ n. get_or ms n no_map) (same (0 + k) k (omega arith))
  where
    same : (a b : ℕ) → a ≡ b → b ≡ a
    same a b e = sym e
get_or-drop [] (suc j) k = refl
get_or-drop (m ∷ ms) (suc j) k = get_or-drop ms j k ∙ ap (λ n. get_or (m ∷ ms) n no_map) (same (suc (j + k)) (suc j + k) (omega arith))
  where
    same : (a b : ℕ) → a ≡ b → a ≡ b
    same a b e = e

pub not_ended : (w : ℕ) (ms : List Map) (from to : List ℕ) (r : Range) → until_root w ms to ≡ [] → changes_between w ms from to r ≡ Err NoEnd
not_ended w ms from to r e = ap (λ ms. changes_from w ms from r) e

later_found : (w : ℕ) (ms : List Map) (from to : List ℕ) (r : Range) (p : ℕ) → until_root w ms to ≡ drop p ms → p < length ms → changes_between w ms from to r ≡ changes_since (until_root w (drop p ms) from) (map_at ms p) r
later_found w ms from to r p e l =
    ap (λ ms. changes_from w ms from r) (e ∙ drop-front ms p l) ∙ ap (λ xs. changes_since (until_root w xs from) (map_at ms p) r) (sym (drop-front ms p l))

pub not_started : (w : ℕ) (ms : List Map) (from to : List ℕ) (r : Range) (p : ℕ) → until_root w ms to ≡ drop p ms → p < length ms → until_root w (drop p ms) from ≡ [] → changes_between w ms from to r ≡ Err NoStart
not_started w ms from to r p e l none = later_found w ms from to r p e l ∙ ap (λ xs. changes_since xs (map_at ms p) r) none

pub both_found : (w : ℕ) (ms : List Map) (from to : List ℕ) (r : Range) (p k q : ℕ) → until_root w ms to ≡ drop p ms → p < length ms → until_root w (drop p ms) from ≡ drop k (drop p ms) → k < length (drop p ms) → q ≡ p + k
    → changes_between w ms from to r ≡ Ok (changes (map_at ms q) (map_at ms p) r)
both_found w ms from to r p k q e l f n is =
    later_found w ms from to r p e l ∙ ap (λ xs. changes_since xs (map_at ms p) r) (f ∙ drop-front (drop p ms) k n)
    ∙ ap (λ (m : Map). Ok (changes m (map_at ms p) r)) (get_or-drop ms p k ∙ ap (map_at ms) (sym is))
