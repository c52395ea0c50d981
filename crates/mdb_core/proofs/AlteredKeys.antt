-- The keys that a batch alters are those at which the maps before and after it differ.
use Rattle.std.proofs.Common.{◌≡◌, ℕ, suc, Bool, true, false, cond, List, [], ◌∷◌, ◌++◌, ◌+◌, ◌<◌, ◌≤◌, take, drop, length, get_or, map, refl, sym, ap, ◌∙◌, arith, Option, Some, None}
use Rattle.std.specs.Prelude.{T, ◌&&◌}
use Rattle.std.specs.List.{sum_by}
use Rattle.std.specs.Ordering.{is_lt, eq_by_cmp}
use Rattle.std.specs.FinMap.{get, is_sorted}
use Rattle.std.specs.FinMap.Entries.{below_all}
use Rattle.std.proofs.lemmas.Grind.{flat_map-append}
use Rattle.std.proofs.Math.Seq.{take-suc}
use Rattle.std.proofs.lemmas.List.{append-nil, take-append-drop}
use Rattle.std.proofs.lemmas.List.Sums.{sum_by-append}
use Rattle.base_model.specs.Bytes.{bytes_cmp}
use Rattle.trie_model.specs.Maps.{Map}
use Rattle.batch_model.specs.Batch.{Change, AreRising, put_or_removed, after_batch}
use Rattle.batch_model.proofs.SetChanges.{lower, get_changed}
use Rattle.history_model.specs.Changes.{Delta, same_value, deltas, delta_weight, weight}
use Rattle.history_model.specs.Laws.{values_at}
use Rattle.history_model.proofs.Values.{same_key, key-itself, value-itself}
use Rattle.history_model.proofs.Deltas.{Values, keyed, values_at-deltas, deltas-sorted, one_list}
use Rattle.history_model.proofs.Changes.{AreSorted, not_found}
use Rattle.mdb_core.specs.Alterations.{altered, altered_in, alterations}
use Rattle.mdb_core.proofs.BatchLookups.{higher_changes}

-- ---- their order

is_true : (b : Bool) → b ≡ true → T b
is_true true h = tt
is_true false h = absurd (cc)

both : (a b : Bool) → T a → T b → T (a && b)
both true b p q = q
both false b p q = absurd p

-- what is below all keys of changes is below those that they alter
below_altered : (m : Map) (k : List ℕ) (cs : List Change) → AreRising (Some k) cs → T (below_all bytes_cmp k (map keyed (alterations m cs)))
below_altered m k [] h = tt
below_altered m k (c ∷ cs) h = go (same_value (get m c.key) c.value) (below_altered m k cs (lower k c.key cs h.0 h.1))
  where
    go : (s : Bool) → T (below_all bytes_cmp k (map keyed (alterations m cs))) → T (below_all bytes_cmp k (map keyed (cond s [] (record { key = c.key; before = get m c.key; after = c.value } ∷ []) ++ alterations m cs)))
    go true ih = ih
    go false ih = both (is_lt (bytes_cmp k c.key)) (below_all bytes_cmp k (map keyed (alterations m cs))) (is_true (is_lt (bytes_cmp k c.key)) h.0) ih

altered-sorted : (last : Option (List ℕ)) (m : Map) (cs : List Change) → AreRising last cs → AreSorted (alterations m cs)
altered-sorted last m [] h = tt
altered-sorted last m (c ∷ cs) h = go (same_value (get m c.key) c.value) (altered-sorted (Some c.key) m cs h.1)
  where
    go : (s : Bool) → AreSorted (alterations m cs) → AreSorted (cond s [] (record { key = c.key; before = get m c.key; after = c.value } ∷ []) ++ alterations m cs)
    go true ih = ih
    go false ih = both (below_all bytes_cmp c.key (map keyed (alterations m cs))) (is_sorted bytes_cmp (map keyed (alterations m cs))) (below_altered m c.key cs h.1) ih

-- ---- what they say of a key

-- a value before and one after it
abbrev told : Option (List ℕ) → Option (List ℕ) → Option Values
told u v = cond (same_value u v) None (Some (u, v))

told-same : (u : Option (List ℕ)) → told u u ≡ None
told-same u = ap (λ s. cond s None (Some (u, u))) (value-itself u)

-- the first change, if it alters its key or not, and if it is the key that is asked for
values_at-first : (q k : List ℕ) (u v : Option (List ℕ)) (rest : List Delta) (s b : Bool) → eq_by_cmp bytes_cmp q k ≡ b → (b ≡ true → values_at rest q ≡ None)
    → values_at (cond s [] (record { key = k; before = u; after = v } ∷ []) ++ rest) q ≡ cond b (cond s None (Some (u, v))) (values_at rest q)
values_at-first q k u v rest true true e none = none refl
values_at-first q k u v rest true false e none = refl
values_at-first q k u v rest false true e none = ap (λ b. cond b (Some (u, v)) (values_at rest q)) e
values_at-first q k u v rest false false e none = ap (λ b. cond b (Some (u, v)) (values_at rest q)) e

-- the changes on a map that has the key's value, as another one has it
values_at-altered : (last : Option (List ℕ)) (m n : Map) (cs : List Change) (q : List ℕ) → AreRising last cs → get n q ≡ get m q → values_at (alterations m cs) q ≡ told (get m q) (get (after_batch n cs) q)
values_at-altered last m n [] q h e = sym (ap (told (get m q)) e ∙ told-same (get m q))
values_at-altered last m n (c ∷ cs) q h e =
    values_at-first q c.key (get m c.key) c.value (alterations m cs) (same_value (get m c.key) c.value) (eq_by_cmp bytes_cmp q c.key) refl none
    ∙ go (eq_by_cmp bytes_cmp q c.key) refl (λ k. values_at-altered (Some c.key) m (put_or_removed n c.key c.value) cs q h.1 k)
  where
    none : eq_by_cmp bytes_cmp q c.key ≡ true → values_at (alterations m cs) q ≡ None
    none t = ap (values_at (alterations m cs)) (same_key q c.key t) ∙ not_found c.key (alterations m cs) (below_altered m c.key cs h.1)

    go : (b : Bool) → eq_by_cmp bytes_cmp q c.key ≡ b → (get (put_or_removed n c.key c.value) q ≡ get m q → values_at (alterations m cs) q ≡ told (get m q) (get (after_batch (put_or_removed n c.key c.value) cs) q))
        → cond b (told (get m c.key) c.value) (values_at (alterations m cs) q) ≡ told (get m q) (get (after_batch (put_or_removed n c.key c.value) cs) q)
    go true t ih =
        ap (told (get m c.key)) (sym (higher_changes (put_or_removed n c.key c.value) c.key cs h.1 ∙ get_changed n c.key c.value c.key ∙ ap (λ b. cond b c.value (get n c.key)) (key-itself c.key)))
        ∙ sym (ap (λ k. told (get m k) (get (after_batch (put_or_removed n c.key c.value) cs) k)) (same_key q c.key t))
    go false t ih = ih (get_changed n c.key c.value q ∙ ap (λ b. cond b c.value (get n q)) t ∙ e)

-- ---- all of them

pub altered-deltas : (m : Map) (cs : List Change) → AreRising None cs → alterations m cs ≡ deltas m (after_batch m cs)
altered-deltas m cs h =
    one_list (alterations m cs) (deltas m (after_batch m cs)) (altered-sorted None m cs h) (deltas-sorted m (after_batch m cs))
    (λ q. values_at-altered None m m cs q h refl ∙ sym (values_at-deltas m (after_batch m cs) q))

-- the alterations of a part of the changes weigh no more than those of all
altered-front : (m : Map) (cs : List Change) (k : ℕ) → sum_by delta_weight (alterations m (take k cs)) ≤ sum_by delta_weight (alterations m cs)
altered-front m cs k =
    let whole = ap (λ l. sum_by delta_weight (alterations m l)) (sym (take-append-drop k cs)) ∙ ap (sum_by delta_weight) (flat_map-append (altered_in m) (take k cs) (drop k cs))
    ∙ sum_by-append delta_weight (alterations m (take k cs)) (alterations m (drop k cs)) in
    omega (arith, whole)

-- where the first changes alter more than a limit allows, so do all
pub altered-heavy : (m : Map) (cs : List Change) (at limit n k : ℕ) (d c : Change) (before : Option (List ℕ)) → AreRising None cs → at < length cs → c ≡ get_or cs at d → before ≡ get m c.key
    → n ≡ sum_by delta_weight (alterations m (take at cs)) → k ≡ sum_by delta_weight (altered before c) → limit < n + k → limit < weight m (after_batch m cs)
altered-heavy m cs at limit n k d c before h l is was e f heavy =
    let step = ap (λ l. sum_by delta_weight (alterations m l)) (take-suc cs at d l) ∙ ap (sum_by delta_weight) (flat_map-append (altered_in m) (take at cs) (get_or cs at d ∷ []))
    ∙ sum_by-append delta_weight (alterations m (take at cs)) (alterations m (get_or cs at d ∷ [])) in
    let last = f ∙ ap (λ u. sum_by delta_weight (altered u c)) was ∙ ap (λ x. sum_by delta_weight (altered_in m x)) is ∙ ap (sum_by delta_weight) (sym (append-nil (altered_in m (get_or cs at d)))) in
    let whole = ap (sum_by delta_weight) (altered-deltas m cs h) in
    omega (arith, heavy, e, last, step, altered-front m cs (suc at), whole)
