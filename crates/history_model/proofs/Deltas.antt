-- The deltas between two maps: what they say of each key, and their order.
use Rattle.std.proofs.Common.{◌≡◌, ℕ, Bool, true, false, cond, List, [], ◌∷◌, ◌++◌, map, refl, sym, ap, ◌∙◌, Option, Some, None}
use Rattle.std.specs.Prelude.{T, ◌&&◌, ◌||◌, is_some}
use Rattle.std.specs.List.{flat_map, list_any, AllByRecursion}
use Rattle.std.specs.Ordering.{is_lt, eq_by_cmp}
use Rattle.std.specs.FinMap.{get, entries, entries_sorted, contains_key-keys, get-entries, get-insert, find, is_sorted}
use Rattle.std.specs.FinMap.Entries.{below_all, same_entries}
use Rattle.std.proofs.lemmas.Cmp.{nat_list_cmp_total}
use Rattle.base_model.specs.Bytes.{bytes_cmp}
use Rattle.trie_model.specs.Maps.{Map}
use Rattle.trie_model.proofs.Entries.{tied_equal}
use Rattle.history_model.specs.Changes.{Delta, same_value, laid_over, keys_of_both, delta_at, deltas}
use Rattle.history_model.specs.Laws.{values_at}
use Rattle.history_model.proofs.Values.{same_key}

abbrev pub Values : Type 0
Values = Option (List ℕ) × Option (List ℕ)

abbrev pub keyed : Delta → List ℕ × Values
keyed d = (d.key, (d.before, d.after))

-- how two maps differ at a key
abbrev pub differ : Map → Map → List ℕ → Option Values
differ m1 m2 q = cond (same_value (get m1 q) (get m2 q)) None (Some (get m1 q, get m2 q))

-- ---- the keys of both

laid-get : (m : Map) (es : List (List ℕ × List ℕ)) (q : List ℕ) → is_some (get (laid_over m es) q) ≡ (is_some (find bytes_cmp q es) || is_some (get m q))
laid-get m [] q = refl
laid-get m (e ∷ es) q =
    ap is_some (get-insert nat_list_cmp_total (laid_over m es) e.0 e.1 q) ∙ go (eq_by_cmp bytes_cmp q e.0) (laid-get m es q)
  where
    go : (b : Bool) → is_some (get (laid_over m es) q) ≡ (is_some (find bytes_cmp q es) || is_some (get m q)) → is_some (cond b (Some e.1) (get (laid_over m es) q)) ≡ (is_some (cond b (Some e.1) (find bytes_cmp q es)) || is_some (get m q))
    go true ih = refl
    go false ih = ih

-- a key of neither is none of both
neither : (m1 m2 : Map) (q : List ℕ) → list_any (eq_by_cmp bytes_cmp q) (keys_of_both m1 m2) ≡ (is_some (get m2 q) || is_some (get m1 q))
neither m1 m2 q = sym (contains_key-keys (laid_over m1 (entries m2)) q) ∙ laid-get m1 (entries m2) q ∙ ap (λ o. is_some o || is_some (get m1 q)) (sym (get-entries m2 q))

-- ---- what is found

-- the delta at a key, if the values there are the same or not, and behind it others
abbrev shown : Map → Map → List ℕ → List Delta → Bool → List Delta
shown m1 m2 k rest s = cond s [] (record { key = k; before = get m1 k; after = get m2 k } ∷ []) ++ rest

abbrev told : Map → Map → List ℕ → Bool → Option Values
told m1 m2 k s = cond s None (Some (get m1 k, get m2 k))

-- of one key
one_key : (m1 m2 : Map) (k q : List ℕ) (rest : List Delta) (c s b : Bool) → same_value (get m1 k) (get m2 k) ≡ s → eq_by_cmp bytes_cmp q k ≡ b
    → values_at rest q ≡ cond c (differ m1 m2 q) None → values_at (shown m1 m2 k rest s) q ≡ cond (b || c) (differ m1 m2 q) None
one_key m1 m2 k q rest c true true s e ih = ih ∙ ap (λ d. cond c d None) here ∙ none c ∙ sym here
  where
    here : differ m1 m2 q ≡ None
    here = ap (differ m1 m2) (same_key q k e) ∙ ap (told m1 m2 k) s

    none : (c : Bool) → ◌≡◌ {A = Option Values} (cond c None None) None
    none true = refl
    none false = refl
one_key m1 m2 k q rest c true false s e ih = ih
one_key m1 m2 k q rest c false true s e ih =
    ap (λ b. cond b (Some (get m1 k, get m2 k)) (values_at rest q)) e ∙ sym (ap (differ m1 m2) (same_key q k e) ∙ ap (told m1 m2 k) s)
one_key m1 m2 k q rest c false false s e ih = ap (λ b. cond b (Some (get m1 k, get m2 k)) (values_at rest q)) e ∙ ih

found : (m1 m2 : Map) (ks : List (List ℕ)) (q : List ℕ) → values_at (flat_map (delta_at m1 m2) ks) q ≡ cond (list_any (eq_by_cmp bytes_cmp q) ks) (differ m1 m2 q) None
found m1 m2 [] q = refl
found m1 m2 (k ∷ ks) q =
    one_key m1 m2 k q (flat_map (delta_at m1 m2) ks) (list_any (eq_by_cmp bytes_cmp q) ks) (same_value (get m1 k) (get m2 k)) (eq_by_cmp bytes_cmp q k) refl refl (found m1 m2 ks q)

-- what the deltas say of a key is how the maps differ there
pub values_at-deltas : (m1 m2 : Map) (q : List ℕ) → values_at (deltas m1 m2) q ≡ differ m1 m2 q
unfolding deltas
values_at-deltas m1 m2 q = found m1 m2 (keys_of_both m1 m2) q ∙ ap (λ b. cond b (differ m1 m2 q) None) (neither m1 m2 q) ∙ go (get m1 q) (get m2 q)
  where
    go : (u v : Option (List ℕ)) → cond {A = Option Values} (is_some v || is_some u) (cond (same_value u v) None (Some (u, v))) None ≡ cond (same_value u v) None (Some (u, v))
    go None None = refl
    go None (Some v) = refl
    go (Some u) None = refl
    go (Some u) (Some v) = refl

-- ---- order

both : (a b : Bool) → T a → T b → T (a && b)
both true b p q = q
both false b p q = absurd p

first : (a b : Bool) → T (a && b) → T a
first true b p = tt
first false b p = absurd p

second : (a b : Bool) → T (a && b) → T b
second true b p = p
second false b p = absurd p

below_deltas : (m1 m2 : Map) (x : List ℕ) (es : List (List ℕ × List ℕ)) → T (below_all bytes_cmp x es) → T (below_all bytes_cmp x (map keyed (flat_map (delta_at m1 m2) (map (λ e. e.0) es))))
below_deltas m1 m2 x [] h = tt
below_deltas m1 m2 x (e ∷ es) h =
    go (same_value (get m1 e.0) (get m2 e.0)) (first (is_lt (bytes_cmp x e.0)) (below_all bytes_cmp x es) h) (below_deltas m1 m2 x es (second (is_lt (bytes_cmp x e.0)) (below_all bytes_cmp x es) h))
  where
    go : (s : Bool) → T (is_lt (bytes_cmp x e.0)) → T (below_all bytes_cmp x (map keyed (flat_map (delta_at m1 m2) (map (λ e. e.0) es))))
        → T (below_all bytes_cmp x (map keyed (cond s [] (record { key = e.0; before = get m1 e.0; after = get m2 e.0 } ∷ []) ++ flat_map (delta_at m1 m2) (map (λ e. e.0) es))))
    go true p ih = ih
    go false p ih = both (is_lt (bytes_cmp x e.0)) (below_all bytes_cmp x (map keyed (flat_map (delta_at m1 m2) (map (λ e. e.0) es)))) p ih

sorted_deltas : (m1 m2 : Map) (es : List (List ℕ × List ℕ)) → T (is_sorted bytes_cmp es) → T (is_sorted bytes_cmp (map keyed (flat_map (delta_at m1 m2) (map (λ e. e.0) es))))
sorted_deltas m1 m2 [] h = tt
sorted_deltas m1 m2 (e ∷ es) h =
    go (same_value (get m1 e.0) (get m2 e.0)) (below_deltas m1 m2 e.0 es (first (below_all bytes_cmp e.0 es) (is_sorted bytes_cmp es) h)) (sorted_deltas m1 m2 es (second (below_all bytes_cmp e.0 es) (is_sorted bytes_cmp es) h))
  where
    go : (s : Bool) → T (below_all bytes_cmp e.0 (map keyed (flat_map (delta_at m1 m2) (map (λ e. e.0) es)))) → T (is_sorted bytes_cmp (map keyed (flat_map (delta_at m1 m2) (map (λ e. e.0) es))))
        → T (is_sorted bytes_cmp (map keyed (cond s [] (record { key = e.0; before = get m1 e.0; after = get m2 e.0 } ∷ []) ++ flat_map (delta_at m1 m2) (map (λ e. e.0) es))))
    go true p ih = ih
    go false p ih = both (below_all bytes_cmp e.0 (map keyed (flat_map (delta_at m1 m2) (map (λ e. e.0) es)))) (is_sorted bytes_cmp (map keyed (flat_map (delta_at m1 m2) (map (λ e. e.0) es)))) p ih

-- the keys of the deltas rise
pub deltas-sorted : (m1 m2 : Map) → T (is_sorted bytes_cmp (map keyed (deltas m1 m2)))
unfolding deltas
deltas-sorted m1 m2 = sorted_deltas m1 m2 (entries (laid_over m1 (entries m2))) (entries_sorted (laid_over m1 (entries m2)))

-- ---- the values differ

differing : (m1 m2 : Map) (ks : List (List ℕ)) → AllByRecursion (λ (d : Delta). same_value d.before d.after ≡ false) (flat_map (delta_at m1 m2) ks)
differing m1 m2 [] = tt
differing m1 m2 (k ∷ ks) = go (same_value (get m1 k) (get m2 k)) refl (differing m1 m2 ks)
  where
    go : (s : Bool) → same_value (get m1 k) (get m2 k) ≡ s → AllByRecursion (λ (d : Delta). same_value d.before d.after ≡ false) (flat_map (delta_at m1 m2) ks)
        → AllByRecursion (λ (d : Delta). same_value d.before d.after ≡ false) (cond s [] (record { key = k; before = get m1 k; after = get m2 k } ∷ []) ++ flat_map (delta_at m1 m2) ks)
    go true e ih = ih
    go false e ih = (e, ih)

pub deltas-differ : (m1 m2 : Map) → AllByRecursion (λ (d : Delta). same_value d.before d.after ≡ false) (deltas m1 m2)
unfolding deltas
deltas-differ m1 m2 = differing m1 m2 (keys_of_both m1 m2)

-- ---- deltas in order are known by what they say

unkeyed : List (List ℕ × Values) → List Delta
unkeyed [] = []
unkeyed (e ∷ es) = record { key = e.0; before = e.1.0; after = e.1.1 } ∷ unkeyed es

unkeyed-keyed : (ds : List Delta) → unkeyed (map keyed ds) ≡ ds
unfolding unkeyed
unkeyed-keyed [] = refl
unkeyed-keyed (d ∷ ds) = ap (λ ds. d ∷ ds) (unkeyed-keyed ds)

pub one_list : (ds es : List Delta) → T (is_sorted bytes_cmp (map keyed ds)) → T (is_sorted bytes_cmp (map keyed es)) → ((q : List ℕ) → values_at ds q ≡ values_at es q) → ds ≡ es
one_list ds es g h is = sym (unkeyed-keyed ds) ∙ ap unkeyed (same_entries bytes_cmp nat_list_cmp_total tied_equal (map keyed ds) (map keyed es) g h is) ∙ unkeyed-keyed es
