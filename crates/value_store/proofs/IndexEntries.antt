-- The entries of the index in memory as a map of places.
use Rattle.std.proofs.Common.{◌≡◌, ℕ, Bool, true, false, cond, List, [], ◌∷◌, map, length, refl, sym, ap, ◌∙◌, subst, Vec, Global, Option, Some, None, leb, Ordering, Less, Equal, Greater}
use Rattle.std.specs.Prelude.{T, ◌&&◌, IsSome}
use Rattle.std.specs.Ordering.{is_eq, is_lt, eq_by_cmp, match_ordering}
use Rattle.std.specs.List.{AllByRecursion, filter, IsDistinct}
use Rattle.std.specs.List.Sorted.{IsStrictlySortedBy}
use Rattle.std.specs.Map.{keys_of, lookup, remove_entry, set_value}
use Rattle.std.specs.BTreeMap.{insert_entry, is_at}
use Rattle.std.specs.Cmp.{eq_by_cmp_equiv}
use Rattle.std.specs.FinMap.{find, put, is_sorted, get, insert, remove, entries, empty, empty_of_len, len-entries, same_map, same_entries_map, entries-from_sorted, get-from_sorted, entries-insert, get-insert, get-remove}
use Rattle.std.specs.FinMap.Entries.{below_all, by_order}
use Rattle.std.proofs.lemmas.Cmp.{nat_list_cmp_total}
use Rattle.std.proofs.lemmas.Map.{lookup-remove_entry, lookup-set_value}
use Rattle.std.proofs.lemmas.Map.Keys.{IsDistinct-from_sorted}
use Rattle.base_model.specs.Bytes.{bytes_cmp}
use Rattle.trie_model.proofs.Entries.{tied_equal}
use Rattle.value_store.specs.Values.{Place}
use Rattle.value_store.specs.Index.{Places, placed, places_of, key_order, AreInOrder, up_to}

abbrev Entry : Type 0
Entry = Vec ℕ Global × Place

abbrev Pair : Type 0
Pair = List ℕ × Place

-- ---- order

both : (a b : Bool) → T a → T b → T (a && b)
both true b p q = q
both false b p q = p

below-placed : (k : Vec ℕ Global) (es : List Entry) → AllByRecursion (λ x. key_order k x ≡ Less) (keys_of es) → T (below_all bytes_cmp k.items (map placed es))
below-placed k [] h = tt
below-placed k (e ∷ es) h = both _ _ (subst (λ o. T (is_lt o)) (sym h.0) tt) (below-placed k es h.1)

pub sorted-placed : (es : List Entry) → AreInOrder es → T (is_sorted bytes_cmp (map placed es))
unfolding IsStrictlySortedBy
sorted-placed [] h = tt
sorted-placed (e ∷ es) h = both _ _ (below-placed e.0 es h.0) (sorted-placed es h.1)

pub entries-places_of : (es : List Entry) → AreInOrder es → entries (places_of es) ≡ map placed es
entries-places_of es h = entries-from_sorted bytes_cmp (map placed es) (sorted-placed es h)

pub places_of-none : places_of [] ≡ empty
places_of-none = empty_of_len (places_of []) (len-entries (places_of []) ∙ ap length (entries-from_sorted bytes_cmp [] tt))

-- ---- what is found

find-lookup : (q : List ℕ) (es : List Pair) → find bytes_cmp q es ≡ lookup (is_at (bytes_cmp q)) es
find-lookup q [] = refl
find-lookup q (e ∷ es) = ap (cond (is_eq (bytes_cmp q e.0)) (Some e.1)) (find-lookup q es)

lookup-placed : (q : List ℕ) (es : List Entry) → lookup (is_at (bytes_cmp q)) (map placed es) ≡ lookup (λ (k : Vec ℕ Global). is_at (bytes_cmp q) k.items) es
lookup-placed q [] = refl
lookup-placed q (e ∷ es) = ap (cond (is_eq (bytes_cmp q e.0.items)) (Some e.1)) (lookup-placed q es)

-- what the map answers is the first that a search finds
pub get-places_of : (es : List Entry) → AreInOrder es → (q : List ℕ) → get (places_of es) q ≡ lookup (is_at (bytes_cmp q)) (map placed es)
get-places_of es h q = get-from_sorted bytes_cmp (map placed es) q (sorted-placed es h) ∙ find-lookup q (map placed es)

pub get-entries_of : (es : List Entry) → AreInOrder es → (q : List ℕ) → get (places_of es) q ≡ lookup (λ (k : Vec ℕ Global). is_at (bytes_cmp q) k.items) es
get-entries_of es h q = get-places_of es h q ∙ lookup-placed q es

-- maps that answer alike are one
pub same_places : (m n : Places) → ((q : List ℕ) → get m q ≡ get n q) → m ≡ n
same_places = same_map nat_list_cmp_total tied_equal

-- the keys in order are distinct
distinct : (es : List Entry) → AreInOrder es → IsDistinct (eq_by_cmp bytes_cmp) (keys_of (map placed es))
unfolding IsStrictlySortedBy
distinct es h = IsDistinct-from_sorted bytes_cmp (keys_of (map placed es)) (keys es h)
  where
    below : (k : Vec ℕ Global) (es : List Entry) → AllByRecursion (λ x. key_order k x ≡ Less) (keys_of es) → AllByRecursion (λ (x : List ℕ). bytes_cmp k.items x ≡ Less) (keys_of (map placed es))
    below k [] h = tt
    below k (e ∷ es) h = (h.0, below k es h.1)

    keys : (es : List Entry) → AreInOrder es → IsStrictlySortedBy bytes_cmp (keys_of (map placed es))
    keys [] h = tt
    keys (e ∷ es) h = (below e.0 es h.0, keys es h.1)

-- a key that ties with k ties with what k ties with
one_key : (k x y : List ℕ) → is_at (bytes_cmp k) x ≡ true → is_at (bytes_cmp k) y ≡ eq_by_cmp bytes_cmp x y
one_key k x y t = ap (λ z. is_eq (bytes_cmp z y)) (tied_equal k x (equal (bytes_cmp k x) t))
  where
    equal : (o : Ordering) → is_eq o ≡ true → o ≡ Equal
    equal Less h = absurd cc
    equal Equal h = refl
    equal Greater h = absurd cc

turned : (k q : List ℕ) → is_at (bytes_cmp k) q ≡ eq_by_cmp bytes_cmp q k
turned k q = (eq_by_cmp_equiv nat_list_cmp_total).symm k q

-- ---- changes

placed-insert_entry : (es : List Entry) (k : Vec ℕ Global) (p : Place) → map placed (insert_entry key_order es k p) ≡ put bytes_cmp k.items p (map placed es)
placed-insert_entry [] k p = refl
placed-insert_entry (e ∷ es) k p = go (key_order k e.0) (placed-insert_entry es k p)
  where
    go : (o : Ordering) → map placed (insert_entry key_order es k p) ≡ put bytes_cmp k.items p (map placed es)
        → map placed (match_ordering o ((k, p) ∷ e ∷ es) ((e.0, p) ∷ es) (e ∷ insert_entry key_order es k p)) ≡ by_order o ((k.items, p) ∷ placed e ∷ map placed es) ((e.0.items, p) ∷ map placed es) (placed e ∷ put bytes_cmp k.items p (map placed es))
    go Less ih = refl
    go Equal ih = refl
    go Greater ih = ap (λ r. placed e ∷ r) ih

-- an insertion into the entries is one into the map
pub places_of-insert_entry : (es fs : List Entry) (k : Vec ℕ Global) (p : Place) → AreInOrder es → AreInOrder fs → fs ≡ insert_entry key_order es k p → places_of fs ≡ insert (places_of es) k.items p
places_of-insert_entry es fs k p h h' e = same_entries_map (places_of fs) (insert (places_of es) k.items p)
    (entries-places_of fs h'
    ∙ ap (map placed) e
    ∙ placed-insert_entry es k p
    ∙ ap (put bytes_cmp k.items p) (sym (entries-places_of es h))
    ∙ sym (entries-insert nat_list_cmp_total (places_of es) k.items p))

placed-remove_entry : (es : List Entry) (k : List ℕ) → map placed (remove_entry (λ (x : Vec ℕ Global). is_at (bytes_cmp k) x.items) es) ≡ remove_entry (is_at (bytes_cmp k)) (map placed es)
placed-remove_entry [] k = refl
placed-remove_entry (e ∷ es) k = go (is_at (bytes_cmp k) e.0.items) (placed-remove_entry es k)
  where
    go : (b : Bool) → map placed (remove_entry (λ (x : Vec ℕ Global). is_at (bytes_cmp k) x.items) es) ≡ remove_entry (is_at (bytes_cmp k)) (map placed es)
        → map placed (cond b es (e ∷ remove_entry (λ (x : Vec ℕ Global). is_at (bytes_cmp k) x.items) es)) ≡ cond b (map placed es) (placed e ∷ remove_entry (is_at (bytes_cmp k)) (map placed es))
    go true ih = refl
    go false ih = ap (λ r. placed e ∷ r) ih

-- a removal from the entries is one from the map
pub places_of-remove_entry : (es fs : List Entry) (k : List ℕ) → AreInOrder es → AreInOrder fs → fs ≡ remove_entry (λ (x : Vec ℕ Global). is_at (bytes_cmp k) x.items) es → places_of fs ≡ remove (places_of es) k
places_of-remove_entry es fs k h h' e = same_places (places_of fs) (remove (places_of es) k) (λ q.
    get-places_of fs h' q
    ∙ ap (λ l. lookup (is_at (bytes_cmp q)) (map placed l)) e
    ∙ ap (lookup (is_at (bytes_cmp q))) (placed-remove_entry es k)
    ∙ lookup-remove_entry (eq_by_cmp_equiv nat_list_cmp_total) (is_at (bytes_cmp k)) (one_key k) q (map placed es) (distinct es h)
    ∙ ap (λ b. cond b None (lookup (is_at (bytes_cmp q)) (map placed es))) (turned k q)
    ∙ ap (cond (eq_by_cmp bytes_cmp q k) None) (sym (get-places_of es h q))
    ∙ sym (get-remove nat_list_cmp_total (places_of es) k q))

placed-set_value : (es : List Entry) (k : List ℕ) (p : Place) → map placed (set_value (λ (x : Vec ℕ Global). is_at (bytes_cmp k) x.items) es p) ≡ set_value (is_at (bytes_cmp k)) (map placed es) p
placed-set_value [] k p = refl
placed-set_value (e ∷ es) k p = go (is_at (bytes_cmp k) e.0.items) (placed-set_value es k p)
  where
    go : (b : Bool) → map placed (set_value (λ (x : Vec ℕ Global). is_at (bytes_cmp k) x.items) es p) ≡ set_value (is_at (bytes_cmp k)) (map placed es) p
        → map placed (cond b ((e.0, p) ∷ es) (e ∷ set_value (λ (x : Vec ℕ Global). is_at (bytes_cmp k) x.items) es p)) ≡ cond b ((e.0.items, p) ∷ map placed es) (placed e ∷ set_value (is_at (bytes_cmp k)) (map placed es) p)
    go true ih = refl
    go false ih = ap (λ r. placed e ∷ r) ih

-- a new value at a key that is there
pub places_of-set_value : (es fs : List Entry) (k : List ℕ) (p : Place) → AreInOrder es → AreInOrder fs → IsSome (get (places_of es) k) → fs ≡ set_value (λ (x : Vec ℕ Global). is_at (bytes_cmp k) x.items) es p → places_of fs ≡ insert (places_of es) k p
places_of-set_value es fs k p h h' there e = same_places (places_of fs) (insert (places_of es) k p) (λ q.
    get-places_of fs h' q
    ∙ ap (λ l. lookup (is_at (bytes_cmp q)) (map placed l)) e
    ∙ ap (lookup (is_at (bytes_cmp q))) (placed-set_value es k p)
    ∙ lookup-set_value (eq_by_cmp_equiv nat_list_cmp_total) (is_at (bytes_cmp k)) (one_key k) q p (map placed es) (subst (λ o. IsSome o) (get-places_of es h k) there)
    ∙ ap (λ b. cond b (Some p) (lookup (is_at (bytes_cmp q)) (map placed es))) (turned k q)
    ∙ ap (cond (eq_by_cmp bytes_cmp q k) (Some p)) (sym (get-places_of es h q))
    ∙ sym (get-insert nat_list_cmp_total (places_of es) k p q))

-- ---- the entries up to a place

abbrev is_up_to : ℕ → Entry → Bool
is_up_to end e = leb e.1.start end

-- a key that is not among distinct keys any more
none_past : (q : List ℕ) (e : Entry) (es : List Entry) → AreInOrder (e ∷ es) → is_at (bytes_cmp q) e.0.items ≡ true → lookup (is_at (bytes_cmp q)) (map placed es) ≡ None
unfolding IsStrictlySortedBy
none_past q e es h t = go es h.0
  where
    miss : (x : List ℕ) → bytes_cmp e.0.items x ≡ Less → is_at (bytes_cmp q) x ≡ false
    miss x l = one_key q e.0.items x t ∙ ap is_eq l

    go : (es : List Entry) → AllByRecursion (λ x. key_order e.0 x ≡ Less) (keys_of es) → lookup (is_at (bytes_cmp q)) (map placed es) ≡ None
    go [] h = refl
    go (f ∷ es) h = ap (λ b. cond b (Some f.1) (lookup (is_at (bytes_cmp q)) (map placed es))) (miss f.0.items h.0) ∙ go es h.1

lookup-filter : (end : ℕ) (q : List ℕ) (es : List Entry) → AreInOrder es → lookup (is_at (bytes_cmp q)) (map placed (filter (is_up_to end) es)) ≡ up_to end (lookup (is_at (bytes_cmp q)) (map placed es))
unfolding IsStrictlySortedBy
lookup-filter end q [] h = refl
lookup-filter end q (e ∷ es) h = go (is_up_to end e) (is_at (bytes_cmp q) e.0.items) refl refl (lookup-filter end q es h.1)
  where
    go : (b t : Bool) → is_up_to end e ≡ b → is_at (bytes_cmp q) e.0.items ≡ t → lookup (is_at (bytes_cmp q)) (map placed (filter (is_up_to end) es)) ≡ up_to end (lookup (is_at (bytes_cmp q)) (map placed es))
        → lookup (is_at (bytes_cmp q)) (map placed (cond b (e ∷ filter (is_up_to end) es) (filter (is_up_to end) es))) ≡ up_to end (cond t (Some e.1) (lookup (is_at (bytes_cmp q)) (map placed es)))
    go true true eb et ih = ap (λ t. cond t (Some e.1) (lookup (is_at (bytes_cmp q)) (map placed (filter (is_up_to end) es)))) et ∙ sym (ap (λ b. cond b (Some e.1) None) eb)
    go true false eb et ih = ap (λ t. cond t (Some e.1) (lookup (is_at (bytes_cmp q)) (map placed (filter (is_up_to end) es)))) et ∙ ih
    go false true eb et ih = ih ∙ ap (up_to end) (none_past q e es h et) ∙ sym (ap (λ b. cond b (Some e.1) None) eb)
    go false false eb et ih = ih

-- the map of the entries up to a place
pub get-filter : (end : ℕ) (es fs : List Entry) → AreInOrder es → AreInOrder fs → fs ≡ filter (is_up_to end) es → (q : List ℕ) → get (places_of fs) q ≡ up_to end (get (places_of es) q)
get-filter end es fs h h' e q = get-places_of fs h' q ∙ ap (λ l. lookup (is_at (bytes_cmp q)) (map placed l)) e ∙ lookup-filter end q es h ∙ ap (up_to end) (sym (get-places_of es h q))

-- ---- there or not

pub not_some : (o : Option Place) → IsSome o → o ≡ None → ⊥
not_some None h e = absurd cc
not_some (Some p) h e = absurd cc

pub not_none : (p : Place) → None ≡ Some p → ⊥
not_none p e = absurd cc
