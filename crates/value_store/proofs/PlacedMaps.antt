-- What a batch makes of a map, by the places of its values.
use Rattle.std.proofs.Common.{◌≡◌, ℕ, ◌+◌, ◌-◌, ◌≤◌, Bool, true, false, cond, List, [], ◌∷◌, ◌++◌, map, length, take, drop, refl, sym, ap, ◌∙◌, subst, arith, Option, Some, None, option_map, is_some, append_assoc, length-append}
use Rattle.std.specs.Prelude.{T, IfSome}
use Rattle.std.specs.Ordering.{eq_by_cmp}
use Rattle.std.specs.List.{flat_map}
use Rattle.std.specs.FinMap.{find, get, entries, entries_sorted, get-entries, len, len-entries, keys, get-insert, get-remove}
use Rattle.std.specs.FinMap.Entries.{same_entries}
use Rattle.std.proofs.lemmas.Cmp.{nat_list_cmp_total}
use Rattle.std.proofs.lemmas.List.{take_at, drop_at, drop-drop, length-map}
use Rattle.std.proofs.lemmas.List.Concat.{flat_map-cons}
use Rattle.base_model.specs.Bytes.{bytes_cmp}
use Rattle.base_model.specs.Uvarint.{uvarint}
use Rattle.trie_model.proofs.Entries.{tied_equal}
use Rattle.trie_model.specs.Maps.{Map}
use Rattle.batch_model.specs.Sized.{sized_form}
use Rattle.batch_model.specs.Batch.{Change, put_or_removed, after_batch, value_form, change_form}
use Rattle.store_model.specs.Header.{first_gate}
use Rattle.value_store.specs.Values.{Place, value_in}
use Rattle.value_store.specs.Index.{Places, AreInFile, IsInFile}
use Rattle.value_store.specs.BatchReading.{laid, Shows}
use Rattle.value_store.specs.ValuePlaces.{value_place, laid_all}
use Rattle.value_store.proofs.KeptPairs.{sorted-with_value}
use Rattle.value_store.proofs.ReadBatches.{shows-laid, in_file-laid}
use Rattle.value_store.proofs.PlacesAfter.{get-laid}

-- ---- keys

-- the map and the places have the same keys
pub record SameKeys (m : Map) (index : Places) : Type 0 where
  pub at : (q : List ℕ) → is_some (get m q) ≡ is_some (get index q)

same-laid : (m : Map) (index : Places) (key : List ℕ) (v : Option (List ℕ)) (p : Option Place) → is_some v ≡ is_some p → SameKeys m index → SameKeys (put_or_removed m key v) (laid index key p)
same-laid m index key v p e s = record { at = λ q. ap is_some (get-put q v) ∙ by_test (eq_by_cmp bytes_cmp q key) (get m q) (get index q) (s.at q) ∙ ap is_some (sym (get-laid index key p q)) }
  where
    get-put : (q : List ℕ) (v : Option (List ℕ)) → get (put_or_removed m key v) q ≡ cond (eq_by_cmp bytes_cmp q key) v (get m q)
    get-put q None = get-remove nat_list_cmp_total m key q
    get-put q (Some x) = get-insert nat_list_cmp_total m key x q

    by_test : (b : Bool) (x : Option (List ℕ)) (y : Option Place) → is_some x ≡ is_some y → is_some (cond b v x) ≡ is_some (cond b p y)
    by_test true x y h = e
    by_test false x y h = h

placed-alike : (at : ℕ) (c : Change) (v : Option (List ℕ)) → is_some v ≡ is_some (value_place at (record { key = c.key; value = v }))
placed-alike at c None = refl
placed-alike at c (Some v) = refl

pub same_keys-after : (at : ℕ) (cs : List Change) (m : Map) (index : Places) → SameKeys m index → SameKeys (after_batch m cs) (laid_all at cs index)
same_keys-after at [] m index s = s
same_keys-after at (c ∷ cs) m index s = same_keys-after (at + length (change_form c)) cs (put_or_removed m c.key c.value) (laid index c.key (value_place at c)) (same-laid m index c.key c.value (value_place at c) (placed-alike at c c.value) s)

erased : {X : Type 0} → List (List ℕ × X) → List (List ℕ × Unit {0})
erased es = map (λ e. (e.0, tt)) es

mark : {X : Type 0} → Option X → Option (Unit {0})
mark None = None
mark (Some x) = Some tt

find-erased : {X : Type 0} (es : List (List ℕ × X)) (q : List ℕ) → find bytes_cmp q (erased es) ≡ mark (find bytes_cmp q es)
unfolding erased mark
find-erased [] q = refl
find-erased {X} (e ∷ es) q = go (eq_by_cmp bytes_cmp q e.0) (find-erased es q)
  where
    go : (b : Bool) → find bytes_cmp q (erased es) ≡ mark (find bytes_cmp q es) → cond b (Some tt) (find bytes_cmp q (erased es)) ≡ mark (cond b (Some e.1) (find bytes_cmp q es))
    go true ih = refl
    go false ih = ih

keys-erased : {X : Type 0} (es : List (List ℕ × X)) → map (λ e. e.0) (erased es) ≡ map (λ e. e.0) es
unfolding erased
keys-erased [] = refl
keys-erased (e ∷ es) = ap (λ ks. e.0 ∷ ks) (keys-erased es)

marked : {X Y : Type 0} (x : Option X) (y : Option Y) → is_some x ≡ is_some y → mark x ≡ mark y
unfolding mark
marked None None e = refl
marked (Some x) (Some y) e = refl
marked None (Some y) e = absurd cc
marked (Some x) None e = absurd cc

-- so they have the same lists of keys
pub keys_alike : (m : Map) (index : Places) → SameKeys m index → keys m ≡ map (λ (e : List ℕ × Place). e.0) (entries index)
unfolding erased
keys_alike m index s =
    sym (keys-erased (entries m))
    ∙ ap (map (λ (e : List ℕ × Unit {0}). e.0)) (same_entries bytes_cmp nat_list_cmp_total tied_equal (erased (entries m)) (erased (entries index))
    (subst T (sym (sorted-with_value (λ (e : List ℕ × List ℕ). tt) (entries m))) (entries_sorted m))
    (subst T (sym (sorted-with_value (λ (e : List ℕ × Place). tt) (entries index))) (entries_sorted index))
    (λ q. find-erased (entries m) q ∙ marked (find bytes_cmp q (entries m)) (find bytes_cmp q (entries index)) (ap is_some (sym (get-entries m q)) ∙ s.at q ∙ ap is_some (get-entries index q)) ∙ sym (find-erased (entries index) q)))
    ∙ keys-erased (entries index)

-- and as many
pub len_alike : (m : Map) (index : Places) → SameKeys m index → len m ≡ len index
len_alike m index s =
    len-entries m ∙ sym (length-map (entries m) (λ (e : List ℕ × List ℕ). e.0)) ∙ ap length (keys_alike m index s) ∙ length-map (entries index) (λ (e : List ℕ × Place). e.0) ∙ sym (len-entries index)

-- ---- values

-- the value of a change that stands in a file
pub value_stands : (file : List ℕ) (at : ℕ) (c : Change) (rest : List ℕ) → drop at file ≡ change_form c ++ rest → c.value ≡ option_map (value_in file) (value_place at c)
value_stands file at c rest e = go c.value refl
  where
    go : (v : Option (List ℕ)) → c.value ≡ v → v ≡ option_map (value_in file) (value_place at (record { key = c.key; value = v }))
    go None is = refl
    go (Some v) is =
        let head = sized_form c.key ++ (1 ∷ uvarint (length v)) in
        let spelled : drop at file ≡ head ++ (v ++ rest) = e ∙ ap (λ x. (sized_form c.key ++ value_form x) ++ rest) is ∙ regroup v in
        let place : length head ≡ length (sized_form c.key) + 1 + length (uvarint (length v)) = omega (arith, length-append (sized_form c.key) (1 ∷ uvarint (length v))) in
        let start : at + length head ≡ at + length (sized_form c.key) + 1 + length (uvarint (length v)) = omega (arith, place) in
        ap (λ x. Some x)
        (sym (take_at v rest (length v) refl)
        ∙ ap (take (length v)) (sym (drop_at head (v ++ rest) (length head) refl) ∙ ap (drop (length head)) (sym spelled) ∙ drop-drop (length head) at file ∙ ap (λ n. drop n file) start))
      where
        regroup : (v : List ℕ) → (sized_form c.key ++ value_form (Some v)) ++ rest ≡ (sized_form c.key ++ (1 ∷ uvarint (length v))) ++ (v ++ rest)
        regroup v =
            append_assoc (sized_form c.key) (value_form (Some v)) rest
            ∙ ap (λ x. sized_form c.key ++ 1 ∷ x) (append_assoc (uvarint (length v)) v rest)
            ∙ sym (append_assoc (sized_form c.key) (1 ∷ uvarint (length v)) (v ++ rest))

-- what stands behind the first change
pub behind_change : (file : List ℕ) (at : ℕ) (c : Change) (rest : List ℕ) → drop at file ≡ change_form c ++ rest → drop (at + length (change_form c)) file ≡ rest
behind_change file at c rest e = sym (drop-drop (length (change_form c)) at file) ∙ ap (drop (length (change_form c))) e ∙ drop_at (change_form c) rest (length (change_form c)) refl

-- changes that stand in the file are shown by their places
pub shows-laid_all : (file : List ℕ) (at : ℕ) (cs : List Change) (rest : List ℕ) (m : Map) (index : Places) → drop at file ≡ flat_map change_form cs ++ rest → Shows file m index → Shows file (after_batch m cs) (laid_all at cs index)
shows-laid_all file at [] rest m index e s = s
shows-laid_all file at (c ∷ cs) rest m index e s =
    let first : drop at file ≡ change_form c ++ (flat_map change_form cs ++ rest) = e ∙ ap (λ x. x ++ rest) (flat_map-cons change_form c cs) ∙ append_assoc (change_form c) (flat_map change_form cs) rest in
    shows-laid_all file (at + length (change_form c)) cs rest (put_or_removed m c.key c.value) (laid index c.key (value_place at c))
    (behind_change file at c (flat_map change_form cs ++ rest) first)
    (shows-laid file m index c.key c.value (value_place at c) s (value_stands file at c (flat_map change_form cs ++ rest) first))

-- ---- bounds

-- the value of a change stands within it
pub place_within : (at : ℕ) (c : Change) (end : ℕ) → first_gate ≤ at → at + length (change_form c) ≤ end → IfSome (value_place at c) (IsInFile end)
place_within at c end low high = go c.value refl
  where
    go : (v : Option (List ℕ)) → c.value ≡ v → IfSome (value_place at (record { key = c.key; value = v })) (IsInFile end)
    go None is = tt
    go (Some v) is =
        let size : length (change_form c) ≡ length (sized_form c.key) + 1 + length (uvarint (length v)) + length v =
        ap (λ x. length (sized_form c.key ++ value_form x)) is ∙ omega (arith, length-append (sized_form c.key) (1 ∷ (uvarint (length v) ++ v)), length-append (uvarint (length v)) v) in
        (omega (arith, low), omega (arith, high, size))

pub in_file-laid_all : (at : ℕ) (cs : List Change) (end : ℕ) (index : Places) → first_gate ≤ at → at + length (flat_map change_form cs) ≤ end → AreInFile end index → AreInFile end (laid_all at cs index)
in_file-laid_all at [] end index low high all = all
in_file-laid_all at (c ∷ cs) end index low high all =
    let size = ap length (flat_map-cons change_form c cs) ∙ length-append (change_form c) (flat_map change_form cs) in
    in_file-laid_all (at + length (change_form c)) cs end (laid index c.key (value_place at c)) (omega (arith, low)) (omega (arith, high, size))
    (in_file-laid end index c.key (value_place at c) all (place_within at c end low (omega (arith, high, size))))

pub in_file-later : (end later : ℕ) (index : Places) → end ≤ later → AreInFile end index → AreInFile later index
in_file-later end later index le all = λ q. go (get index q) (all q)
  where
    go : (x : Option Place) → IfSome x (IsInFile end) → IfSome x (IsInFile later)
    go None h = tt
    go (Some p) h = (h.0, omega (arith, h.1, le))
