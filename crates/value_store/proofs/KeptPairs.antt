-- The pairs of a map, by places that show it.
use Rattle.std.proofs.Common.{◌≡◌, ℕ, ◌+◌, ◌≤◌, Bool, true, false, cond, List, [], ◌∷◌, map, refl, sym, ap, ◌∙◌, subst, Option, Some, None, option_map, Ordering, Less, Equal, Greater}
use Rattle.std.specs.Prelude.{T, ◌&&◌, IfSome}
use Rattle.std.specs.Ordering.{is_eq, is_lt, eq_by_cmp}
use Rattle.std.specs.List.{AllByRecursion}
use Rattle.std.specs.Cmp.{tied_itself}
use Rattle.std.specs.FinMap.{find, is_sorted, get, entries, entries_sorted, get-entries}
use Rattle.std.specs.FinMap.Entries.{below_all, same_entries}
use Rattle.std.proofs.lemmas.Cmp.{nat_list_cmp_total}
use Rattle.base_model.specs.Bytes.{bytes_cmp}
use Rattle.trie_model.proofs.Entries.{tied_equal}
use Rattle.trie_model.specs.Maps.{Map}
use Rattle.value_store.specs.Values.{Place, StandsBefore, pair_in, value_in}
use Rattle.value_store.specs.Index.{Places, AreInFile, IsInFile}
use Rattle.value_store.specs.BatchReading.{Shows}
use Rattle.value_store.proofs.KeptMaps.{find-pairs}

-- ---- lists of entries with other values

module _ {X Y : Type 0} (f : List ℕ × X → Y) where
  abbrev pub with_value : List ℕ × X → List ℕ × Y
  with_value e = (e.0, f e)

  below-with_value : (k : List ℕ) (es : List (List ℕ × X)) → below_all bytes_cmp k (map with_value es) ≡ below_all bytes_cmp k es
  below-with_value k [] = refl
  below-with_value k (e ∷ es) = ap (λ b. is_lt (bytes_cmp k e.0) && b) (below-with_value k es)

  -- they stay in order
  pub sorted-with_value : (es : List (List ℕ × X)) → is_sorted bytes_cmp (map with_value es) ≡ is_sorted bytes_cmp es
  sorted-with_value [] = refl
  sorted-with_value (e ∷ es) = ap (λ b. b && is_sorted bytes_cmp (map with_value es)) (below-with_value e.0 es) ∙ ap (λ b. below_all bytes_cmp e.0 es && b) (sorted-with_value es)

-- ---- pairs

-- places that show a map say what its pairs are
pub pairs_shown : (file : List ℕ) (m : Map) (index : Places) → Shows file m index → entries m ≡ map (pair_in file) (entries index)
pairs_shown file m index s = same_entries bytes_cmp nat_list_cmp_total tied_equal (entries m) (map (pair_in file) (entries index)) (entries_sorted m)
    (subst T (sym (sorted-with_value (λ (e : List ℕ × Place). value_in file e.1) (entries index))) (entries_sorted index))
    (λ q. sym (get-entries m q) ∙ s.at q ∙ ap (option_map (value_in file)) (get-entries index q) ∙ sym (find-pairs file (entries index) q))

-- the other way
pub shown_pairs : (file : List ℕ) (m : Map) (index : Places) → entries m ≡ map (pair_in file) (entries index) → Shows file m index
shown_pairs file m index e = record { at = λ q. get-entries m q ∙ ap (find bytes_cmp q) e ∙ find-pairs file (entries index) q ∙ ap (option_map (value_in file)) (sym (get-entries index q)) }

-- ---- all places

both : (a b : Bool) → T (a && b) → T a × T b
both true b h = (tt, h)
both false b h = absurd h

-- a key below all others is none of them
missed : (x q : List ℕ) (es : List (List ℕ × Place)) → is_eq (bytes_cmp q x) ≡ true → T (below_all bytes_cmp x es) → find bytes_cmp q es ≡ None
missed x q [] t h = refl
missed x q (e ∷ es) t h =
    let p = both (is_lt (bytes_cmp x e.0)) (below_all bytes_cmp x es) h in
    ap (λ b. cond b (Some e.1) (find bytes_cmp q es)) (other (bytes_cmp x e.0) (ap (λ k. bytes_cmp k e.0) (tied_equal q x (equal (bytes_cmp q x) t))) p.0) ∙ missed x q es t p.1
  where
    equal : (o : Ordering) → is_eq o ≡ true → o ≡ Equal
    equal Less h = absurd cc
    equal Equal h = refl
    equal Greater h = absurd cc

    other : (o : Ordering) → bytes_cmp q e.0 ≡ o → T (is_lt o) → eq_by_cmp bytes_cmp q e.0 ≡ false
    other Less e h = ap is_eq e
    other Equal e h = absurd h
    other Greater e h = ap is_eq e

-- what holds of each place that is found holds of all
all_found : (P : Place → Type 0) (es : List (List ℕ × Place)) → T (is_sorted bytes_cmp es) → ((q : List ℕ) → IfSome (find bytes_cmp q es) P) → AllByRecursion (λ (e : List ℕ × Place). P e.1) es
all_found P [] h all = tt
all_found P (e ∷ es) h all =
    let p = both (below_all bytes_cmp e.0 es) (is_sorted bytes_cmp es) h in (
      subst (λ o. IfSome o P) (ap (λ o. cond (is_eq o) (Some e.1) (find bytes_cmp e.0 es)) (tied_itself nat_list_cmp_total e.0)) (all e.0),
      all_found P es p.1 (λ q. rest q (eq_by_cmp bytes_cmp q e.0) refl p.0 (all q)),
    )
  where
    rest : (q : List ℕ) (b : Bool) → eq_by_cmp bytes_cmp q e.0 ≡ b → T (below_all bytes_cmp e.0 es) → IfSome (cond b (Some e.1) (find bytes_cmp q es)) P → IfSome (find bytes_cmp q es) P
    rest q true t below h = subst (λ o. IfSome o P) (sym (missed e.0 q es t below)) tt
    rest q false t below h = h

-- values in the file stand before its end
pub all_before : (end : ℕ) (index : Places) → AreInFile end index → AllByRecursion (StandsBefore end) (entries index)
all_before end index all = all_found (λ p. p.start + p.count ≤ end) (entries index) (entries_sorted index) (λ q. weaker (get index q) (find bytes_cmp q (entries index)) (get-entries index q) (all q))
  where
    weaker : (o p : Option Place) → o ≡ p → IfSome o (IsInFile end) → IfSome p (λ p. p.start + p.count ≤ end)
    weaker None p e h = subst (λ o. IfSome o (λ p. p.start + p.count ≤ end)) e tt
    weaker (Some x) p e h = subst (λ o. IfSome o (λ p. p.start + p.count ≤ end)) e h.1
