-- Pairs that are read at their places, and taken one after another.
use Rattle.std.proofs.Common.{◌≡◌, ℕ, cond, List, [], ◌∷◌, ◌++◌, map, refl, sym, ap, ◌∙◌, subst, append_assoc, Vec, Global, Option, Some, Less, Greater}
use Rattle.std.specs.Prelude.{IfSome}
use Rattle.std.specs.Ordering.{is_eq, ordering_reverse}
use Rattle.std.specs.Cmp.{tied_itself}
use Rattle.std.specs.List.{AllByRecursion}
use Rattle.std.specs.List.Sorted.{IsStrictlySortedBy}
use Rattle.std.specs.Map.{keys_of, lookup}
use Rattle.std.specs.BTreeMap.{is_at}
use Rattle.std.specs.FinMap.{get, entries}
use Rattle.std.proofs.lemmas.Cmp.{nat_list_cmp_total}
use Rattle.std.proofs.lemmas.List.{append-nil}
use Rattle.base_model.specs.Bytes.{bytes_cmp}
use Rattle.value_store.specs.Values.{Place, pair_in}
use Rattle.value_store.specs.Index.{Places, placed, places_of, key_order, AreInOrder, AreInFile, IsInFile, IsShort, HasShortKeys}
use Rattle.value_store.specs.PairSinks.{TakesAll}
use Rattle.value_store.proofs.IndexEntries.{get-places_of, entries-places_of}

abbrev pub Entry : Type 0
Entry = Vec ℕ Global × Place

-- ---- an entry is found

below_last : (x k : Vec ℕ Global) (done rest : List (Vec ℕ Global)) → AllByRecursion (λ y. key_order x y ≡ Less) (done ++ k ∷ rest) → key_order x k ≡ Less
below_last x k [] rest h = h.0
below_last x k (y ∷ done) rest h = below_last x k done rest h.1

keys-split : (done : List Entry) (e : Entry) (rest : List Entry) → keys_of (done ++ e ∷ rest) ≡ keys_of done ++ e.0 ∷ keys_of rest
keys-split [] e rest = refl
keys-split (x ∷ done) e rest = ap (λ ks. x.0 ∷ ks) (keys-split done e rest)

lookup-split : (done : List Entry) (k : Vec ℕ Global) (p : Place) (rest : List Entry) → AreInOrder (done ++ (k, p) ∷ rest) → lookup (is_at (bytes_cmp k.items)) (map placed (done ++ (k, p) ∷ rest)) ≡ Some p
unfolding IsStrictlySortedBy
lookup-split [] k p rest h = ap (λ o. cond (is_eq o) (Some p) (lookup (is_at (bytes_cmp k.items)) (map placed rest))) (tied_itself nat_list_cmp_total k.items)
lookup-split (x ∷ done) k p rest h =
    let below = below_last x.0 k (keys_of done) (keys_of rest) (subst (AllByRecursion (λ y. key_order x.0 y ≡ Less)) (keys-split done (k, p) rest) h.0) in
    let above : bytes_cmp k.items x.0.items ≡ Greater = nat_list_cmp_total.antisymm k.items x.0.items ∙ ap ordering_reverse below in
    ap (λ o. cond (is_eq o) (Some x.1) (lookup (is_at (bytes_cmp k.items)) (map placed (done ++ (k, p) ∷ rest)))) above
    ∙ lookup-split done k p rest h.1

entry_found : (index : Places) (all done rest : List Entry) (k : Vec ℕ Global) (p : Place) → places_of all ≡ index → AreInOrder all → done ++ (k, p) ∷ rest ≡ all → get index k.items ≡ Some p
entry_found index all done rest k p is sorted whole =
    ap (λ (m : Places). get m k.items) (sym is)
    ∙ get-places_of all sorted k.items
    ∙ ap (λ (es : List Entry). lookup (is_at (bytes_cmp k.items)) (map placed es)) (sym whole)
    ∙ lookup-split done k p rest (subst AreInOrder (sym whole) sorted)

-- the place of an entry is within the file
pub entry_in_file : (end : ℕ) (index : Places) (all done rest : List Entry) (k : Vec ℕ Global) (p : Place) → places_of all ≡ index → AreInOrder all → done ++ (k, p) ∷ rest ≡ all → AreInFile end index → IsInFile end p
entry_in_file end index all done rest k p is sorted whole within = subst (λ (o : Option Place). IfSome o (IsInFile end)) (entry_found index all done rest k p is sorted whole) (within k.items)

-- and its key within the limit
pub entry_short : (index : Places) (all done rest : List Entry) (k : Vec ℕ Global) (p : Place) → places_of all ≡ index → AreInOrder all → done ++ (k, p) ∷ rest ≡ all → HasShortKeys index → IsShort k.items
entry_short index all done rest k p is sorted whole short = subst (λ (o : Option Place). IfSome o (λ _. IsShort k.items)) (entry_found index all done rest k p is sorted whole) (short k.items)

-- ---- what was taken

abbrev pub pairs_of : List ℕ → List Entry → List (List ℕ × List ℕ)
pairs_of bytes es = map (pair_in bytes) (map placed es)

-- a pair is taken behind others
takes_last : {S : Type 0} (takes : S → List ℕ → List ℕ → S → Type 0) (s : S) (es : List (List ℕ × List ℕ)) (e : List ℕ × List ℕ) (t u : S) → TakesAll takes s es t → takes t e.0 e.1 u → TakesAll takes s (es ++ e ∷ []) u
takes_last {S} takes s [] e t u h g = (u, subst (λ (x : S). takes x e.0 e.1 u) h g, refl)
takes_last takes s (x ∷ es) e t u h g = (h.0, h.1, takes_last takes h.0 es e t u h.2 g)

pairs-split : (bytes : List ℕ) (done : List Entry) (e : Entry) → pairs_of bytes (done ++ e ∷ []) ≡ pairs_of bytes done ++ pair_in bytes (placed e) ∷ []
pairs-split bytes [] e = refl
pairs-split bytes (x ∷ done) e = ap (λ (es : List (List ℕ × List ℕ)). pair_in bytes (placed x) ∷ es) (pairs-split bytes done e)

-- some pairs were taken, whatever was read
abbrev pub TakesSome : {S : Type 0} → (S → List ℕ → List ℕ → S → Type 0) → S → S → Type 0
TakesSome takes s t = (es : List (List ℕ × List ℕ)) × AllByRecursion (λ (e : List ℕ × List ℕ). IsShort e.0) es × TakesAll takes s es t

pub takes_none : {S : Type 0} (takes : S → List ℕ → List ℕ → S → Type 0) (s : S) → TakesSome takes s s
takes_none takes s = ([], tt, refl)

short_last : (es : List (List ℕ × List ℕ)) (e : List ℕ × List ℕ) → AllByRecursion (λ (e : List ℕ × List ℕ). IsShort e.0) es → IsShort e.0 → AllByRecursion (λ (e : List ℕ × List ℕ). IsShort e.0) (es ++ e ∷ [])
short_last [] e h one = (one, tt)
short_last (x ∷ es) e h one = (h.0, short_last es e h.1 one)

pub takes_more : {S : Type 0} (takes : S → List ℕ → List ℕ → S → Type 0) (s : S) (key value : List ℕ) (t u : S) → TakesSome takes s t → IsShort key → takes t key value u → TakesSome takes s u
takes_more takes s key value t u h short g = (h.0 ++ (key, value) ∷ [], short_last h.0 (key, value) h.1 short, takes_last takes s h.0 (key, value) t u h.2 g)

-- of all entries these are left
pub record Left (all rest : List Entry) : Type 0 where
  pub done : List Entry
  pub whole : done ++ rest ≡ all

-- and the pairs of the others were taken
pub record Handed {S : Type 0} (takes : S → List ℕ → List ℕ → S → Type 0) (bytes : List ℕ) (all rest : List Entry) (s t : S) : Type 0 where
  pub done : List Entry
  pub whole : done ++ rest ≡ all
  pub taken : TakesAll takes s (pairs_of bytes done) t

pub none_left_out : (all : List Entry) → Left all all
none_left_out all = record { done = []; whole = refl }

pub one_less : (all : List Entry) (e : Entry) (rest : List Entry) → Left all (e ∷ rest) → Left all rest
one_less all e rest h = record { done = h.done ++ e ∷ []; whole = append_assoc h.done (e ∷ []) rest ∙ h.whole }

module _ {S : Type 0} (takes : S → List ℕ → List ℕ → S → Type 0) (bytes : List ℕ) (all : List Entry) (s : S) where
  pub none_handed : Handed takes bytes all all s s
  none_handed = record { done = []; whole = refl; taken = refl }

  pub one_handed : (e : Entry) (rest : List Entry) (t u : S) (value : List ℕ) → Handed takes bytes all (e ∷ rest) s t → value ≡ (pair_in bytes (placed e)).1 → takes t e.0.items value u → Handed takes bytes all rest s u
  one_handed e rest t u value h is took = record {
    done = h.done ++ e ∷ [];
    whole = append_assoc h.done (e ∷ []) rest ∙ h.whole;
    taken = subst (λ (es : List (List ℕ × List ℕ)). TakesAll takes s es u) (sym (pairs-split bytes h.done e))
        (takes_last takes s (pairs_of bytes h.done) (pair_in bytes (placed e)) t u h.taken (subst (λ (v : List ℕ). takes t e.0.items v u) is took));
  }

  pub all_handed : (index : Places) (t : S) → places_of all ≡ index → AreInOrder all → Handed takes bytes all [] s t → TakesAll takes s (map (pair_in bytes) (entries index)) t
  all_handed index t is sorted h =
      subst (λ (es : List (List ℕ × Place)). TakesAll takes s (map (pair_in bytes) es) t) (sym (entries-places_of all sorted) ∙ ap entries is)
      (subst (λ (es : List Entry). TakesAll takes s (pairs_of bytes es) t) (sym (append-nil h.done) ∙ h.whole) h.taken)
