-- Changes that lie in a map by their keys, and a batch that is made of them in their order.
use Rattle.std.proofs.Common.{◌≡◌, ℕ, List, [], ◌∷◌, ◌++◌, map, refl, sym, ap, ◌∙◌, subst, append_assoc, Vec, Global, Option, Ordering, Less, Equal, Greater}
use Rattle.std.specs.Ordering.{match_ordering, ordering_reverse}
use Rattle.std.specs.List.{AllByRecursion}
use Rattle.std.specs.List.Sorted.{IsStrictlySortedBy}
use Rattle.std.specs.Map.{keys_of}
use Rattle.std.specs.BTreeMap.{insert_entry}
use Rattle.std.proofs.lemmas.Cmp.{nat_list_cmp_total}
use Rattle.smallvec.specs.SmallVec.{SmallVec}
use Rattle.base_model.specs.Bytes.{bytes_cmp}
use Rattle.trie_model.proofs.Entries.{tied_equal}
use Rattle.batch_model.specs.Batch.{Change, set_change}
use Rattle.mdb_base.specs.Batches.{change_of}
use Rattle.script_run.specs.PendingChange.{waiting}

abbrev pub Entry : Type 0
Entry = SmallVec ℕ × Option (Vec ℕ Global)

-- the order of the keys
abbrev pub order : SmallVec ℕ → SmallVec ℕ → Ordering
order x y = bytes_cmp x.items y.items

-- what is inserted is a change that is set
pub waiting-insert_entry : (es : List Entry) (k : SmallVec ℕ) (v : Option (Vec ℕ Global)) → map waiting (insert_entry order es k v) ≡ set_change (map waiting es) (waiting (k, v))
waiting-insert_entry [] k v = refl
waiting-insert_entry (x ∷ es) k v = go (order k x.0) refl (waiting-insert_entry es k v)
  where
    go : (o : Ordering) → order k x.0 ≡ o → map waiting (insert_entry order es k v) ≡ set_change (map waiting es) (waiting (k, v))
        → map waiting (match_ordering o ((k, v) ∷ x ∷ es) ((x.0, v) ∷ es) (x ∷ insert_entry order es k v)) ≡ match_ordering o (waiting (k, v) ∷ waiting x ∷ map waiting es) (waiting (k, v) ∷ map waiting es) (waiting x ∷ set_change (map waiting es) (waiting (k, v)))
    go Less h ih = refl
    go Equal h ih = ap (λ (key : List ℕ). change_of key (waiting (k, v)).value ∷ map waiting es) (sym (tied_equal k.items x.0.items h))
    go Greater h ih = ap (λ r. waiting x ∷ r) ih

-- ---- in the order of the keys

-- each key is below all that follow it
abbrev Ascends : List Change → Type 0
Ascends [] = Unit {0}
Ascends (c ∷ cs) = AllByRecursion (λ (d : Change). bytes_cmp c.key d.key ≡ Less) cs × Ascends cs

below_all : (k : SmallVec ℕ) (es : List Entry) → AllByRecursion (λ x. order k x ≡ Less) (keys_of es) → AllByRecursion (λ (d : Change). bytes_cmp k.items d.key ≡ Less) (map waiting es)
below_all k [] h = tt
below_all k (e ∷ es) h = (h.0, below_all k es h.1)

ascends : (es : List Entry) → IsStrictlySortedBy order (keys_of es) → Ascends (map waiting es)
unfolding IsStrictlySortedBy
ascends [] h = tt
ascends (e ∷ es) h = (below_all e.0 es h.0, ascends es h.1)

-- what stands before a change has lower keys
before : (xs : List Change) (c : Change) (ys : List Change) → Ascends (xs ++ c ∷ ys) → AllByRecursion (λ (x : Change). bytes_cmp x.key c.key ≡ Less) xs
before [] c ys h = tt
before (x ∷ xs) c ys h = (head xs h.0, before xs c ys h.1)
  where
    head : (xs : List Change) → AllByRecursion (λ (d : Change). bytes_cmp x.key d.key ≡ Less) (xs ++ c ∷ ys) → bytes_cmp x.key c.key ≡ Less
    head [] h = h.0
    head (y ∷ xs) h = head xs h.1

-- a change with a key above all others is set behind them
set_last : (cs : List Change) (c : Change) → AllByRecursion (λ (x : Change). bytes_cmp x.key c.key ≡ Less) cs → set_change cs c ≡ cs ++ c ∷ []
set_last [] c h = refl
set_last (x ∷ xs) c h =
    ap (λ o. match_ordering o (c ∷ x ∷ xs) (c ∷ xs) (x ∷ set_change xs c)) (nat_list_cmp_total.antisymm c.key x.key ∙ ap ordering_reverse h.0)
    ∙ ap (λ r. x ∷ r) (set_last xs c h.1)

-- the next change of a map is set behind those before it
pub next_is_last : (all : List Entry) (done rest : List Change) (c : Change) → IsStrictlySortedBy order (keys_of all) → done ++ c ∷ rest ≡ map waiting all → set_change done c ++ rest ≡ map waiting all
next_is_last all done rest c sorted whole =
    ap (λ (cs : List Change). cs ++ rest) (set_last done c (before done c rest (subst Ascends (sym whole) (ascends all sorted))))
    ∙ append_assoc done (c ∷ []) rest
    ∙ whole
