-- What a batch makes of one key of a map, and what the batches of views make of it.
use Rattle.std.proofs.Common.{◌≡◌, ℕ, zero, suc, ◌<◌, ◌≤◌, false, cond, List, [], ◌∷◌, take, length, get_or, refl, sym, ap, ◌∙◌, arith, Option, Some, None, Ordering, Less, Equal, Greater}
use Rattle.std.specs.Ordering.{is_lt, is_eq, match_ordering}
use Rattle.std.specs.Cmp.{tied_itself}
use Rattle.std.specs.FinMap.{get}
use Rattle.std.proofs.lemmas.Cmp.{nat_list_cmp_total}
use Rattle.std.proofs.lemmas.List.Edits.{length-insert}
use Rattle.base_model.specs.Bytes.{bytes_cmp}
use Rattle.trie_model.specs.Maps.{Map}
use Rattle.batch_model.specs.Batch.{Change, AreRising, set_change, put_or_removed, after_batch}
use Rattle.batch_model.proofs.SetChanges.{less, lower, get_changed}
use Rattle.view_model.specs.Forest.{Forest, Live, state}
use Rattle.view_model.specs.Maps.{changes_of, laid}
use Rattle.view_model.specs.Standing.{AreLive}
use Rattle.view_stack.specs.declared.state.ViewId.{ViewId}
use Rattle.view_stack.specs.ViewAnswers.{numbers}
use Rattle.mdb_base.specs.Batches.{IsGapFor}

-- ---- one batch

-- a change on another key leaves it alone
other_change : (m : Map) (k q : List ℕ) (v : Option (List ℕ)) (o : Ordering) → bytes_cmp q k ≡ o → is_eq o ≡ false → get (put_or_removed m k v) q ≡ get m q
other_change m k q v o e apart = get_changed m k v q ∙ ap (λ b. cond b v (get m q)) (ap is_eq e ∙ apart)

-- and so do changes on higher keys
pub higher_changes : (m : Map) (k : List ℕ) (cs : List Change) → AreRising (Some k) cs → get (after_batch m cs) k ≡ get m k
higher_changes m k [] h = refl
higher_changes m k (c ∷ cs) h =
    higher_changes (put_or_removed m c.key c.value) k cs (lower k c.key cs h.0 h.1) ∙ other_change m c.key k c.value Less (less (bytes_cmp k c.key) h.0) refl

-- the change of a key says what its value is
pub value-change : (last : Option (List ℕ)) (m : Map) (cs : List Change) (at : ℕ) (d : Change) → AreRising last cs → at < length cs → get (after_batch m cs) (get_or cs at d).key ≡ (get_or cs at d).value
value-change last m [] at d h l = absurd (omega arith)
value-change last m (c ∷ cs) zero d h l =
    higher_changes (put_or_removed m c.key c.value) c.key cs h.1
    ∙ (get_changed m c.key c.value c.key ∙ ap (λ o. cond (is_eq o) c.value (get m c.key)) (tied_itself nat_list_cmp_total c.key))
value-change last m (c ∷ cs) (suc at) d h l = value-change (Some c.key) (put_or_removed m c.key c.value) cs at d h.1 (omega arith)

-- where a change on a key would be one more, the others leave the key alone
one_more : (last : Option (List ℕ)) (m : Map) (cs : List Change) (c : Change) → AreRising last cs → length (set_change cs c) ≡ suc (length cs) → get (after_batch m cs) c.key ≡ get m c.key
one_more last m [] c h long = refl
one_more last m (x ∷ xs) c h long = go (bytes_cmp c.key x.key) refl long (one_more (Some x.key) (put_or_removed m x.key x.value) xs c h.1)
  where
    go : (o : Ordering) → bytes_cmp c.key x.key ≡ o → length (match_ordering o (c ∷ x ∷ xs) (c ∷ xs) (x ∷ set_change xs c)) ≡ suc (length (x ∷ xs))
        → (length (set_change xs c) ≡ suc (length xs) → get (after_batch (put_or_removed m x.key x.value) xs) c.key ≡ get (put_or_removed m x.key x.value) c.key)
        → get (after_batch (put_or_removed m x.key x.value) xs) c.key ≡ get m c.key
    go Less e long ih = higher_changes m c.key (x ∷ xs) (ap is_lt e, h.1)
    go Equal e long ih = absurd (omega (arith, long))
    go Greater e long ih = ih (omega (arith, long)) ∙ other_change m x.key c.key x.value Greater e refl

pub value-gap : (m : Map) (cs : List Change) (key : List ℕ) (at : ℕ) → AreRising None cs → IsGapFor cs key at → get (after_batch m cs) key ≡ get m key
value-gap m cs key at h gap =
    let c : Change = record { key = key; value = None } in
    one_more None m cs c h (omega (arith, ap length (gap.set c refl), length-insert cs at c gap.inside))

-- ---- the batches of views

pub live_at : (f : Forest) (ids : List ViewId) (i : ℕ) (d : ViewId) → AreLive f (numbers ids) → i < length ids → state f (get_or ids i d).number ≡ Some Live
live_at f [] i d h l = absurd (omega arith)
live_at f (x ∷ ids) zero d h l = h.0
live_at f (x ∷ ids) (suc i) d h l = live_at f ids i d h.1 (omega arith)

-- one view more
pub laid_one_more : (f : Forest) (m : Map) (ids : List ViewId) (i : ℕ) (d : ViewId) → i < length ids → laid f m (numbers (take (suc i) ids)) ≡ after_batch (laid f m (numbers (take i ids))) (changes_of f (get_or ids i d).number)
laid_one_more f m [] i d l = absurd (omega arith)
laid_one_more f m (x ∷ ids) zero d l = refl
laid_one_more f m (x ∷ ids) (suc i) d l = laid_one_more f (after_batch m (changes_of f x.number)) ids i d (omega arith)

-- a view tells the value where those behind it leave the key alone
pub told_by : (f : Forest) (m : Map) (ids : List ViewId) (i left : ℕ) (d : ViewId) (key : List ℕ) (batch : List Change) (v : Option (List ℕ)) → left ≡ suc i → left ≤ length ids
    → get (laid f m (numbers ids)) key ≡ get (laid f m (numbers (take left ids))) key → batch ≡ changes_of f (get_or ids i d).number
    → get (after_batch (laid f m (numbers (take i ids))) batch) key ≡ v → get (laid f m (numbers ids)) key ≡ v
told_by f m ids i left d key batch v e within rest is told =
    rest
    ∙ (ap (λ k. get (laid f m (numbers (take k ids))) key) e
    ∙ (ap (λ (x : Map). get x key) (laid_one_more f m ids i d (omega (arith, e, within)))
    ∙ (ap (λ cs. get (after_batch (laid f m (numbers (take i ids))) cs) key) (sym is) ∙ told)))
