-- What the first tests that fail say of the reason why a proof is refused.
use Rattle.std.proofs.Common.{◌≡◌, ℕ, suc, length, Bool, true, false, List, [], ◌∷◌, map, refl, sym, ap, ◌∙◌, subst, Option, Some, None, Result, Ordering, Less, Equal, Greater}
use Rattle.std.specs.Prelude.{if◌then◌else◌, not, nat_eq}
use Rattle.std.specs.List.{AllByRecursion}
use Rattle.std.specs.Ordering.{is_lt}
use Rattle.std.specs.Cmp.Lexicographic.{pointwise, texts_ties}
use Rattle.std.proofs.lemmas.Cmp.{nat_list_cmp_total}
use Rattle.base_model.specs.Bytes.{AreBytes, bytes_cmp}
use Rattle.trie_model.specs.Ids.{id}
use Rattle.trie_model.specs.Maps.{limits}
use Rattle.range_model.specs.Ranges.{Range, holds}
use Rattle.proof_model.specs.Proofs.{Pair}
use Rattle.proof_model.specs.Claims.{claim_items}
use Rattle.proof_model.specs.SoundProofs.{LiesIn, AreSorted, IsClaim}
use Rattle.proof_check.specs.declared.claim.Entry.{Entry}
use Rattle.proof_check.specs.declared.claim.Claim.{Claim}
use Rattle.proof_check.specs.declared.verify_fault.VerifyFault.{VerifyFault}
use Rattle.proof_check.specs.declared.verify_fault.VerifyFault.TheVariants as faults
use Rattle.proof_check.specs.Claims.{pair_of, keys_of, claim_of, entry_less, entry_outside, entry_refusal, listed_refusal, HaveBytes, AreUnbroken, IsCheckable}
use Rattle.proof_check.specs.CheckResults.{IsReason, Tells, FaultCosts}
use Rattle.proof_check.proofs.EntryTests.{first_break-map, first_place-map}
use Rattle.proof_check.proofs.PathOrders.{unbroken_from}
use Rattle.std.specs.Option.{option_or}
use Rattle.proof_model.specs.Paths.{ProofNode}
use Rattle.proof_model.specs.Refusals.{Refusal, Unsorted, Outside, PathOrder, PathsDiffer, Idle, RootDiffers, extends, is_less, lies_outside, first_break, first_place, disagrees_with, or_else, or_then, path_break, path_refusal, root_refusal, refusal}

either : (a b : Option ℕ) → option_or a b ≡ or_then a b
either None b = refl
either (Some x) b = refl

module _ (start end : List ProofNode) (next : Option Refusal) (r s : Option ℕ) (e : r ≡ first_break extends 0 start) (f : s ≡ first_break extends (length start) end) where
  breaks : option_or r s ≡ path_break start end
  breaks = either r s ∙ ap (λ r. or_then r s) e ∙ ap (or_then (first_break extends 0 start)) f

  -- a node is out of order
  pub order_told : (place : ℕ) → Some place ≡ option_or r s → path_refusal start end next ≡ Some (PathOrder place)
  unfolding path_refusal
  order_told place h = ap (λ o. or_else PathOrder o (or_else PathsDiffer (first_place (disagrees_with start) (length start) end) next)) (sym (h ∙ breaks))

  -- none is, and this is the first node that disagrees with another, if one does
  pub difference_told : None ≡ option_or r s → (d : Option ℕ) → d ≡ first_place (disagrees_with start) (length start) end → path_refusal start end next ≡ or_else PathsDiffer d next
  unfolding path_refusal
  difference_told h d g =
      ap (λ o. or_else PathOrder o (or_else PathsDiffer (first_place (disagrees_with start) (length start) end) next)) (sym (h ∙ breaks)) ∙ ap (λ d. or_else PathsDiffer d next) (sym g)

  -- the start path has no break then
  pub start_unbroken : None ≡ option_or r s → first_break extends 0 start ≡ None
  start_unbroken h = sym e ∙ go r h
    where
      go : (r : Option ℕ) → None ≡ option_or r s → r ≡ None
      go None h = refl
      go (Some x) h = sym h

-- ---- one reason after the other
-- a reason that comes first is told whatever comes next
told_first : (f : VerifyFault) (why all : Option Refusal) → ((r : Refusal) → why ≡ Some r → all ≡ Some r) → IsReason f why → IsReason f all
told_first (faults.Unsorted place) why all g h = g (Unsorted place) h
told_first (faults.Outside place) why all g h = g (Outside place) h
told_first (faults.PathOrder place) why all g h = g (PathOrder place) h
told_first (faults.PathsDiffer place) why all g h = g (PathsDiffer place) h
told_first (faults.Idle place) why all g h = g (Idle place) h
told_first (faults.RootDiffers have want) why all g h = g (RootDiffers have want) h
told_first faults.Failed why all g h = h
told_first faults.NoMemory why all g h = tt

first_of_two : (a b : ℕ → Refusal) (m n : Option ℕ) (next : Option Refusal) (r : Refusal) → or_else a m (or_else b n None) ≡ Some r → or_else a m (or_else b n next) ≡ Some r
first_of_two a b None None next r h = absurd cc
first_of_two a b None (Some j) next r h = h
first_of_two a b (Some i) n next r h = h

none_of_two : (a b : ℕ → Refusal) (m n : Option ℕ) → or_else a m (or_else b n None) ≡ None → (m ≡ None) × (n ≡ None)
none_of_two a b None None h = (refl, refl)
none_of_two a b None (Some j) h = absurd cc
none_of_two a b (Some i) n h = absurd cc

path_first : (start end : List ProofNode) (next : Option Refusal) (r : Refusal) → path_refusal start end None ≡ Some r → path_refusal start end next ≡ Some r
unfolding path_refusal
path_first start end next r h = first_of_two PathOrder PathsDiffer (path_break start end) (first_place (disagrees_with start) (length start) end) next r h

path_none : (start end : List ProofNode) → path_refusal start end None ≡ None → (path_break start end ≡ None) × (first_place (disagrees_with start) (length start) end ≡ None)
unfolding path_refusal
path_none start end h = none_of_two PathOrder PathsDiffer (path_break start end) (first_place (disagrees_with start) (length start) end) h

-- where paths are not refused, the next reason tells
pub path_next : (start end : List ProofNode) (next : Option Refusal) → path_refusal start end None ≡ None → path_refusal start end next ≡ next
unfolding path_refusal
path_next start end next h =
    let p = path_none start end h in
    ap (λ o. or_else PathOrder o (or_else PathsDiffer (first_place (disagrees_with start) (length start) end) next)) p.0 ∙ ap (λ o. or_else PathsDiffer o next) p.1

-- paths that are not refused have no break
pub paths_unbroken : (c : Claim) → path_refusal c.start.now c.end.now None ≡ None → AreUnbroken (claim_of c)
paths_unbroken c h = go (first_break extends 0 c.start.now) refl (first_break extends (length c.start.now) c.end.now) refl (path_none c.start.now c.end.now h).0
  where
    go : (a : Option ℕ) → first_break extends 0 c.start.now ≡ a → (b : Option ℕ) → first_break extends (length c.start.now) c.end.now ≡ b → or_then a b ≡ None → AreUnbroken (claim_of c)
    go None e None f h = record { start = e; end = unbroken_from (length c.start.now) 0 c.end.now f }
    go None e (Some y) f h = absurd cc
    go (Some x) e b f h = absurd cc

-- ---- entries
-- the reasons in their order, by the entries
refusal-is : (w : ℕ) (asked : Range) (root : List ℕ) (c : Claim) →
    refusal w asked root (claim_of c) ≡ entry_refusal asked c.entries.now (path_refusal c.start.now c.end.now (root_refusal (id w (claim_items w (claim_of c))) root))
unfolding refusal
refusal-is w asked root c =
    let last = path_refusal c.start.now c.end.now (root_refusal (id w (claim_items w (claim_of c))) root) in
    sym (ap (λ o. or_else Unsorted o (or_else Outside (first_place (entry_outside asked) 0 c.entries.now) last)) (first_break-map (λ (e : Entry). e.key.now) is_less 0 c.entries.now)
    ∙ ap (λ o. or_else Unsorted (first_break is_less 0 (keys_of c.entries.now)) (or_else Outside o last)) (first_place-map (λ (e : Entry). e.key.now) (lies_outside asked) 0 c.entries.now))

-- entries and paths alone
listed-is : (asked : Range) (es : List Entry) (start end : List ProofNode) → listed_refusal asked (keys_of es) start end ≡ entry_refusal asked es (path_refusal start end None)
listed-is asked es start end =
    sym (ap (λ o. or_else Unsorted o (or_else Outside (first_place (entry_outside asked) 0 es) (path_refusal start end None))) (first_break-map (λ (e : Entry). e.key.now) is_less 0 es)
    ∙ ap (λ o. or_else Unsorted (first_break is_less 0 (keys_of es)) (or_else Outside o (path_refusal start end None))) (first_place-map (λ (e : Entry). e.key.now) (lies_outside asked) 0 es))

-- an entry is why
pub listed_first : (asked : Range) (es : List Entry) (start end : List ProofNode) (f : VerifyFault) → IsReason f (entry_refusal asked es None) → IsReason f (listed_refusal asked (keys_of es) start end)
listed_first asked es start end f h =
    subst (IsReason f) (sym (listed-is asked es start end))
    (told_first f (entry_refusal asked es None) _ (λ r e. first_of_two Unsorted Outside (first_break entry_less 0 es) (first_place (entry_outside asked) 0 es) _ r e) h)

-- else the paths tell
pub listed_next : {A : Type 0} (asked : Range) (es : List Entry) (start end : List ProofNode) (result : Result A VerifyFault) → entry_refusal asked es None ≡ None → Tells result (path_refusal start end None) → Tells result (listed_refusal asked (keys_of es) start end)
listed_next asked es start end result e h =
    let n = none_of_two Unsorted Outside (first_break entry_less 0 es) (first_place (entry_outside asked) 0 es) e in
    subst (Tells result) (sym (listed-is asked es start end ∙ ap (λ o. or_else Unsorted o (or_else Outside (first_place (entry_outside asked) 0 es) (path_refusal start end None))) n.0 ∙ ap (λ o. or_else Outside o (path_refusal start end None)) n.1)) h

-- keys that strictly increase
below : (o : Ordering) → is_lt o ≡ true → o ≡ Less
below Less h = refl
below Equal h = absurd cc
below Greater h = absurd cc

risen : (n : ℕ) (a b : Entry) (es : List Entry) → first_break entry_less n (a ∷ b ∷ es) ≡ None → (bytes_cmp a.key.now b.key.now ≡ Less) × (first_break entry_less (suc n) (b ∷ es) ≡ None)
risen n a b es h = go (entry_less a b) refl h
  where
    go : (t : Bool) → entry_less a b ≡ t → (if t then first_break entry_less (suc n) (b ∷ es) else Some (suc n)) ≡ None → (bytes_cmp a.key.now b.key.now ≡ Less) × (first_break entry_less (suc n) (b ∷ es) ≡ None)
    go true e h = (below (bytes_cmp a.key.now b.key.now) e, h)
    go false e h = absurd cc

later : (a b : List ℕ) (es : List Pair) → bytes_cmp a b ≡ Less → AllByRecursion (λ (f : Pair). bytes_cmp b f.0 ≡ Less) es → AllByRecursion (λ (f : Pair). bytes_cmp a f.0 ≡ Less) es
later a b [] h l = tt
later a b (e ∷ es) h l = (nat_list_cmp_total.trans a b e.0 h l.0, later a b es h l.1)

sorted : (n : ℕ) (es : List Entry) → first_break entry_less n es ≡ None → AreSorted (map pair_of es)
sorted n [] h = tt
sorted n (a ∷ []) h = (tt, tt)
sorted n (a ∷ b ∷ es) h =
    let r = risen n a b es h in
    let s = sorted (suc n) (b ∷ es) r.1 in
    ((r.0, later a.key.now b.key.now (map pair_of es) r.0 s.0), s)

inside : (asked : Range) (n : ℕ) (es : List Entry) → first_place (entry_outside asked) n es ≡ None → AllByRecursion (λ (e : Pair). holds asked e.0 ≡ true) (map pair_of es)
inside asked n [] h = tt
inside asked n (e ∷ es) h = go (holds asked e.key.now) refl h (inside asked (suc n) es)
  where
    go : (t : Bool) → holds asked e.key.now ≡ t → (if (if t then false else true) then Some n else first_place (entry_outside asked) (suc n) es) ≡ None →
        (first_place (entry_outside asked) (suc n) es ≡ None → AllByRecursion (λ (e : Pair). holds asked e.0 ≡ true) (map pair_of es)) → AllByRecursion (λ (e : Pair). holds asked e.0 ≡ true) (map pair_of (e ∷ es))
    go true f h ih = (f, ih h)
    go false f h ih = absurd cc

lie_in : (r : Range) (es : List Pair) → AllByRecursion (λ (e : Pair). AreBytes e.0) es → AllByRecursion (λ (e : Pair). holds r e.0 ≡ true) es → AllByRecursion (LiesIn r) es
lie_in r [] b h = tt
lie_in r (e ∷ es) b h = (record { bytes = b.0; inside = h.0 }, lie_in r es b.1 h.1)

-- a claim whose entries are not refused is one as the laws ask for it
pub is_claim : (w : ℕ) (asked : Range) (c : Claim) → IsCheckable w asked (claim_of c) → entry_refusal asked c.entries.now None ≡ None → HaveBytes c.entries.now → IsClaim limits w (claim_of c)
is_claim w asked c h e b =
    let n = none_of_two Unsorted Outside (first_break entry_less 0 c.entries.now) (first_place (entry_outside asked) 0 c.entries.now) e in
    let s = sorted 0 c.entries.now n.0 in
    let i = inside asked 0 c.entries.now n.1 in
    record { range = h.range; sorted = s; shown = h.shown; listed = lie_in c.reached.now (map pair_of c.entries.now) b (h.reaches s i) }

-- ---- the whole check
module _ (w : ℕ) (asked : Range) (root : List ℕ) (c : Claim) where
  rest : Option Refusal
  rest = root_refusal (id w (claim_items w (claim_of c))) root

  -- an entry is why
  pub entries_told : (f : VerifyFault) → IsReason f (entry_refusal asked c.entries.now None) → IsReason f (refusal w asked root (claim_of c))
  entries_told f h =
      subst (IsReason f) (sym (refusal-is w asked root c))
      (told_first f (entry_refusal asked c.entries.now None) _ (λ r e. first_of_two Unsorted Outside (first_break entry_less 0 c.entries.now) (first_place (entry_outside asked) 0 c.entries.now) _ r e) h)

  after_entries : entry_refusal asked c.entries.now None ≡ None → refusal w asked root (claim_of c) ≡ path_refusal c.start.now c.end.now (root_refusal (id w (claim_items w (claim_of c))) root)
  after_entries e =
      let n = none_of_two Unsorted Outside (first_break entry_less 0 c.entries.now) (first_place (entry_outside asked) 0 c.entries.now) e in
      let last = path_refusal c.start.now c.end.now (root_refusal (id w (claim_items w (claim_of c))) root) in
      refusal-is w asked root c ∙ ap (λ o. or_else Unsorted o (or_else Outside (first_place (entry_outside asked) 0 c.entries.now) last)) n.0 ∙ ap (λ o. or_else Outside o last) n.1

  -- a node is why
  pub paths_told : (f : VerifyFault) → entry_refusal asked c.entries.now None ≡ None → IsReason f (path_refusal c.start.now c.end.now None) → IsReason f (refusal w asked root (claim_of c))
  paths_told f e h =
      subst (IsReason f) (sym (after_entries e))
      (told_first f (path_refusal c.start.now c.end.now None) _ (λ r e. path_first c.start.now c.end.now _ r e) h)

  -- the root tells
  pub root_told : {A : Type 0} (result : Result A VerifyFault) (is : List ℕ) → entry_refusal asked c.entries.now None ≡ None → path_refusal c.start.now c.end.now None ≡ None →
      is ≡ id w (claim_items w (claim_of c)) → Tells result (root_refusal is root) → Tells result (refusal w asked root (claim_of c))
  root_told result is e p i h =
      subst (Tells result) (ap (λ x. root_refusal x root) i ∙ sym (after_entries e ∙ path_next c.start.now c.end.now _ p)) h

-- ---- what it costs
-- another root is no reason that comes before the root is made
other_reason : (f : VerifyFault) (why : Option Refusal) (old n : ℕ) → ((have want : List ℕ) → why ≡ Some (RootDiffers have want) → ⊥) → IsReason f why → FaultCosts f old old n
other_reason (faults.Unsorted place) why old n g h = refl
other_reason (faults.Outside place) why old n g h = refl
other_reason (faults.PathOrder place) why old n g h = refl
other_reason (faults.PathsDiffer place) why old n g h = refl
other_reason (faults.Idle place) why old n g h = refl
other_reason (faults.RootDiffers have want) why old n g h = absurd (g have want h)
other_reason faults.Failed why old n g h = refl
other_reason faults.NoMemory why old n g h = tt

no_root : (a b : ℕ → Refusal) (m n : Option ℕ) (have want : List ℕ) → ((i : ℕ) → a i ≡ RootDiffers have want → ⊥) → ((i : ℕ) → b i ≡ RootDiffers have want → ⊥) → or_else a m (or_else b n None) ≡ Some (RootDiffers have want) → ⊥
no_root a b None None have want f g h = cc
no_root a b None (Some j) have want f g h = g j (let e : b j ≡ RootDiffers have want = cc in e)
no_root a b (Some i) n have want f g h = f i (let e : a i ≡ RootDiffers have want = cc in e)

pub paths_cost : (start end : List ProofNode) (f : VerifyFault) (old n : ℕ) → IsReason f (path_refusal start end None) → FaultCosts f old old n
unfolding path_refusal
paths_cost start end f old n h =
    other_reason f (path_refusal start end None) old n (λ have want e. no_root PathOrder PathsDiffer (path_break start end) (first_place (disagrees_with start) (length start) end) have want (λ i e. cc) (λ i e. cc) e) h

-- ---- roots
turned : (b r : Bool) → r ≡ not b → r ≡ true → b ≡ false
turned true r e f = absurd cc
turned false r e f = refl

kept : (b r : Bool) → r ≡ not b → r ≡ false → b ≡ true
kept true r e f = refl
kept false r e f = absurd cc

pub root_differs : (x have want : List ℕ) (r : Bool) → have ≡ x → r ≡ not (pointwise nat_eq have want) → r ≡ true → root_refusal x want ≡ Some (RootDiffers have want)
root_differs x have want r e f g =
    ap (λ y. root_refusal y want) (sym e) ∙ ap (λ t. if t then None else Some (RootDiffers have want)) (sym (texts_ties have want) ∙ turned (pointwise nat_eq have want) r f g)

pub root_same : (x have want : List ℕ) (r : Bool) → have ≡ x → r ≡ not (pointwise nat_eq have want) → r ≡ false → root_refusal x want ≡ None
root_same x have want r e f g =
    ap (λ y. root_refusal y want) (sym e) ∙ ap (λ t. if t then None else Some (RootDiffers have want)) (sym (texts_ties have want) ∙ kept (pointwise nat_eq have want) r f g)
