-- Paths whose nodes strictly extend each other, and the nodes that two of them share.
use Rattle.std.proofs.Common.{◌≡◌, ℕ, zero, suc, ◌-◌, ◌<◌, ◌≤◌, Bool, true, false, List, [], ◌∷◌, length, get_or, drop, refl, sym, ap, ◌∙◌, arith, length-drop, Option, Some, None, ◌⊎◌, inl, inr, Less, Equal, Greater}
use Rattle.std.specs.Prelude.{if◌then◌else◌, ◌&&◌, ◌==◌, nat_lt, nat_eq}
use Rattle.std.specs.List.{AllByRecursion, HoldsAt}
use Rattle.std.specs.List.Sorted.{IsNonDecreasingBy, IsPartitionPoint}
use Rattle.std.specs.Ordering.{nat_cmp, ordering_index}
use Rattle.std.specs.Cmp.Lexicographic.{pointwise, texts_ties}
use Rattle.std.proofs.lemmas.Bool.{cases_lt, ltb-true}
use Rattle.std.proofs.lemmas.Bool.Decides.{nat_tests}
use Rattle.std.proofs.lemmas.List.{get_or_default}
use Rattle.std.proofs.lemmas.List.Sorted.{IsNonDecreasingBy-from_default}
use Rattle.trie_model.specs.Bits.{is_prefix, same_key}
use Rattle.trie_model.proofs.Prefixes.{same_key-is, is_prefix-through}
use Rattle.trie_items.specs.Children.{children_of}
use Rattle.trie_items.specs.declared.child.ChildId.{ChildId}
use Rattle.proof_model.specs.Paths.{ProofNode}
use Rattle.proof_model.specs.Refusals.{extends, first_break, disagree, disagrees_with, same_bytes, same_digest, same_children}

-- ---- nodes in their order
-- a node goes on from another
pub record GoesOn (a b : ProofNode) : Type 0 where
  pub prefix : is_prefix a.key b.key ≡ true
  pub longer : length a.key < length b.key

-- what two tests say that both hold
parts : (s t : Bool) → (s && t) ≡ true → (s ≡ true) × (t ≡ true)
parts true t h = (refl, h)
parts false t h = absurd cc

extends-is : (a b : ProofNode) → extends a b ≡ true → GoesOn a b
extends-is a b h =
    let p = parts (is_prefix a.key b.key) (nat_lt (length a.key) (length b.key)) h in
    record { prefix = p.0; longer = ltb-true (length a.key) (length b.key) p.1 }

-- no break comes in a path, nor in what is behind its first node
unbroken : (n : ℕ) (a b : ProofNode) (path : List ProofNode) → first_break extends n (a ∷ b ∷ path) ≡ None → (extends a b ≡ true) × (first_break extends (suc n) (b ∷ path) ≡ None)
unbroken n a b path h = go (extends a b) refl h
  where
    go : (t : Bool) → extends a b ≡ t → (if t then first_break extends (suc n) (b ∷ path) else Some (suc n)) ≡ None → (extends a b ≡ true) × (first_break extends (suc n) (b ∷ path) ≡ None)
    go true e h = (e, h)
    go false e h = absurd cc

GoesOn-through : (a b : ProofNode) (path : List ProofNode) → GoesOn a b → AllByRecursion (GoesOn b) path → AllByRecursion (GoesOn a) path
GoesOn-through a b [] h p = tt
GoesOn-through a b (c ∷ path) h p =
    let l = h.longer in
    let m = p.0.longer in
    (record { prefix = is_prefix-through a.key b.key c.key h.prefix p.0.prefix; longer = omega (arith, l, m) }, GoesOn-through a b path h p.1)

-- all later nodes go on from the first
pub all_go_on : (n : ℕ) (a : ProofNode) (path : List ProofNode) → first_break extends n (a ∷ path) ≡ None → AllByRecursion (GoesOn a) path
all_go_on n a [] h = tt
all_go_on n a (b ∷ path) h =
    let u = unbroken n a b path h in
    let g = extends-is a b u.0 in
    (g, GoesOn-through a b path g (all_go_on (suc n) b path u.1))

-- what is behind the first node has no break either
pub unbroken_behind : (n : ℕ) (a : ProofNode) (path : List ProofNode) → first_break extends n (a ∷ path) ≡ None → first_break extends (suc n) path ≡ None
unbroken_behind n a [] h = refl
unbroken_behind n a (b ∷ path) h = (unbroken n a b path h).1

-- a break is none wherever the nodes are counted from
pub unbroken_from : (m n : ℕ) (path : List ProofNode) → first_break extends m path ≡ None → first_break extends n path ≡ None
unbroken_from m n [] h = refl
unbroken_from m n (a ∷ []) h = refl
unbroken_from m n (a ∷ b ∷ path) h =
    let u = unbroken m a b path h in
    let r = unbroken_from (suc m) (suc n) (b ∷ path) u.1 in
    ap (λ t. if t then first_break extends (suc n) (b ∷ path) else Some (suc n)) u.0 ∙ r

-- ---- nodes by their places
pub All-at : {A : Type 0} (P : A → Type 0) (xs : List A) (k : ℕ) (d : A) → AllByRecursion P xs → k < length xs → P (get_or xs k d)
All-at P [] k d h l = absurd (omega arith)
All-at P (x ∷ xs) zero d h l = h.0
All-at P (x ∷ xs) (suc k) d h l = All-at P xs k d h.1 (omega arith)

abbrev key_length : ProofNode → ℕ
key_length n = length n.key

lengths_rise : (n : ℕ) (path : List ProofNode) (i j : ℕ) (d : ProofNode) → first_break extends n path ≡ None → i < j → j < length path → length (get_or path i d).key < length (get_or path j d).key
lengths_rise n [] i j d h l m = absurd (omega arith)
lengths_rise n (a ∷ path) i zero d h l m = absurd (omega arith)
lengths_rise n (a ∷ path) zero (suc j) d h l m = (All-at (GoesOn a) path j d (all_go_on n a path h) (omega arith)).longer
lengths_rise n (a ∷ path) (suc i) (suc j) d h l m = lengths_rise (suc n) path i j d (unbroken_behind n a path h) (omega arith) (omega arith)

-- ---- nodes that disagree
-- keys of different lengths are two keys
other_key : (a b : ProofNode) → (length a.key ≡ length b.key → ⊥) → disagree a b ≡ false
other_key a b f = go (same_key a.key b.key) refl
  where
    go : (t : Bool) → same_key a.key b.key ≡ t → (if t then (if same_digest a.digest b.digest && same_children a.children b.children then false else true) else false) ≡ false
    go true e = absurd (f (ap length (same_key-is a.key b.key e)))
    go false e = refl

none_disagrees : (path : List ProofNode) (node : ProofNode) → ((k : ℕ) → k < length path → length (get_or path k node).key ≡ length node.key → ⊥) → disagrees_with path node ≡ false
none_disagrees [] node f = refl
none_disagrees (a ∷ path) node f =
    ap (λ t. if t then true else disagrees_with path node) (other_key a node (f zero (omega arith))) ∙ none_disagrees path node (λ k l. f (suc k) (omega arith))

-- a test is its own answer
pub alone : (t : Bool) → (if t then true else false) ≡ t
alone true = refl
alone false = refl

-- a node of a path whose key is as long is the one that may disagree
pub one_disagrees : (n : ℕ) (path : List ProofNode) (node x : ProofNode) (i : ℕ) → first_break extends n path ≡ None → i < length path → x ≡ get_or path i node → length x.key ≡ length node.key → disagree x node ≡ disagrees_with path node
one_disagrees n [] node x i h l e f = absurd (omega arith)
one_disagrees n (a ∷ path) node x zero h l e f =
    let later : (k : ℕ) → k < length path → length (get_or path k node).key ≡ length node.key → ⊥ = λ k m g.
    (let r = (All-at (GoesOn a) path k node (all_go_on n a path h) m).longer in let s : length x.key ≡ length a.key = ap key_length e in omega (arith, r, s, f, g)) in
    ap (λ y. disagree y node) e ∙ sym (ap (λ t. if disagree a node then true else t) (none_disagrees path node later) ∙ alone (disagree a node))
one_disagrees n (a ∷ path) node x (suc i) h l e f =
    let r = (All-at (GoesOn a) path i node (all_go_on n a path h) (omega arith)).longer in
    let s : length x.key ≡ length (get_or path i node).key = ap key_length e in
    one_disagrees (suc n) path node x i (unbroken_behind n a path h) (omega arith) e f
    ∙ sym (ap (λ t. if t then true else disagrees_with path node) (other_key a node (λ g. omega (arith, r, s, f, g))))

-- ---- the search by length
same_number : (a b : ℕ) → nat_cmp a b ≡ Equal → a ≡ b
same_number a b h = grind (arith, nat_tests)

less_number : (a b : ℕ) → nat_cmp a b ≡ Less → a < b
less_number a b h = grind (arith, nat_tests)

greater_number : (a b : ℕ) → nat_cmp a b ≡ Greater → b < a
greater_number a b h = grind (arith, nat_tests)

no_lower : (a b x : ℕ) → a ≤ b → ordering_index (nat_cmp a x) ≤ ordering_index (nat_cmp b x)
no_lower a b x h = grind (arith, nat_tests)

-- the comparisons with one length do not fall along a path
pub comparisons_rise : (n : ℕ) (path : List ProofNode) (bits : ℕ) (d : ProofNode) → first_break extends n path ≡ None → IsNonDecreasingBy (λ (m : ProofNode). ordering_index (nat_cmp (length m.key) bits)) path
comparisons_rise n path bits d h = IsNonDecreasingBy-from_default (λ (m : ProofNode). ordering_index (nat_cmp (length m.key) bits)) path d (λ i j le in_range. no_lower _ _ bits (go i j (cases_lt i j) le in_range))
  where
    go : (i j : ℕ) → (i < j) ⊎ (j ≤ i) → i ≤ j → j < length path → length (get_or path i d).key ≤ length (get_or path j d).key
    go i j (inl l) le m = let r = lengths_rise n path i j d h l m in omega (arith, r)
    go i j (inr l) le m = let e : i ≡ j = omega arith in let f : length (get_or path i d).key ≡ length (get_or path j d).key = ap (λ k. key_length (get_or path k d)) e in omega (arith, f)

-- a node that was found by its length
pub found_disagrees : (path : List ProofNode) (node x : ProofNode) (i bits : ℕ) → first_break extends 0 path ≡ None → i < length path → x ≡ get_or path i x → HoldsAt (λ (m : ProofNode). nat_cmp (length m.key) bits ≡ Equal) path i → bits ≡ length node.key → disagree x node ≡ disagrees_with path node
found_disagrees path node x i bits h l e f g =
    let d : get_or path i x ≡ get_or path i node = get_or_default path i x node l in
    let s : length x.key ≡ length (get_or path i x).key = ap key_length e in
    let t : length (get_or path i x).key ≡ bits = same_number (length (get_or path i x).key) bits (f x) in
    one_disagrees 0 path node x i h l (e ∙ d) (s ∙ t ∙ g)

-- where none was found, none disagrees
pub none_found : (path : List ProofNode) (node : ProofNode) (i bits : ℕ) → first_break extends 0 path ≡ None → bits ≡ length node.key →
    (IsNonDecreasingBy (λ (m : ProofNode). ordering_index (nat_cmp (length m.key) bits)) path → IsPartitionPoint (λ (m : ProofNode). nat_cmp (length m.key) bits ≡ Less) (λ (m : ProofNode). nat_cmp (length m.key) bits ≡ Greater) path i) →
    false ≡ disagrees_with path node
none_found path node i bits h g f = sym (none_disagrees path node (λ k l e. (let p = f (comparisons_rise 0 path bits node h) in go p k l e (cases_lt k i))))
  where
    go : IsPartitionPoint (λ (m : ProofNode). nat_cmp (length m.key) bits ≡ Less) (λ (m : ProofNode). nat_cmp (length m.key) bits ≡ Greater) path i → (k : ℕ) → k < length path → length (get_or path k node).key ≡ length node.key → (k < i) ⊎ (i ≤ k) → ⊥
    go p k l e (inl m) = let r = less_number (length (get_or path k node).key) bits (p.0 k node (omega arith) m) in omega (arith, r, e, g)
    go p k l e (inr m) = let r = greater_number (length (get_or path k node).key) bits (p.1 k node m l) in omega (arith, r, e, g)

-- ---- the end of a path
-- in what is left of a path when all places were passed, no break comes
pub short_end : {A : Type 0} (follows : A → A → Bool) (n i : ℕ) (path : List A) → length path ≤ i → first_break follows n (drop (i - 1) path) ≡ None
short_end {A} follows n i path h = go (drop (i - 1) path) (length-drop (i - 1) path)
  where
    go : (rest : List A) → length rest ≡ length path - (i - 1) → first_break follows n rest ≡ None
    go [] e = refl
    go (a ∷ []) e = refl
    go (a ∷ b ∷ rest) e = absurd (omega (arith, e))

-- ---- contents
-- digests that compare the same are the same
pub digests_compare : (r : Bool) (a b : Option (List ℕ)) (x y p q : List ℕ) → r ≡ pointwise nat_eq p q → p ≡ x → q ≡ y → a ≡ Some x → b ≡ Some y → r ≡ same_digest a b
digests_compare r a b x y p q h e f i j =
    h ∙ texts_ties p q ∙ ap (λ p. same_bytes p q) e ∙ ap (same_bytes x) f ∙ sym (ap (λ a. same_digest a b) i ∙ ap (same_digest (Some x)) j)

-- children that compare the same are the same
pub children_compare : (E : ChildId → ChildId → Bool) → ((c d : ChildId) → E c d ≡ ((c.index == d.index) && pointwise nat_eq c.id d.id)) → (a b : List ChildId) → pointwise E a b ≡ same_children (children_of a) (children_of b)
children_compare E f [] [] = refl
children_compare E f [] (d ∷ ds) = refl
children_compare E f (c ∷ cs) [] = refl
children_compare E f (c ∷ cs) (d ∷ ds) =
    ap (λ t. t && pointwise E cs ds) (f c d ∙ ap (λ t. (c.index == d.index) && t) (texts_ties c.id d.id)) ∙ ap (λ t. (c.index == d.index) && same_bytes c.id d.id && t) (children_compare E f cs ds)
