-- What is told beside a range: slots that lead to nodes, and the order of what one node tells.
use Rattle.std.proofs.Common.{◌≡◌, ℕ, zero, suc, ◌-◌, ◌^◌, ◌<◌, Bool, true, false, List, [], ◌∷◌, ◌++◌, length, get_or, refl, sym, ap, ◌∙◌, subst, arith, length-append, append_assoc, Option, Some, None, Less}
use Rattle.std.specs.Prelude.{if◌then◌else◌, ◌||◌, slice_get}
use Rattle.std.specs.List.{AllByRecursion}
use Rattle.base_model.proofs.Bits.{length-bits_of}
use Rattle.trie_model.specs.Bits.{bits_of, is_prefix, key_cmp, IsRising}
use Rattle.trie_model.specs.Items.{Item, Stub, places}
use Rattle.trie_model.proofs.Prefixes.{is_prefix-itself, is_prefix-through, is_prefix-append}
use Rattle.trie_model.proofs.NodeKeys.{above_prefix, by_token}
use Rattle.bit_keys.specs.declared.branch.Branch.{Branch}
use Rattle.bit_keys.specs.declared.branch.Branch.TheVariants.{B2, B4, B16, B256}
use Rattle.bit_keys.specs.Branch.{width_of, factor_of}
use Rattle.trie_items.specs.declared.child.ChildId.{ChildId}
use Rattle.trie_items.specs.Children.{children_of}
use Rattle.range_model.specs.Ranges.{Range, is_outside, slot_place, is_inside, key_place}
use Rattle.proof_model.specs.Paths.{ProofNode, IsProofNode, IsChild, AreRising}
use Rattle.proof_model.specs.Claims.{Claim, nodes, leads_to, stub_beside, value_beside, shown_value, in_order}
use Rattle.proof_model.specs.Refusals.{extends, first_break}
use Rattle.proof_check.specs.Claims.{stubs_of, told_of}
use Rattle.proof_check.proofs.OrderedItems.{rises-in_order, AllAbove, AllAbove-append, AllAbove-through}
use Rattle.proof_check.proofs.PathOrders.{GoesOn, alone, all_go_on, unbroken_behind}

-- ---- slots that lead to a node
pub All-got : {A : Type 0} (P : A → Type 0) (xs : List A) (k : ℕ) (x : A) → AllByRecursion P xs → Some x ≡ slice_get xs k → P x
All-got P [] k x h e = absurd cc
All-got P (y ∷ xs) zero x h e = let f : y ≡ x = cc in subst P f h.0
All-got P (y ∷ xs) (suc k) x h e = All-got P xs k x h.1 e

-- the last node tells whether a slot leads to one of a path
pub last_leads : (n : ℕ) (path : List ProofNode) (s : List Bool) (last : ProofNode) → first_break extends n path ≡ None → Some last ≡ slice_get path (length path - 1) → is_prefix s last.key ≡ leads_to s path
last_leads n [] s last h e = absurd cc
last_leads n (a ∷ []) s last h e =
    let z : length (a ∷ []) - 1 ≡ 0 = omega arith in
    let f : Some last ≡ Some a = e ∙ ap (slice_get (a ∷ [])) z in
    let g : last ≡ a = cc in
    ap (λ (m : ProofNode). is_prefix s m.key) g ∙ sym (alone (is_prefix s a.key))
last_leads n (a ∷ b ∷ path) s last h e = go (is_prefix s a.key) refl (last_leads (suc n) (b ∷ path) s last (unbroken_behind n a (b ∷ path) h) f)
  where
    z : length (a ∷ b ∷ path) - 1 ≡ suc (length (b ∷ path) - 1)
    z = omega arith

    f : Some last ≡ slice_get (b ∷ path) (length (b ∷ path) - 1)
    f = e ∙ ap (slice_get (a ∷ b ∷ path)) z

    go : (t : Bool) → is_prefix s a.key ≡ t → is_prefix s last.key ≡ leads_to s (b ∷ path) → is_prefix s last.key ≡ (if t then true else leads_to s (b ∷ path))
    go true p ih = is_prefix-through s a.key last.key p (All-got (GoesOn a) (b ∷ path) (length (b ∷ path) - 1) last (all_go_on n a (b ∷ path) h) f).prefix
    go false p ih = ih

-- a slot leads to a node of two paths where it leads to one of either
pub leads_to-append : (s : List Bool) (xs ys : List ProofNode) → leads_to s (xs ++ ys) ≡ (leads_to s xs || leads_to s ys)
leads_to-append s [] ys = refl
leads_to-append s (x ∷ xs) ys = go (is_prefix s x.key) (leads_to-append s xs ys)
  where
    go : (t : Bool) → leads_to s (xs ++ ys) ≡ (leads_to s xs || leads_to s ys) → (if t then true else leads_to s (xs ++ ys)) ≡ ((if t then true else leads_to s xs) || leads_to s ys)
    go true ih = refl
    go false ih = ih

-- ---- children
-- how many values a token has
pub factor_is : (b : Branch) → factor_of b ≡ 2 ^ width_of b
factor_is B2 = refl
factor_is B4 = refl
factor_is B16 = refl
factor_is B256 = refl

-- the index of a child, where it is got by its place
pub index_small : (b : Branch) (children : List ChildId) (k : ℕ) (c : ChildId) → AllByRecursion (IsChild (width_of b)) (children_of children) → k < length children → (get_or children k c).index < factor_of b
index_small b [] k c h l = absurd (omega arith)
index_small b (d ∷ ds) zero c h l = let e = factor_is b in let g = h.0.0 in omega (arith, e, g)
index_small b (d ∷ ds) (suc k) c h l = index_small b ds k c h.1 (omega arith)

pub width_positive : (b : Branch) → 0 < width_of b
width_positive B2 = omega arith
width_positive B4 = omega arith
width_positive B16 = omega arith
width_positive B256 = omega arith

-- ---- the order of what one node tells
-- a stub, if there is one, has its slot
pub stub_above : (l s : List Bool) (r : Range) (ns : List ProofNode) (x : List ℕ) → key_cmp l s ≡ Less → AllAbove l (stub_beside r ns s x)
stub_above l s r ns x h = go (is_outside (slot_place r s)) (leads_to s ns)
  where
    go : (t u : Bool) → AllAbove l (if t then (if u then [] else Stub s x ∷ []) else [])
    go true true = tt
    go true false = (h, tt)
    go false u = tt

stub_rises : (s : List Bool) (r : Range) (ns : List ProofNode) (x : List ℕ) (is : List Item) → AllAbove s is → IsRising (places is) → IsRising (places (stub_beside r ns s x ++ is))
stub_rises s r ns x is h o = go (is_outside (slot_place r s)) (leads_to s ns)
  where
    go : (t u : Bool) → IsRising (places ((if t then (if u then [] else Stub s x ∷ []) else []) ++ is))
    go true true = o
    go true false = (h, o)
    go false u = o

-- the slots of children come after the slot of a lower index
slots_above : (w t : ℕ) (c : Claim) (k : List Bool) (children : List (ℕ × List ℕ)) → AllByRecursion (IsChild w) children → AreRising (suc t) children → AllAbove (k ++ bits_of w t) (stubs_of w c k children)
slots_above w t c k [] h r = tt
slots_above w t c k (d ∷ ds) h r =
    AllAbove-append (k ++ bits_of w t) (stub_beside c.reached (nodes c) (k ++ bits_of w d.0) d.1) (stubs_of w c k ds) (stub_above (k ++ bits_of w t) (k ++ bits_of w d.0) c.reached (nodes c) d.1 less)
    (AllAbove-through (k ++ bits_of w t) (k ++ bits_of w d.0) (stubs_of w c k ds) less (slots_above w d.0 c k ds h.1 r.1))
  where
    less : key_cmp (k ++ bits_of w t) (k ++ bits_of w d.0) ≡ Less
    less = by_token w t d.0 k (k ++ bits_of w t) (k ++ bits_of w d.0) r.0 h.0.0 (is_prefix-itself (k ++ bits_of w t)) (is_prefix-itself (k ++ bits_of w d.0))

slots_rise : (w low : ℕ) (c : Claim) (k : List Bool) (children : List (ℕ × List ℕ)) → AllByRecursion (IsChild w) children → AreRising low children → IsRising (places (stubs_of w c k children))
slots_rise w low c k [] h r = tt
slots_rise w low c k (d ∷ ds) h r =
    stub_rises (k ++ bits_of w d.0) c.reached (nodes c) d.1 (stubs_of w c k ds) (slots_above w d.0 c k ds h.1 r.1) (slots_rise w (suc d.0) c k ds h.1 r.1)

-- and after the key of the node
key_below : (w : ℕ) (c : Claim) (k : List Bool) (children : List (ℕ × List ℕ)) → 0 < w → AllAbove k (stubs_of w c k children)
key_below w c k [] pos = tt
key_below w c k (d ∷ ds) pos =
    AllAbove-append k (stub_beside c.reached (nodes c) (k ++ bits_of w d.0) d.1) (stubs_of w c k ds) (stub_above k (k ++ bits_of w d.0) c.reached (nodes c) d.1 less) (key_below w c k ds pos)
  where
    less : key_cmp k (k ++ bits_of w d.0) ≡ Less
    less =
        let l = length-append k (bits_of w d.0) in
        let m = length-bits_of w d.0 in
        above_prefix k (k ++ bits_of w d.0) (is_prefix-append k k (bits_of w d.0) (is_prefix-itself k)) (omega (arith, l, m, pos))

-- what one node tells rises
pub one_rises : (w : ℕ) (c : Claim) (n : ProofNode) → 0 < w → IsProofNode w n → IsRising (places (value_beside c.reached n ++ stubs_of w c n.key n.children))
one_rises w c n pos h = go (is_inside (key_place c.reached n.key)) n.digest
  where
    go : (t : Bool) (d : Option (List ℕ)) → IsRising (places ((if t then [] else shown_value n.key d) ++ stubs_of w c n.key n.children))
    go true d = slots_rise w 0 c n.key n.children h.children h.rising
    go false None = slots_rise w 0 c n.key n.children h.children h.rising
    go false (Some d) = (key_below w c n.key n.children pos, slots_rise w 0 c n.key n.children h.children h.rising)

-- ---- lists of nodes
pub told_of-append : (w : ℕ) (c : Claim) (xs ys : List ProofNode) → told_of w c (xs ++ ys) ≡ told_of w c xs ++ told_of w c ys
told_of-append w c [] ys = refl
told_of-append w c (x ∷ xs) ys =
    let front = value_beside c.reached x ++ stubs_of w c x.key x.children in
    ap (λ r. front ++ r) (told_of-append w c xs ys) ∙ sym (append_assoc front (told_of w c xs) (told_of w c ys))

-- ---- tests in a row
pub shown_first : (r a b c : Bool) → r ≡ a → r ≡ true → c ≡ (a || b) → r ≡ c
shown_first r a b c e t f = t ∙ sym (f ∙ ap (λ a. a || b) (sym e ∙ t))

pub shown_second : (r s a b c : Bool) → r ≡ a → r ≡ false → s ≡ b → c ≡ (a || b) → s ≡ c
shown_second r s a b c e h g f = g ∙ sym (f ∙ ap (λ a. a || b) (sym e ∙ h))

-- what is in order rises
pub rises_made : (is all : List Item) → is ≡ in_order all → IsRising (places is)
rises_made is all e = subst (λ is. IsRising (places is)) (sym e) (rises-in_order all)
