use Rattle.bit_keys.proofs.Padding.{pad, pad-fills, zeros, unpacked, packed-bytes}
use Rattle.bit_keys.proofs.KeyFacts.{IsKey, key_bits, key_packed}
use Rattle.std.proofs.Common.{◌≡◌, ◌≢◌, ℕ, zero, suc, ◌+◌, ◌<◌, ◌≤◌, Bool, true, false, ◌&&◌, List, [], ◌∷◌, ◌++◌, length, length-append, take, refl, sym, ap, ◌∙◌, arith, subst, nat_eq, Ordering, Less, Equal, Greater}
use Rattle.std.specs.Ordering.{nat_cmp, bool_cmp, ordering_then}
use Rattle.std.specs.Cmp.{bool_cmp_total, tied_itself, both_ways}
use Rattle.std.specs.Cmp.Lexicographic.{slice_cmp, pointwise, same_text}
use Rattle.std.proofs.lemmas.Cmp.{lists_total, nat_list_eq_equiv}
use Rattle.std.proofs.lemmas.Bool.Decides.{nat_tests}
use Rattle.std.proofs.lemmas.List.{length-replicate}
use Rattle.trie_model.proofs.Prefixes.{same_key-is, same_key-itself}
use Rattle.base_model.proofs.PackedBits.{take-packed}
use Rattle.trie_model.proofs.KeyOrder.{cmp-bytes}
use Rattle.trie_model.specs.Bits.{bits_of_bytes, packed, key_cmp, same_key}

-- tests one after another, in either grouping
then_assoc : (o p q : Ordering) → ordering_then o (ordering_then p q) ≡ ordering_then (ordering_then o p) q
then_assoc Less p q = refl
then_assoc Equal p q = refl
then_assoc Greater p q = refl

-- zeros come before all keys as long, or are the front of one
below_all : (i : ℕ) (b : List Bool) → i ≤ length b → ordering_then (key_cmp (zeros i) b) Less ≡ Less
below_all zero [] h = refl
below_all zero (y ∷ b) h = refl
below_all (suc i) [] h = absurd (omega arith)
below_all (suc i) (true ∷ b) h = refl
below_all (suc i) (false ∷ b) h = below_all i b (omega arith)

-- and the other way round
above_all : (i : ℕ) (b : List Bool) → i ≤ length b → ordering_then (key_cmp b (zeros i)) Greater ≡ Greater
above_all zero [] h = refl
above_all zero (y ∷ b) h = refl
above_all (suc i) [] h = absurd (omega arith)
above_all (suc i) (true ∷ b) h = refl
above_all (suc i) (false ∷ b) h = above_all i b (omega arith)

-- what comparing two numbers tells
less_than : (m n : ℕ) → m < n → nat_cmp m n ≡ Less
less_than m n h = grind (arith, nat_tests)

more_than : (m n : ℕ) → n < m → nat_cmp m n ≡ Greater
more_than m n h = grind (arith, nat_tests)

-- one more on both sides changes nothing
one_more : (m n : ℕ) → nat_cmp (suc m) (suc n) ≡ nat_cmp m n
one_more m n = grind (arith, nat_tests)

-- keys are in the order of their filled up forms, and then of their lengths
padded_order : (a b : List Bool) (i j : ℕ) → (length a ≤ length b → length a + i ≤ length b + j) → (length b ≤ length a → length b + j ≤ length a + i) →
    key_cmp a b ≡ ordering_then (key_cmp (a ++ zeros i) (b ++ zeros j)) (nat_cmp (length a) (length b))
padded_order [] [] i j f g = let e : i ≡ j = omega (arith, f (omega arith), g (omega arith)) in
    sym (ap (λ o. ordering_then o Equal) (ap (λ i. key_cmp (zeros i) (zeros j)) e ∙ tied_itself (lists_total bool_cmp_total) (zeros j)))
padded_order [] (y ∷ b) i j f g =
    sym (ap (ordering_then (key_cmp (zeros i) (y ∷ b ++ zeros j))) (less_than 0 (suc (length b)) (omega arith)) ∙ below_all i (y ∷ b ++ zeros j) (omega (arith, f (omega arith), length-append b (zeros j), length-replicate {A = Bool} j false)))
padded_order (x ∷ a) [] i j f g =
    sym (ap (ordering_then (key_cmp (x ∷ a ++ zeros i) (zeros j))) (more_than (suc (length a)) 0 (omega arith)) ∙ above_all j (x ∷ a ++ zeros i) (omega (arith, g (omega arith), length-append a (zeros i), length-replicate {A = Bool} i false)))
padded_order (x ∷ a) (y ∷ b) i j f g =
    ap (ordering_then (bool_cmp x y)) (padded_order a b i j (λ h. omega (arith, f (omega arith))) (λ h. omega (arith, g (omega arith))))
    ∙ then_assoc (bool_cmp x y) (key_cmp (a ++ zeros i) (b ++ zeros j)) (nat_cmp (length a) (length b))
    ∙ ap (ordering_then (ordering_then (bool_cmp x y) (key_cmp (a ++ zeros i) (b ++ zeros j)))) (sym (one_more (length a) (length b)))

-- the order of keys, by their bytes
pub packed_order : (a b : List Bool) → key_cmp a b ≡ ordering_then (slice_cmp nat_cmp (packed a) (packed b)) (nat_cmp (length a) (length b))
packed_order a b =
    let p = pad-fills a in let q = pad-fills b in
    padded_order a b (pad a) (pad b) (λ h. omega (arith, p.0, q.0, p.1, q.1)) (λ h. omega (arith, p.0, q.0, p.1, q.1))
    ∙ ap (λ o. ordering_then o (nat_cmp (length a) (length b))) (ap (λ x. key_cmp x (b ++ zeros (pad b))) (sym (unpacked a)) ∙ ap (key_cmp (bits_of_bytes (packed a))) (sym (unpacked b)) ∙ cmp-bytes (packed a) (packed b) (packed-bytes a) (packed-bytes b))

-- one key, by its bytes
pub same_packed : (a b : List Bool) → (nat_eq (length a) (length b) && pointwise nat_eq (packed a) (packed b)) ≡ same_key a b
same_packed a b = both_ways (nat_eq (length a) (length b) && pointwise nat_eq (packed a) (packed b)) (same_key a b)
    (λ e. let p = both (nat_eq (length a) (length b)) _ e in
    let m : length a ≡ length b = grind (arith, nat_tests, p.0) in
    let s : packed a ≡ packed b = same_text (packed a) (packed b) (sym p.1) in
    let k : a ≡ b = sym (take-packed a) ∙ ap (λ n. take n (bits_of_bytes (packed a))) m ∙ ap (λ bs. take (length b) (bits_of_bytes bs)) s ∙ take-packed b in
    subst (λ k. same_key a k ≡ true) k (same_key-itself a))
    (λ e. let k = same_key-is a b e in subst (λ k. (nat_eq (length a) (length k) && pointwise nat_eq (packed a) (packed k)) ≡ true) k (ap (λ t. t && pointwise nat_eq (packed a) (packed a)) (nat_same (length a)) ∙ nat_list_eq_equiv.refl (packed a)))
  where
    both : (s t : Bool) → (s && t) ≡ true → (s ≡ true) × (t ≡ true)
    both true t e = (refl, e)
    both false t e = absurd (cc)

    nat_same : (n : ℕ) → nat_eq n n ≡ true
    nat_same n = grind (arith, nat_tests)

-- what comparing the bytes, and then the bits, of two keys tells
pub compared : (m n : ℕ) (bs cs : List ℕ) (k l : List Bool) (o p r : Ordering) → IsKey m bs k → IsKey n cs l → o ≡ slice_cmp nat_cmp bs cs → p ≡ nat_cmp m n → r ≡ ordering_then o p → r ≡ key_cmp k l
compared m n bs cs k l o p r e f u v w =
    let a = key_packed m bs k e in let b = key_packed n cs l f in let s = key_bits m bs k e in let t = key_bits n cs l f in
    cc (packed_order k l)

-- equality, where both have as many bits
pub equal_bits : (m n : ℕ) (bs cs : List ℕ) (k l : List Bool) (r : Bool) → IsKey m bs k → IsKey n cs l → m ≡ n → r ≡ pointwise nat_eq bs cs → r ≡ same_key k l
equal_bits m n bs cs k l r e f h u =
    let s : length k ≡ length l = sym (key_bits m bs k e) ∙ h ∙ key_bits n cs l f in
    u ∙ ap (λ bs. pointwise nat_eq bs cs) (key_packed m bs k e) ∙ ap (pointwise nat_eq (packed k)) (key_packed n cs l f)
    ∙ sym (ap (λ t. t && pointwise nat_eq (packed k) (packed l)) (told (length k) (length l) s)) ∙ same_packed k l
  where
    told : (m n : ℕ) → m ≡ n → nat_eq m n ≡ true
    told m n e = grind (arith, nat_tests)

-- and where they do not
pub other_bits : (m n : ℕ) (bs cs : List ℕ) (k l : List Bool) → IsKey m bs k → IsKey n cs l → m ≢ n → nat_eq m n ≡ same_key k l
other_bits m n bs cs k l e f h =
    let d : nat_eq (length k) (length l) ≡ false = told (length k) (length l) (λ s. h (key_bits m bs k e ∙ s ∙ sym (key_bits n cs l f))) in
    told m n h ∙ sym (ap (λ t. t && pointwise nat_eq (packed k) (packed l)) d) ∙ same_packed k l
  where
    told : (m n : ℕ) → m ≢ n → nat_eq m n ≡ false
    told m n e = grind (arith, nat_tests)
