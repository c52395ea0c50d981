-- Where slots and byte strings lie, by the order of keys.
use Rattle.std.proofs.Common.{◌≡◌, ℕ, Bool, true, false, cond, ◌&&◌, List, [], ◌∷◌, ◌++◌, Option, Some, None, refl, sym, ap, ◌∙◌}
use Rattle.std.specs.Prelude.{IfSome}
use Rattle.std.specs.Ordering.{is_lt, is_le}
use Rattle.base_model.specs.Bytes.{AreBytes, bytes_cmp}
use Rattle.trie_model.specs.Bits.{bits_of_bytes, is_prefix, key_cmp}
use Rattle.trie_model.proofs.KeyOrder.{cmp-bytes}
use Rattle.trie_model.proofs.Prefixes.{is_prefix-itself}
use Rattle.range_model.specs.Ranges.{Range, Place, Before, Inside, After, Straddles, is_from, is_up_to, is_below, is_above, all_below, all_up_to, ends_below, key_place, slot_place, are_in_order, is_inside}
use Rattle.range_model.specs.Laws.{AllLie, Says, SlotsLieAsTheirKeys, BytesLieAsTheirBits}

-- ---- one slot s and the keys that it begins

-- a slot that ends below a key has all its keys below
below_all : (s a k : List Bool) → ends_below s a ≡ true → is_prefix s k ≡ true → is_lt (key_cmp k a) ≡ true
below_all [] a k h p = absurd (nothing a h)
  where
    nothing : (a : List Bool) → ends_below [] a ≡ true → ⊥
    nothing [] h = cc
    nothing (x ∷ a) h = cc
below_all (x ∷ s) [] k h p = absurd cc
below_all (true ∷ s) (true ∷ a) (true ∷ k) h p = below_all s a k h p
below_all (false ∷ s) (false ∷ a) (false ∷ k) h p = below_all s a k h p
below_all (false ∷ s) (true ∷ a) (false ∷ k) h p = refl
below_all (x ∷ s) (y ∷ a) k h p = absurd cc

-- the keys of a slot that is above a key are above it
above_all : (s b k : List Bool) → is_lt (key_cmp b s) ≡ true → is_prefix s k ≡ true → is_lt (key_cmp b k) ≡ true
above_all [] [] k h p = absurd cc
above_all [] (y ∷ b) k h p = absurd cc
above_all (x ∷ s) [] (z ∷ k) h p = refl
above_all (true ∷ s) (true ∷ b) (true ∷ k) h p = above_all s b k h p
above_all (false ∷ s) (false ∷ b) (false ∷ k) h p = above_all s b k h p
above_all (true ∷ s) (false ∷ b) (true ∷ k) h p = refl
above_all (x ∷ s) b k h p = absurd cc

-- so are those of a slot that is not below a key not below it
from_all : (s a k : List Bool) → is_lt (key_cmp s a) ≡ false → is_prefix s k ≡ true → is_lt (key_cmp k a) ≡ false
from_all [] [] [] h p = refl
from_all [] [] (z ∷ k) h p = refl
from_all [] (y ∷ a) k h p = absurd cc
from_all (x ∷ s) [] (z ∷ k) h p = refl
from_all (true ∷ s) (true ∷ a) (true ∷ k) h p = from_all s a k h p
from_all (false ∷ s) (false ∷ a) (false ∷ k) h p = from_all s a k h p
from_all (true ∷ s) (false ∷ a) (true ∷ k) h p = refl
from_all (x ∷ s) a k h p = absurd cc

-- where a key is below another, that one is not below it
one_way : (k b : List Bool) → is_lt (key_cmp k b) ≡ true → is_lt (key_cmp b k) ≡ false
one_way [] [] h = refl
one_way [] (y ∷ b) h = refl
one_way (x ∷ k) [] h = absurd cc
one_way (true ∷ k) (true ∷ b) h = one_way k b h
one_way (false ∷ k) (false ∷ b) h = one_way k b h
one_way (false ∷ k) (true ∷ b) h = refl
one_way (true ∷ k) (false ∷ b) h = absurd cc

-- a slot that is not above a key, and of which not all keys are below it, begins a key above it
goes_past : (s b : List Bool) → is_lt (key_cmp b s) ≡ false → ends_below s b ≡ false → (is_prefix s (b ++ true ∷ []) ≡ true) × (is_lt (key_cmp b (b ++ true ∷ [])) ≡ true)
goes_past [] [] h e = (refl, refl)
goes_past [] (true ∷ b) h e = (refl, (goes_past [] b (first b) (second b)).1)
  where
    first : (b : List Bool) → is_lt (key_cmp b []) ≡ false
    first [] = refl
    first (x ∷ b) = refl

    second : (b : List Bool) → ends_below [] b ≡ false
    second [] = refl
    second (x ∷ b) = refl
goes_past [] (false ∷ b) h e = (refl, (goes_past [] b (first b) (second b)).1)
  where
    first : (b : List Bool) → is_lt (key_cmp b []) ≡ false
    first [] = refl
    first (x ∷ b) = refl

    second : (b : List Bool) → ends_below [] b ≡ false
    second [] = refl
    second (x ∷ b) = refl
goes_past (x ∷ s) [] h e = absurd cc
goes_past (true ∷ s) (true ∷ b) h e = goes_past s b h e
goes_past (false ∷ s) (false ∷ b) h e = goes_past s b h e
goes_past (false ∷ s) (true ∷ b) h e = absurd cc
goes_past (true ∷ s) (false ∷ b) h e = absurd cc

-- a slot that is below a key, and of which not all keys are below it, begins that key
begins_it : (s a : List Bool) → is_lt (key_cmp s a) ≡ true → ends_below s a ≡ false → is_prefix s a ≡ true
begins_it s a h e = which (is_lt (key_cmp s a)) (is_prefix s a) h e
  where
    which : (l p : Bool) → l ≡ true → cond p false l ≡ false → p ≡ true
    which true true h e = refl
    which true false h e = absurd cc
    which false p h e = absurd cc

-- no key is below itself
not_below_itself : (k : List Bool) → is_lt (key_cmp k k) ≡ false
not_below_itself [] = refl
not_below_itself (true ∷ k) = not_below_itself k
not_below_itself (false ∷ k) = not_below_itself k

-- what is above a key is not below one that is at most that key
not_below : (a b k : List Bool) → is_le (key_cmp a b) ≡ true → is_lt (key_cmp b k) ≡ true → is_lt (key_cmp k a) ≡ false
not_below [] [] [] h l = refl
not_below [] b [] h l = refl
not_below [] b (z ∷ k) h l = refl
not_below (x ∷ a) [] k h l = absurd cc
not_below (x ∷ a) (y ∷ b) [] h l = absurd cc
not_below (true ∷ a) (true ∷ b) (true ∷ k) h l = not_below a b k h l
not_below (false ∷ a) (false ∷ b) (false ∷ k) h l = not_below a b k h l
not_below (false ∷ a) (false ∷ b) (true ∷ k) h l = refl
not_below (false ∷ a) (true ∷ b) (true ∷ k) h l = refl
not_below (x ∷ a) (y ∷ b) (z ∷ k) h l = absurd cc

-- ---- a range with an end

-- behind the end of a range nothing is below its start
behind_end : (a b : Option (List ℕ)) (k : List Bool) → IfSome a AreBytes → IfSome b AreBytes → are_in_order a b ≡ true → is_above b k ≡ true → is_below a k ≡ false
behind_end None b k p q o h = refl
behind_end (Some a) None k p q o h = absurd cc
behind_end (Some a) (Some b) k p q o h = not_below (bits_of_bytes a) (bits_of_bytes b) k (ap is_le (cmp-bytes a b p q) ∙ o) h

-- all keys of a slot are below a start
starts : (a : Option (List ℕ)) (s k : List Bool) → all_below a s ≡ true → is_prefix s k ≡ true → is_below a k ≡ true
starts None s k h p = absurd cc
starts (Some a) s k h p = below_all s (bits_of_bytes a) k h p

-- none of them is
starts_not : (a : Option (List ℕ)) (s k : List Bool) → is_below a s ≡ false → is_prefix s k ≡ true → is_below a k ≡ false
starts_not None s k h p = refl
starts_not (Some a) s k h p = from_all s (bits_of_bytes a) k h p

-- all of them are above an end
ends : (b : Option (List ℕ)) (s k : List Bool) → is_above b s ≡ true → is_prefix s k ≡ true → is_above b k ≡ true
ends None s k h p = absurd cc
ends (Some b) s k h p = above_all s (bits_of_bytes b) k h p

-- none of them is
ends_not : (b : Option (List ℕ)) (s k : List Bool) → all_up_to b s ≡ true → is_prefix s k ≡ true → is_above b k ≡ false
ends_not None s k h p = refl
ends_not (Some b) s k h p = one_way k (bits_of_bytes b) (below_all s (bits_of_bytes b) k h p)

-- where one key lies, by the two tests
place_by : Bool → Bool → Place
place_by below above = cond below Before (cond above After Inside)

lies : (r : Range) (k : List Bool) (below above : Bool) → is_below r.start k ≡ below → is_above r.end k ≡ above → key_place r k ≡ place_by below above
unfolding key_place place_by
lies r k below above p q = rw (p, q) refl

-- a slot that begins the start lies astride of it
astride_start : (r : Range) (s : List Bool) (p : Place) → all_below r.start s ≡ false → is_below r.start s ≡ true → AllLie r s p → ⊥
unfolding place_by
astride_start r s p n b all = which r.start n b refl
  where
    never : (above : Bool) → Before ≡ place_by false above → ⊥
    never true e = cc
    never false e = cc

    which : (a : Option (List ℕ)) → all_below a s ≡ false → is_below a s ≡ true → r.start ≡ a → ⊥
    which None n b e = absurd cc
    which (Some a) n b e =
        let here : key_place r s ≡ Before = lies r s true (is_above r.end s) (ap (λ x. is_below x s) e ∙ b) refl in
        let there : key_place r (bits_of_bytes a) ≡ place_by false (is_above r.end (bits_of_bytes a)) = lies r (bits_of_bytes a) false (is_above r.end (bits_of_bytes a)) (ap (λ x. is_below x (bits_of_bytes a)) e ∙ not_below_itself (bits_of_bytes a)) refl in
        never (is_above r.end (bits_of_bytes a)) (sym here ∙ all s (is_prefix-itself s) ∙ sym (all (bits_of_bytes a) (begins_it s (bits_of_bytes a) b n)) ∙ there)

-- one that goes past the end lies astride of that
astride_end : (r : Range) (s : List Bool) (p : Place) → is_above r.end s ≡ false → is_below r.start s ≡ false → all_up_to r.end s ≡ false → AllLie r s p → ⊥
unfolding place_by
astride_end r s p n b u all = which r.end n u refl
  where
    which : (x : Option (List ℕ)) → is_above x s ≡ false → all_up_to x s ≡ false → r.end ≡ x → ⊥
    which None n u e = absurd cc
    which (Some x) n u e =
        let past = goes_past s (bits_of_bytes x) n u in
        let k : List Bool = bits_of_bytes x ++ true ∷ [] in
        let here : key_place r s ≡ Inside = lies r s false false b (ap (λ x. is_above x s) e ∙ n) in
        let there : key_place r k ≡ After = lies r k false true (starts_not r.start s k b past.0) (ap (λ x. is_above x k) e ∙ past.1) in
        let same : Inside ≡ After = sym here ∙ all s (is_prefix-itself s) ∙ sym (all k past.0) ∙ there in
        absurd cc

pub slots_lie_as_their_keys : SlotsLieAsTheirKeys
unfolding slot_place place_by
slots_lie_as_their_keys l r s fits = which (all_below r.start s) (is_above r.end s) (is_below r.start s) (all_up_to r.end s) refl refl refl refl
  where
    which : (b a f u : Bool) → all_below r.start s ≡ b → is_above r.end s ≡ a → is_below r.start s ≡ f → all_up_to r.end s ≡ u → Says r s (cond b Before (cond a After (cond f Straddles (cond u Inside Straddles))))
    which true a f u p q v x = λ k h. lies r k true (is_above r.end k) (starts r.start s k p h) refl
    which false true f u p q v x = λ k h. lies r k false true (behind_end r.start r.end k fits.start_bytes fits.end_bytes fits.order (ends r.end s k q h)) (ends r.end s k q h)
    which false false false true p q v x = λ k h. lies r k false false (starts_not r.start s k v h) (ends_not r.end s k x h)
    which false false false false p q v x = λ place all. astride_end r s place q v x all
    which false false true u p q v x = λ place all. astride_start r s place p v all

-- ---- byte strings

-- a turned test
no : Bool → Bool
no true = false
no false = true

-- one that is from a start on has bits that are not below it, and the other way round
not_above_first : (a key : List ℕ) → AreBytes a → AreBytes key → no (is_lt (key_cmp (bits_of_bytes key) (bits_of_bytes a))) ≡ is_le (bytes_cmp a key)
unfolding no
not_above_first a key p q = turned (bits_of_bytes a) (bits_of_bytes key) ∙ ap is_le (cmp-bytes a key p q)
  where
    turned : (a k : List Bool) → no (is_lt (key_cmp k a)) ≡ is_le (key_cmp a k)
    turned [] [] = refl
    turned [] (z ∷ k) = refl
    turned (x ∷ a) [] = refl
    turned (true ∷ a) (true ∷ k) = turned a k
    turned (false ∷ a) (false ∷ k) = turned a k
    turned (true ∷ a) (false ∷ k) = refl
    turned (false ∷ a) (true ∷ k) = refl

from_bits : (a : Option (List ℕ)) (key : List ℕ) → IfSome a AreBytes → AreBytes key → no (is_below a (bits_of_bytes key)) ≡ is_from a key
unfolding no
from_bits None key p q = refl
from_bits (Some a) key p q = not_above_first a key p q

up_to_bits : (b : Option (List ℕ)) (key : List ℕ) → IfSome b AreBytes → AreBytes key → no (is_above b (bits_of_bytes key)) ≡ is_up_to b key
unfolding no
up_to_bits None key p q = refl
up_to_bits (Some b) key p q = not_above_first key b q p

pub bytes_lie_as_their_bits : BytesLieAsTheirBits
unfolding key_place no
bytes_lie_as_their_bits r key p q k =
    rw (sym (from_bits r.start key p k), sym (up_to_bits r.end key q k)) (which (is_below r.start (bits_of_bytes key)) (is_above r.end (bits_of_bytes key)))
  where
    which : (below above : Bool) → (no below && no above) ≡ is_inside (cond below Before (cond above After Inside))
    which true above = refl
    which false true = refl
    which false false = refl
