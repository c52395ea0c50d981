-- Where a key lies outside of a range, the range has a bound; and a slot that begins the key lies outside as a whole,
-- or begins a bound.
use Rattle.std.proofs.Common.{◌≡◌, ℕ, Bool, true, false, cond, List, [], ◌∷◌, Option, Some, None, refl, ap, ◌⊎◌, inl, inr}
use Rattle.std.specs.Ordering.{is_lt}
use Rattle.trie_model.specs.Bits.{bits_of_bytes, is_prefix, key_cmp}
use Rattle.trie_model.specs.Maps.{Limits}
use Rattle.range_model.specs.Laws.{Says, SlotsLieAsTheirKeys}
use Rattle.range_model.specs.Ranges.{Range, Place, Before, Inside, After, Straddles, IsRange, is_below, is_above, all_below, all_up_to, ends_below, key_place, slot_place, is_inside, is_outside}

-- a bound of a range
abbrev pub IsBound : Range → List ℕ → Type 0
IsBound r b = (r.start ≡ Some b) ⊎ (r.end ≡ Some b)

-- a key outside is beyond a bound
pub has_bound : (r : Range) (k : List Bool) → is_inside (key_place r k) ≡ false → (b : List ℕ) × IsBound r b
unfolding key_place
has_bound r k e = go r.start refl r.end refl e
  where
    go : (a : Option (List ℕ)) → r.start ≡ a → (b : Option (List ℕ)) → r.end ≡ b → is_inside (cond (is_below a k) Before (cond (is_above b k) After Inside)) ≡ false → (b : List ℕ) × IsBound r b
    go (Some a) p b q e = (a, inl p)
    go None p (Some b) q e = (b, inr q)
    go None p None q e = absurd cc

-- a slot that is below a key, and of which not all keys are below it, begins that key
begins_above : (s a : List Bool) → is_lt (key_cmp s a) ≡ true → ends_below s a ≡ false → is_prefix s a ≡ true
begins_above s a h e = which (is_lt (key_cmp s a)) (is_prefix s a) h e
  where
    which : (l p : Bool) → l ≡ true → cond p false l ≡ false → p ≡ true
    which true true h e = refl
    which true false h e = absurd cc
    which false p h e = absurd cc

-- one that is not above a key, and of which not all keys are below it, begins that key
begins_from : (s b : List Bool) → is_lt (key_cmp b s) ≡ false → ends_below s b ≡ false → is_prefix s b ≡ true
begins_from [] b h e = refl
begins_from (x ∷ s) [] h e = absurd cc
begins_from (true ∷ s) (true ∷ b) h e = begins_from s b h e
begins_from (false ∷ s) (false ∷ b) h e = begins_from s b h e
begins_from (true ∷ s) (false ∷ b) h e = absurd cc
begins_from (false ∷ s) (true ∷ b) h e = absurd cc

-- a slot that lies astride begins a bound
pub begins_bound : (r : Range) (s : List Bool) → slot_place r s ≡ Straddles → (b : List ℕ) × IsBound r b × (is_prefix s (bits_of_bytes b) ≡ true)
unfolding slot_place
begins_bound r s e = which (all_below r.start s) refl (is_above r.end s) refl (is_below r.start s) refl (all_up_to r.end s) refl e
  where
    at_start : (a : Option (List ℕ)) → r.start ≡ a → all_below a s ≡ false → is_below a s ≡ true → (b : List ℕ) × IsBound r b × (is_prefix s (bits_of_bytes b) ≡ true)
    at_start None f n b = absurd cc
    at_start (Some a) f n b = (a, inl f, begins_above s (bits_of_bytes a) b n)

    at_end : (a : Option (List ℕ)) → r.end ≡ a → is_above a s ≡ false → all_up_to a s ≡ false → (b : List ℕ) × IsBound r b × (is_prefix s (bits_of_bytes b) ≡ true)
    at_end None f n u = absurd cc
    at_end (Some a) f n u = (a, inr f, begins_from s (bits_of_bytes a) n u)

    which : (b : Bool) → all_below r.start s ≡ b → (a : Bool) → is_above r.end s ≡ a → (f : Bool) → is_below r.start s ≡ f → (u : Bool) → all_up_to r.end s ≡ u →
        cond b Before (cond a After (cond f Straddles (cond u Inside Straddles))) ≡ Straddles → (b : List ℕ) × IsBound r b × (is_prefix s (bits_of_bytes b) ≡ true)
    which true p a q f v u x e = absurd cc
    which false p true q f v u x e = absurd cc
    which false p false q true v u x e = at_start r.start refl p v
    which false p false q false v true x e = absurd cc
    which false p false q false v false x e = at_end r.end refl q x

-- so does one that begins a key outside, and does not lie outside as a whole
pub astride : SlotsLieAsTheirKeys → (l : Limits) (r : Range) (s k : List Bool) → IsRange l r → is_outside (slot_place r s) ≡ false → is_prefix s k ≡ true → is_inside (key_place r k) ≡ false →
    (b : List ℕ) × IsBound r b × (is_prefix s (bits_of_bytes b) ≡ true)
astride slots l r s k fits o b n = go (slot_place r s) refl (slots l r s fits) o
  where
    go : (p : Place) → slot_place r s ≡ p → Says r s p → is_outside p ≡ false → (b : List ℕ) × IsBound r b × (is_prefix s (bits_of_bytes b) ≡ true)
    go Before e f o = absurd cc
    go Inside e f o = absurd (let g : is_inside (key_place r k) ≡ true = ap is_inside (f k b) in cc)
    go After e f o = absurd cc
    go Straddles e f o = begins_bound r s e
