-- Parts of values are values, and no value stands at a key that all go beyond.
use Rattle.std.proofs.Common.{◌≡◌, ℕ, ◌<◌, Bool, true, false, cond, List, [], ◌∷◌, ◌++◌, length, refl, ap, arith, inl, inr, Some, None, Less}
use Rattle.std.specs.List.{AllByRecursion}
use Rattle.trie_model.specs.Bits.{IsRising, same_key, key_cmp}
use Rattle.trie_model.specs.Ids.{digest_at}
use Rattle.trie_model.specs.Items.{Item, Val, Stub, place_of, NoStubs, AreValues, places}
use Rattle.trie_model.proofs.Children.{Placed}
use Rattle.trie_model.proofs.Lists.{Member-append-left}
use Rattle.trie_model.proofs.Prefixes.{same_key-is}

-- what holds of all keys holds of the first
All-left : (P : List Bool → Type 0) (xs ys : List Item) → AllByRecursion P (places (xs ++ ys)) → AllByRecursion P (places xs)
All-left P [] ys h = tt
All-left P (x ∷ xs) ys h = (h.0, All-left P xs ys h.1)

-- the first of rising keys rise
IsRising-left : (xs ys : List Item) → IsRising (places (xs ++ ys)) → IsRising (places xs)
IsRising-left [] ys h = tt
IsRising-left (x ∷ xs) ys h = (All-left (λ l. key_cmp (place_of x) l ≡ Less) xs ys h.0, IsRising-left xs ys h.1)

-- the first of values are values
pub AreValues-left : (w : ℕ) (xs ys : List Item) → AreValues w (xs ++ ys) → AreValues w xs
AreValues-left w xs ys p = record {
  pos = p.pos;
  values = λ q x m. p.values q x (Member-append-left xs ys _ m);
  whole = All-left _ xs ys p.whole;
  rises = IsRising-left xs ys p.rises;
}

-- and so are those behind the first
pub AreValues-tail : (w : ℕ) (i : Item) (is : List Item) → AreValues w (i ∷ is) → AreValues w is
AreValues-tail w i is p = record { pos = p.pos; values = λ q x m. p.values q x (inr m); whole = p.whole.1; rises = p.rises.1 }

-- what holds of two lists holds of both, one behind the other
pub All-append : {A : Type 0} (P : A → Type 0) (xs ys : List A) → AllByRecursion P xs → AllByRecursion P ys → AllByRecursion P (xs ++ ys)
All-append P [] ys h k = k
All-append P (x ∷ xs) ys h k = (h.0, All-append P xs ys h.1 k)

-- no value stands at a key that all values go beyond
pub digest_none : (w : ℕ) (k : List Bool) (is : List Item) → 0 < w → NoStubs is → AllByRecursion (Placed w k) is → digest_at k is ≡ None
digest_none w k [] pos n h = refl
digest_none w k (Val l d ∷ is) pos n h = go (same_key k l) refl (digest_none w k is pos (λ p x m. n p x (inr m)) h.1)
  where
    go : (b : Bool) → same_key k l ≡ b → digest_at k is ≡ None → cond b (Some d) (digest_at k is) ≡ None
    go true e ih = absurd (let m = h.0.long in let f = ap length (same_key-is k l e) in omega (arith, m, f, pos))
    go false e ih = ih
digest_none w k (Stub p x ∷ is) pos n h = absurd (n p x (inl refl))
