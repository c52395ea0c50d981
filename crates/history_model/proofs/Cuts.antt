-- Lists of maps that are cut to what is held.
use Rattle.std.proofs.Common.{◌≡◌, ℕ, zero, suc, ◌+◌, ◌-◌, ◌<◌, ◌≤◌, Bool, true, false, cond, nat_le, List, [], ◌∷◌, ◌++◌, length, refl, sym, ap, ◌∙◌, subst, arith}
use Rattle.std.proofs.lemmas.Bool.{leb-true, leb-false}
use Rattle.trie_model.specs.Maps.{Map}
use Rattle.history_model.specs.Changes.{weight}
use Rattle.history_model.specs.Held.{held_behind}
use Rattle.history_model.specs.Laws.{total_weight, IsLongestHeld, HeldIsLongest, CutsAreOne}

-- a list that was cut before, to no less than is left, is cut as it was
pub cut_again : (n k z y : ℕ) (m : Map) (ms : List Map) → n ≤ k → z ≤ y → held_behind n z m (held_behind k y m ms) ≡ held_behind n z m ms
cut_again zero k z y m ms p q = refl
cut_again (suc n) zero z y m ms p q = absurd (omega (arith, p))
cut_again (suc n) (suc k) z y m [] p q = refl
cut_again (suc n) (suc k) z y m (l ∷ ms) p q = go (nat_le (weight l m) z) (nat_le (weight l m) y) refl refl (cut_again n k (z - weight l m) (y - weight l m) l ms (omega (arith, p)) (omega (arith, q)))
  where
    go : (b c : Bool) → nat_le (weight l m) z ≡ b → nat_le (weight l m) y ≡ c → held_behind n (z - weight l m) l (held_behind k (y - weight l m) l ms) ≡ held_behind n (z - weight l m) l ms
        → held_behind (suc n) z m (cond c (l ∷ held_behind k (y - weight l m) l ms) []) ≡ cond b (l ∷ held_behind n (z - weight l m) l ms) []
    go true true e f ih = ap (λ b. cond b (l ∷ held_behind n (z - weight l m) l (held_behind k (y - weight l m) l ms)) []) e ∙ ap (λ ms. l ∷ ms) ih
    go false true e f ih = ap (λ b. cond b (l ∷ held_behind n (z - weight l m) l (held_behind k (y - weight l m) l ms)) []) e
    go true false e f ih = absurd (omega (arith, leb-true (weight l m) z e, leb-false (weight l m) y f, q))
    go false false e f ih = refl

pub cuts_are_one : CutsAreOne
cuts_are_one n z m [] = refl
cuts_are_one zero z m (l ∷ ms) = refl
cuts_are_one (suc n) z m (l ∷ ms) = ap (λ ms. m ∷ cond (nat_le (weight l m) z) (l ∷ ms) []) (cut_again n (suc n) (z - weight l m) z l ms (omega arith) (omega arith))

-- ---- the longest

-- the longest list behind one map
record IsLongestBehind (n z : ℕ) (m : Map) (ms front : List Map) : Type 0 where
  rest : List Map
  begins : ms ≡ front ++ rest
  few : length front ≤ n
  light : total_weight (m ∷ front) ≤ z
  longest : (longer left : List Map) → ms ≡ longer ++ left → length longer ≤ n → total_weight (m ∷ longer) ≤ z → length longer ≤ length front

nothing : (longer left : List Map) → [] ≡ longer ++ left → length longer ≤ 0
nothing [] left e = omega arith
nothing (y ∷ ys) left e = absurd cc

behind : (n z : ℕ) (m : Map) (ms : List Map) → IsLongestBehind n z m ms (held_behind n z m ms)
behind zero z m ms = record { rest = ms; begins = refl; few = omega arith; light = omega arith; longest = λ longer left e f g. f }
behind (suc n) z m [] = record { rest = []; begins = refl; few = omega arith; light = omega arith; longest = λ longer left e f g. nothing longer left e }
behind (suc n) z m (l ∷ ms) = which (nat_le (weight l m) z) refl (behind n (z - weight l m) l ms)
  where
    some : (front : List Map) → IsLongestBehind n (z - weight l m) l ms front → weight l m ≤ z → IsLongestBehind (suc n) z m (l ∷ ms) (l ∷ front)
    some front b fits = record {
      rest = b.rest;
      begins = ap (λ ys. l ∷ ys) b.begins;
      few = omega (arith, b.few);
      light = omega (arith, b.light, fits);
      longest = more;
    }
      where
        more : (longer left : List Map) → l ∷ ms ≡ longer ++ left → length longer ≤ suc n → total_weight (m ∷ longer) ≤ z → length longer ≤ suc (length front)
        more [] left e f g = omega arith
        more (y ∷ ys) left e f g =
            let same : l ≡ y = cc in
            let others : ms ≡ ys ++ left = cc in
            let whole : weight l m + total_weight (l ∷ ys) ≤ z = subst (λ x. weight x m + total_weight (x ∷ ys) ≤ z) (sym same) g in
            let k = b.longest ys left others (omega (arith, f)) (omega (arith, whole, fits)) in omega (arith, k)

    which : (b : Bool) → nat_le (weight l m) z ≡ b → IsLongestBehind n (z - weight l m) l ms (held_behind n (z - weight l m) l ms) → IsLongestBehind (suc n) z m (l ∷ ms) (cond b (l ∷ held_behind n (z - weight l m) l ms) [])
    which true e b = some (held_behind n (z - weight l m) l ms) b (leb-true (weight l m) z e)
    which false e b = record { rest = l ∷ ms; begins = refl; few = omega arith; light = omega arith; longest = less }
      where
        less : (longer left : List Map) → l ∷ ms ≡ longer ++ left → length longer ≤ suc n → total_weight (m ∷ longer) ≤ z → length longer ≤ 0
        less [] left e f g = omega arith
        less (y ∷ ys) left s f g =
            let same : l ≡ y = cc in
            let past : z < weight y m = subst (λ x. z < weight x m) same (leb-false (weight l m) z e) in
            absurd (omega (arith, g, past))

pub held_is_longest : HeldIsLongest
held_is_longest n z [] = record { rest = []; begins = refl; few = omega arith; light = omega arith; longest = λ longer left e f g. nothing longer left e }
held_is_longest n z (m ∷ ms) = whole (held_behind n z m ms) (behind n z m ms)
  where
    whole : (front : List Map) → IsLongestBehind n z m ms front → IsLongestHeld n z (m ∷ ms) (m ∷ front)
    whole front b = record { rest = b.rest; begins = ap (λ ys. m ∷ ys) b.begins; few = omega (arith, b.few); light = b.light; longest = longest }
      where
        longest : (longer left : List Map) → m ∷ ms ≡ longer ++ left → length longer ≤ n + 1 → total_weight longer ≤ z → length longer ≤ suc (length front)
        longest [] left e f g = omega arith
        longest (y ∷ ys) left e f g =
            let same : m ≡ y = cc in
            let others : ms ≡ ys ++ left = cc in
            let light : total_weight (m ∷ ys) ≤ z = subst (λ x. total_weight (x ∷ ys) ≤ z) (sym same) g in
            let k = b.longest ys left others (omega (arith, f)) light in omega (arith, k)
