-- Places that a write touched.
use Rattle.std.proofs.Common.{◌≡◌, ◌⊎◌, inl, inr, ⊎_elim, ℕ, ◌≤◌, ◌<◌, Bool, true, false, ◌||◌, ◌&&◌, nat_le, nat_lt, List, [], ◌∷◌, ◌++◌, refl, arith, sym, ◌∙◌}
use Rattle.std.proofs.lemmas.Bool.{cases_lt}
use Rattle.std.proofs.lemmas.Bool.Decides.{nat_tests}
use Rattle.std.proofs.lemmas.List.Folds.{list_any-append}
use Rattle.disk_model.specs.Crash.{Unsynced, is_touched, is_open}

neither : (a b : Bool) → (a || b) ≡ false → (a ≡ false) × (b ≡ false)
neither true b is = absurd (cc)
neither false b is = (refl, is)

nor : (a b : Bool) → a ≡ false → b ≡ false → (a || b) ≡ false
nor true b p q = absurd (cc)
nor false b p q = q

-- one range alone
pub outside : (from to i : ℕ) → is_touched ((from, to) ∷ []) i ≡ false → (i < from) ⊎ (to ≤ i)
outside from to i none = ⊎_elim (λ (a : i < from). inl a) (λ (a : from ≤ i). ⊎_elim (λ (b : i < to). absurd (inside from to i a b none)) (λ (b : to ≤ i). inr b) (cases_lt i to)) (cases_lt i from)
  where
    inside : (from to i : ℕ) → from ≤ i → i < to → is_touched ((from, to) ∷ []) i ≡ false → ⊥
    inside from to i low high none = grind (arith, nat_tests)

pub not_inside : (from to i : ℕ) → (i < from) ⊎ (to ≤ i) → is_touched ((from, to) ∷ []) i ≡ false
not_inside from to i (inl lt) = grind (arith, nat_tests)
not_inside from to i (inr le) = grind (arith, nat_tests)

-- a place that no write touched, nor the last one
pub untouched : (ranges : List (ℕ × ℕ)) (from to i : ℕ) → is_touched (ranges ++ (from, to) ∷ []) i ≡ false → (is_touched ranges i ≡ false) × ((i < from) ⊎ (to ≤ i))
untouched ranges from to i none =
    let parts = neither (is_touched ranges i) (is_touched ((from, to) ∷ []) i) (sym (list_any-append (λ (r : ℕ × ℕ). nat_le r.0 i && nat_lt i r.1) ranges ((from, to) ∷ [])) ∙ none) in
    (parts.0, outside from to i parts.1)

pub touched_by_none : (ranges : List (ℕ × ℕ)) (from to i : ℕ) → is_touched ranges i ≡ false → (i < from) ⊎ (to ≤ i) → is_touched (ranges ++ (from, to) ∷ []) i ≡ false
touched_by_none ranges from to i none out =
    list_any-append (λ (r : ℕ × ℕ). nat_le r.0 i && nat_lt i r.1) ranges ((from, to) ∷ []) ∙ nor (is_touched ranges i) (is_touched ((from, to) ∷ []) i) none (not_inside from to i out)

-- a byte that the crash rule leaves as it was
pub closed : (file : Unsynced) (i : ℕ) → is_open file i ≡ false → (i < file.least) × (is_touched file.touched i ≡ false)
closed file i is = let parts = neither (nat_le file.least i) (is_touched file.touched i) is in (below file.least i parts.0, parts.1)
  where
    below : (n i : ℕ) → nat_le n i ≡ false → i < n
    below n i is = grind (arith, nat_tests)

pub closed_at : (file : Unsynced) (i : ℕ) → i < file.least → is_touched file.touched i ≡ false → is_open file i ≡ false
closed_at file i lt none = nor (nat_le file.least i) (is_touched file.touched i) (above file.least i lt) none
  where
    above : (n i : ℕ) → i < n → nat_le n i ≡ false
    above n i lt = grind (arith, nat_tests)
