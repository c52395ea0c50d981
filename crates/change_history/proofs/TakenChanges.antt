-- What is taken of changes, entry by entry.
use Rattle.std.proofs.Common.{◌≡◌, ◌≢◌, ℕ, zero, suc, ◌+◌, ◌-◌, ◌<◌, ◌≤◌, Bool, true, false, cond, nat_le, nat_lt, List, [], ◌∷◌, ◌++◌, length, refl, sym, ap, ◌∙◌, subst, arith}
use Rattle.std.specs.Prelude.{◌&&◌}
use Rattle.std.proofs.lemmas.Bool.{ltb-true, ltb-false, lt-ltb, le-ltb}
use Rattle.std.proofs.lemmas.List.{append-nil, length-append}
use Rattle.proof_model.specs.TakenEntries.{taken_behind, taken, is_cut}
use Rattle.change_history.specs.ToldChanges.{fits}

-- what is taken behind entries that were taken
abbrev pub further : {A : Type 0} → (A → ℕ) → ℕ → ℕ → ℕ → ℕ → List A → List A
further size n z zero used rest = taken size n z rest
further size n z (suc k) used rest = taken_behind size (n - suc k) z used rest

-- of all entries some were taken, and these are left
pub record Taking {A : Type 0} (size : A → ℕ) (n z : ℕ) (all front rest : List A) (used : ℕ) : Type 0 where
  pub whole : all ≡ front ++ rest
  pub told : taken size n z all ≡ front ++ further size n z (length front) used rest
  pub fresh : length front ≡ 0 → used ≡ 0

-- the first one
pub fits_first : (k used size n z : ℕ) → k ≡ 0 → true ≡ fits k used size n z
fits_first zero used size n z e = refl
fits_first (suc k) used size n z e = absurd (omega (arith, e))

-- and another one
pub fits_behind : (k used size n z : ℕ) (b : Bool) → (k ≡ 0 → ⊥) → b ≡ (nat_lt k n && nat_le (used + size) z) → b ≡ fits k used size n z
fits_behind zero used size n z b e is = absurd (e refl)
fits_behind (suc k) used size n z b e is = is

module _ {A : Type 0} (size : A → ℕ) (n z : ℕ) where
  pub takes_none : (all : List A) → Taking size n z all [] all 0
  takes_none all = record { whole = refl; told = refl; fresh = λ e. refl }

  append_one : (front rest : List A) (x : A) → (front ++ x ∷ []) ++ rest ≡ front ++ x ∷ rest
  append_one [] rest x = refl
  append_one (y ∷ front) rest x = ap (λ ys. y ∷ ys) (append_one front rest x)

  length-one : (front : List A) (x : A) → length (front ++ x ∷ []) ≡ suc (length front)
  length-one [] x = refl
  length-one (y ∷ front) x = ap suc (length-one front x)

  -- behind the first one
  further-fits : (k used : ℕ) (x : A) (rest : List A) → fits k used (size x) n z ≡ true → (k ≡ 0 → used ≡ 0) → further size n z k used (x ∷ rest) ≡ x ∷ further size n z (suc k) (used + size x) rest
  unfolding taken
  further-fits zero used x rest f fresh = ap (λ u. x ∷ taken_behind size (n - 1) z u rest) (omega (arith, fresh refl))
  further-fits (suc k) used x rest f fresh = go (n - suc k) refl (parts (nat_lt (suc k) n) (nat_le (used + size x) z) f)
    where
      parts : (a b : Bool) → (a && b) ≡ true → (a ≡ true) × (b ≡ true)
      parts true true e = (refl, refl)
      parts true false e = absurd (cc)
      parts false b e = absurd (cc)

      go : (m : ℕ) → n - suc k ≡ m → (nat_lt (suc k) n ≡ true) × (nat_le (used + size x) z ≡ true) → taken_behind size m z used (x ∷ rest) ≡ x ∷ taken_behind size (n - suc (suc k)) z (used + size x) rest
      go zero e p = absurd (omega (arith, e, ltb-true (suc k) n p.0))
      go (suc m) e p = ap (λ b. cond b (x ∷ taken_behind size m z (used + size x) rest) []) p.1 ∙ ap (λ m. x ∷ taken_behind size m z (used + size x) rest) (omega (arith, e))

  further-full : (k used : ℕ) (x : A) (rest : List A) → fits k used (size x) n z ≡ false → further size n z k used (x ∷ rest) ≡ []
  further-full zero used x rest f = absurd (cc)
  further-full (suc k) used x rest f = go (n - suc k) refl (nat_lt (suc k) n) refl f
    where
      go : (m : ℕ) → n - suc k ≡ m → (a : Bool) → nat_lt (suc k) n ≡ a → (a && nat_le (used + size x) z) ≡ false → taken_behind size m z used (x ∷ rest) ≡ []
      go zero e a t f = refl
      go (suc m) e true t f = ap (λ b. cond b (x ∷ taken_behind size m z (used + size x) rest) []) f
      go (suc m) e false t f = absurd (omega (arith, e, ltb-false (suc k) n t))

  pub takes_one : (all front rest : List A) (used : ℕ) (x : A) → Taking size n z all front (x ∷ rest) used → fits (length front) used (size x) n z ≡ true → Taking size n z all (front ++ x ∷ []) rest (used + size x)
  takes_one all front rest used x t f = record {
    whole = t.whole ∙ sym (append_one front rest x);
    told = t.told ∙ ap (λ ys. front ++ ys) (further-fits (length front) used x rest f t.fresh)
        ∙ sym (append_one front (further size n z (suc (length front)) (used + size x) rest) x)
        ∙ ap (λ k. (front ++ x ∷ []) ++ further size n z k (used + size x) rest) (sym (length-one front x));
    fresh = λ e. absurd (omega (arith, e, length-one front x));
  }

  longer : (front rest : List A) (x : A) → length front < length (front ++ x ∷ rest)
  longer front rest x = omega (arith, length-append front (x ∷ rest))

  pub takes_no_more : (all front rest : List A) (used : ℕ) (x : A) → Taking size n z all front (x ∷ rest) used → fits (length front) used (size x) n z ≡ false → (front ≡ taken size n z all) × (true ≡ is_cut size n z all)
  takes_no_more all front rest used x t f =
      let e : taken size n z all ≡ front = t.told ∙ ap (λ ys. front ++ ys) (further-full (length front) used x rest f) ∙ append-nil front in (
        sym e,
        sym (lt-ltb (length (taken size n z all)) (length all) (omega (arith, ap length e, ap length t.whole, longer front rest x))),
      )

  further-end : (k used : ℕ) → further size n z k used [] ≡ []
  unfolding taken
  further-end zero used = refl
  further-end (suc k) used = go (n - suc k)
    where
      go : (m : ℕ) → taken_behind size m z used [] ≡ []
      go zero = refl
      go (suc m) = refl

  pub takes_all : (all front : List A) (used : ℕ) → Taking size n z all front [] used → (front ≡ taken size n z all) × (false ≡ is_cut size n z all)
  takes_all all front used t =
      let e : taken size n z all ≡ front = t.told ∙ ap (λ ys. front ++ ys) (further-end (length front) used) ∙ append-nil front in (
        sym e,
        sym (le-ltb (length (taken size n z all)) (length all) (omega (arith, ap length e, ap length t.whole, length-append front []))),
      )
