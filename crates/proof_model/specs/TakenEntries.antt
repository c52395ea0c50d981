-- The taking: as much of a sorted list as a number of entries and a number of bytes allow, but one entry at least.
use Rattle.std.specs.Prelude.{◌≡◌, ◌⊎◌, ◌≢◌, ℕ, zero, suc, ◌+◌, ◌-◌, ◌<◌, ◌≤◌, Bool, nat_le, nat_lt, if◌then◌else◌, List, [], ◌∷◌, ◌++◌, length, Option, Some, None}
use Rattle.range_model.specs.Ranges.{Range}

-- the entries that still fit behind some of so many bytes, n at most, where z bytes are allowed in all
abbrev pub taken_behind : {A : Type 0} → (A → ℕ) → ℕ → ℕ → ℕ → List A → List A
taken_behind size n z used [] = []
taken_behind size zero z used (x ∷ xs) = []
taken_behind size (suc n) z used (x ∷ xs) = if nat_le (used + size x) z then x ∷ taken_behind size n z (used + size x) xs else []

-- the first entry, and those behind it that fit
unfoldable pub taken : {A : Type 0} → (A → ℕ) → ℕ → ℕ → List A → List A
taken size n z [] = []
taken size n z (x ∷ xs) = x ∷ taken_behind size (n - 1) z (size x) xs

-- whether entries remain
abbrev pub is_cut : {A : Type 0} → (A → ℕ) → ℕ → ℕ → List A → Bool
is_cut size n z xs = nat_lt (length (taken size n z xs)) (length xs)

-- the last of some keys
abbrev pub last_key : List (List ℕ) → Option (List ℕ)
last_key [] = None
last_key (k ∷ []) = Some k
last_key (k ∷ l ∷ ks) = last_key (l ∷ ks)

-- the end of a range, or a key in its place
abbrev pub end_or : Option (List ℕ) → Range → Range
end_or None r = r
end_or (Some last) r = record { start = r.start; end = Some last }

-- the range up to where entries with these keys tell of it: up to the last one where they are cut, and else all of it.
-- Entries that are cut and none count as not cut
abbrev pub reached_by : Range → Bool → List (List ℕ) → Range
reached_by r cut keys = if cut then end_or (last_key keys) r else r

-- the bytes of entries
abbrev pub total : {A : Type 0} → (A → ℕ) → List A → ℕ
total size [] = 0
total size (x ∷ xs) = size x + total size xs

-- at most n entries of at most z bytes
pub record Fits {A : Type 0} (size : A → ℕ) (n z : ℕ) (xs : List A) : Type 0 where
  pub count : length xs ≤ n
  pub bytes : total size xs ≤ z

-- what is taken of a list: it begins it, and fits or is one entry alone; nothing longer that begins the list fits;
-- and of a list that has entries one is taken
pub record IsLongest {A : Type 0} (size : A → ℕ) (n z : ℕ) (xs front : List A) : Type 0 where
  pub rest : List A
  pub begins : xs ≡ front ++ rest
  pub fits : Fits size n z front ⊎ (length front ≡ 1)
  pub longest : (longer left : List A) → xs ≡ longer ++ left → Fits size n z longer → length longer ≤ length front
  pub some : xs ≢ [] → 0 < length front
