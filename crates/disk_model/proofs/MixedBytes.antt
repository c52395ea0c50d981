-- Bytes of two lists, mixed place by place.
use Rattle.std.proofs.Common.{◌≡◌, ⊎_elim, ℕ, ◌≤◌, ◌<◌, Bool, true, false, List, length, get_or, map, cond, refl, sym, subst, arith}
use Rattle.std.proofs.lemmas.List.{get_or_past}
use Rattle.std.proofs.lemmas.List.FromFn.{length-map-range_with_len, get_or-map-range_with_len}
use Rattle.std.proofs.lemmas.Bool.{cases_lt}
use Rattle.std.specs.List.{range_with_len}
use Rattle.base_model.specs.Bytes.{AreBytes}
use Rattle.disk_model.proofs.Bytes.{bytes_below, below_bytes}

-- at each place the byte of one list where it is free, and of another elsewhere
abbrev pub mixed : (ℕ → Bool) → List ℕ → List ℕ → ℕ → ℕ
mixed free image seen i = cond (free i) (get_or image i 0) (get_or seen i 0)

pub mixed_bytes : (free : ℕ → Bool) (image seen : List ℕ) (i : ℕ) → AreBytes image → AreBytes seen → mixed free image seen i < 256
mixed_bytes free image seen i a b = by_case (free i)
  where
    by_case : (o : Bool) → cond o (get_or image i 0) (get_or seen i 0) < 256
    by_case true = below_bytes image a i
    by_case false = below_bytes seen b i

pub mixed_free : (free : ℕ → Bool) (image seen : List ℕ) (i : ℕ) → (free i ≡ false → get_or seen i 0 ≡ get_or image i 0) → mixed free image seen i ≡ get_or image i 0
mixed_free free image seen i same = by_case (free i) refl
  where
    by_case : (o : Bool) → free i ≡ o → cond o (get_or image i 0) (get_or seen i 0) ≡ get_or image i 0
    by_case true is = refl
    by_case false is = same is

pub mixed_closed : (free : ℕ → Bool) (image seen : List ℕ) (i : ℕ) → free i ≡ false → mixed free image seen i ≡ get_or seen i 0
mixed_closed free image seen i is = rw is refl

-- so many of these bytes
abbrev pub mix : (ℕ → Bool) → List ℕ → List ℕ → ℕ → List ℕ
mix free image seen n = map (mixed free image seen) (range_with_len 0 n)

pub mix_at : (free : ℕ → Bool) (image seen : List ℕ) (n i : ℕ) → i < n → get_or (mix free image seen n) i 0 ≡ mixed free image seen i
mix_at free image seen n i lt = get_or-map-range_with_len (mixed free image seen) 0 n i i 0 lt (omega arith)

pub length-mix : (free : ℕ → Bool) (image seen : List ℕ) (n : ℕ) → length (mix free image seen n) ≡ n
length-mix free image seen n = length-map-range_with_len (mixed free image seen) 0 n

pub mix_bytes : (free : ℕ → Bool) (image seen : List ℕ) (n : ℕ) → AreBytes image → AreBytes seen → AreBytes (mix free image seen n)
mix_bytes free image seen n a b = bytes_below (mix free image seen n) (λ i. ⊎_elim
    (λ (lt : i < n). subst (λ (k : ℕ). k < 256) (sym (mix_at free image seen n i lt)) (mixed_bytes free image seen i a b))
    (λ (le : n ≤ i). subst (λ (k : ℕ). k < 256) (sym (past i le)) (omega arith))
    (cases_lt i n))
  where
    past : (i : ℕ) → n ≤ i → get_or (mix free image seen n) i 0 ≡ 0
    past i le = get_or_past (mix free image seen n) i 0 (omega (arith, length-mix free image seen n))
