-- How many bytes a spelling has.
use Rattle.std.proofs.Common.{◌≡◌, ℕ, zero, suc, ◌+◌, ◌/◌, ◌^◌, ◌<◌, ◌≤◌, length, arith, ap, inl, inr}
use Rattle.std.proofs.Math.Nat.{pow-suc}
use Rattle.std.proofs.lemmas.Bool.{cases_lt}
use Rattle.base_model.specs.Uvarint.{uvarint}
use Rattle.base_model.proofs.UvarintLemmas.{uvarint-small, uvarint-big}

-- a small number has one byte
pub length-small : (n : ℕ) → n < 128 → length (uvarint n) ≡ 1
length-small n h = ap length (uvarint-small n h)

-- a big one has a byte more than what is left of it
pub length-big : (n : ℕ) → 128 ≤ n → length (uvarint n) ≡ 1 + length (uvarint (n / 128))
length-big n h = let e = ap length (uvarint-big n h) in omega (arith, e)

-- a number below so many groups has as many bytes at most
few_groups : (k n : ℕ) → n < 128 ^ suc k → length (uvarint n) ≤ suc k
few_groups zero n h = omega (arith, length-small n (omega arith))
few_groups (suc k) n h = elim (cases_lt n 128) [
  | inl l ↦ omega (arith, length-small n l)
  | inr l ↦ omega (arith, length-big n l, few_groups k (n / 128) (omega (arith, pow-suc 128 (suc k))))
]

-- a number of 64 bits has at most ten bytes
pub length-ten : (n : ℕ) → n < 2 ^ 64 → length (uvarint n) ≤ 10
length-ten n h = few_groups 9 n (omega arith)
