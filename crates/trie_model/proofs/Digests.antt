-- The digests of values.
use Rattle.std.proofs.Common.{◌≡◌, ℕ, ◌<◌, ◌≤◌, Bool, true, false, cond, List, length, refl, ap, arith, leb, ltb}
use Rattle.std.proofs.lemmas.Bool.Decides.{nat_tests}
use Rattle.sha2.specs.Sha256.{sha256}
use Rattle.sha2.proofs.Facts256.{length-sha256}
use Rattle.trie_model.specs.Hashing.{hash_length, value_digest}

-- a value below 32 bytes is its own digest, and a longer one has its hash for one
pub data Digested (v : List ℕ) : Type 0 where
  short : length v < hash_length → value_digest v ≡ v → Digested v
  long : leb hash_length (length v) ≡ true → value_digest v ≡ sha256 v → Digested v

-- one of the two holds
pub digested : (v : List ℕ) → Digested v
unfolding value_digest
digested v = go (ltb (length v) hash_length) refl
  where
    go : (b : Bool) → ltb (length v) hash_length ≡ b → Digested v
    go true e = short (grind (arith, nat_tests)) (ap (λ b. cond b v (sha256 v)) e)
    go false e = long (grind (arith, nat_tests)) (ap (λ b. cond b v (sha256 v)) e)

-- a digest has at most 32 bytes
pub length-value_digest : (v : List ℕ) → length (value_digest v) ≤ hash_length
length-value_digest v = go (digested v)
  where
    go : Digested v → length (value_digest v) ≤ hash_length
    go (short l e) = omega (arith, l, ap length e)
    go (long l e) = omega (arith, ap length e, length-sha256 v)
