-- One pair is listed at least, so no pair asked for and one pair asked for are the same.
use Rattle.std.proofs.Common.{◌≡◌, ℕ, zero, suc, List, [], ◌∷◌, length, refl, ap, arith}
use Rattle.std.specs.Prelude.{max, nat_lt}
use Rattle.trie_model.specs.Maps.{Map}
use Rattle.range_model.specs.Ranges.{Range}
use Rattle.proof_model.specs.Proofs.{Pair, pair_size}
use Rattle.proof_model.specs.RangeProofs.{range_proof, proof_of_pairs, pairs_in}
use Rattle.proof_model.specs.TakenEntries.{taken}

max_one : (n : ℕ) → max (suc n) 1 ≡ suc n
max_one n = omega arith

taken_one : (n z : ℕ) (es : List Pair) → taken pair_size (max n 1) z es ≡ taken pair_size n z es
unfolding taken
taken_one zero z [] = refl
taken_one zero z (e ∷ es) = refl
taken_one (suc n) z es = ap (λ k. taken pair_size k z es) (max_one n)

pub range_proof-one : (w : ℕ) (m : Map) (r : Range) (n z : ℕ) → range_proof w m r (max n 1) z ≡ range_proof w m r n z
range_proof-one w m r n z = ap (λ (es : List Pair). proof_of_pairs w m r (nat_lt (length es) (length (pairs_in m r))) es) (taken_one n z (pairs_in m r))
