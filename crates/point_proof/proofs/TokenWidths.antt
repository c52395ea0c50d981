-- The widths of tokens.
use Rattle.std.proofs.Common.{◌≡◌, ℕ, ◌+◌, ◌^◌, ◌<◌, ◌≤◌, List, Bool, length, take, drop, refl, sym, ap, ◌∙◌, arith, subst, length-drop}
use Rattle.std.proofs.lemmas.List.{length-take-le}
use Rattle.base_model.proofs.Bits.{number-small}
use Rattle.trie_model.specs.Bits.{token_at}
use Rattle.bit_keys.specs.declared.branch.Branch.{Branch}
use Rattle.bit_keys.specs.declared.branch.Branch.TheVariants.{B2, B4, B16, B256}
use Rattle.bit_keys.specs.Branch.{width_of, factor_of}
use Rattle.proof_check.proofs.WholePoints.{width_of-IsWidth}

pub width_pos : (b : Branch) → 0 < width_of b
width_pos b = (width_of-IsWidth b).0

factor_is : (b : Branch) → factor_of b ≡ 2 ^ width_of b
factor_is B2 = refl
factor_is B4 = refl
factor_is B16 = refl
factor_is B256 = refl

-- a token is below the factor
pub token_small : (b : Branch) (at : ℕ) (k : List Bool) → at + width_of b ≤ length k → token_at (width_of b) at k < factor_of b
token_small b at k l =
    let size : length (take (width_of b) (drop at k)) ≡ width_of b = length-take-le (width_of b) (drop at k) (omega (arith, l, length-drop at k)) in
    subst (λ n. token_at (width_of b) at k < n) (ap (λ n. 2 ^ n) size ∙ sym (factor_is b)) (number-small (take (width_of b) (drop at k)))
