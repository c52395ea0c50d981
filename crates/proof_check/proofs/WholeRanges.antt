-- What a whole range proof was read from, and what of the grammar is read.
use Rattle.std.proofs.Common.{◌≡◌, ℕ, ◌<◌, List, [], ◌∷◌, ◌++◌, length, get_or, Result, Ok, Err, ap, subst, ◌∙◌}
use Rattle.std.specs.Prelude.{IfOk}
use Rattle.std.specs.List.{AllByRecursion, flat_map}
use Rattle.std.proofs.lemmas.List.Concat.{flat_map-cons}
use Rattle.base_model.specs.Bytes.{AreBytes}
use Rattle.base_model.specs.Uvarint.{uvarint}
use Rattle.base_model.specs.Fields.{flag_form}
use Rattle.batch_model.specs.Sized.{sized_form}
use Rattle.bit_keys.specs.declared.branch.Branch.{Branch}
use Rattle.bit_keys.specs.Branch.{width_of}
use Rattle.trie_model.specs.Maps.{limits}
use Rattle.trie_model.proofs.StoredNodes.{limits-FitsLimits}
use Rattle.proof_model.specs.Proofs.{Pair}
use Rattle.proof_model.specs.RangeProofs.{RangeProof}
use Rattle.proof_model.specs.RangeLaws.{HasKey, IsRangeClaim}
use Rattle.proof_model.specs.RangeWire.{IsWirePair, IsRangeProof, pair_form, pairs_form, range_form, range_of}
use Rattle.proof_model.specs.Wire.{path_form}
use Rattle.proof_model.proofs.WireRanges.{spelled_ranges_are_read, read_ranges_are_spelled}
use Rattle.proof_check.specs.declared.wire_fault.WireFault.{WireFault}
use Rattle.proof_check.specs.ReaderAnswers.{Gives}
use Rattle.proof_check.proofs.ClaimItems.{All-front, All-back}
use Rattle.proof_check.proofs.WholePoints.{width_of-IsWidth, bytes_are, short_values, proof_nodes}

-- a proof that was read is in the grammar, and is spelled so
pub is_found : (b : Branch) (bytes : List ℕ) (r : Result RangeProof WireFault) → ((i : ℕ) → get_or bytes i 0 < 256) → Gives (λ p. p) r (range_of limits (width_of b) bytes) → IfOk r (λ p. IsRangeProof limits (width_of b) p × (bytes ≡ range_form p))
is_found b bytes (Ok p) small h = read_ranges_are_spelled limits (width_of b) bytes p (bytes_are bytes small) h
is_found b bytes (Err e) small h = tt

-- a number that is a byte
abbrev IsByte : ℕ → Type 0
IsByte b = b < 256

-- the keys of pairs that are spelled are bytes
have_keys : (es : List Pair) → AreBytes (flat_map pair_form es) → AllByRecursion (IsWirePair limits) es → AllByRecursion (HasKey limits) es
have_keys [] h fits = tt
have_keys (e ∷ es) h fits =
    let g : AreBytes (pair_form e ++ flat_map pair_form es) = subst AreBytes (flat_map-cons pair_form e es) h in
    let k = All-front IsByte (sized_form e.0) (sized_form e.1) (All-front IsByte (pair_form e) (flat_map pair_form es) g) in
    (record { bytes = All-back IsByte (uvarint (length e.0)) e.0 k; short = fits.0.key }, have_keys es (All-back IsByte (pair_form e) (flat_map pair_form es) g) fits.1)

-- a proof that was read is one that a check asks for
pub is_claim : (b : Branch) (bytes : List ℕ) (r : Result RangeProof WireFault) → ((i : ℕ) → get_or bytes i 0 < 256) → IfOk r (λ p. IsRangeProof limits (width_of b) p × (bytes ≡ range_form p)) → IfOk r (λ p. IsRangeClaim limits (width_of b) p)
is_claim b bytes (Ok p) small h =
    let paths = path_form p.start ++ path_form p.end in
    let whole : AreBytes (range_form p) = subst AreBytes h.1 (bytes_are bytes small) in
    let pairs = All-front IsByte (pairs_form p.pairs) paths (All-back IsByte (flag_form p.cut) (pairs_form p.pairs ++ paths) whole.1.1) in
    record {
      listed = have_keys p.pairs (All-back IsByte (uvarint (length p.pairs)) (flat_map pair_form p.pairs) pairs) h.0.pairs.each;
      start = proof_nodes (width_of b) p.start h.0.start.nodes;
      end = proof_nodes (width_of b) p.end h.0.end.nodes;
    }
is_claim b bytes (Err e) small h = tt

-- the spelling of a proof is read, unless memory runs out
pub is_given : (b : Branch) (bytes : List ℕ) (r : Result RangeProof WireFault) → Gives (λ p. p) r (range_of limits (width_of b) bytes) → (p : RangeProof) → IsRangeProof limits (width_of b) p → bytes ≡ range_form p → Gives (λ p. p) r (Ok p)
is_given b bytes r h p fits e =
    subst (λ s. Gives (λ p. p) r s) (ap (range_of limits (width_of b)) e ∙ spelled_ranges_are_read limits (width_of b) p limits-FitsLimits short_values (width_of-IsWidth b) fits) h
