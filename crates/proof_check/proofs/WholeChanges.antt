-- What a whole change proof was read from, and what of the grammar is read.
use Rattle.std.proofs.Common.{◌≡◌, ℕ, ◌<◌, List, [], ◌∷◌, ◌++◌, length, get_or, Result, Ok, Err, ap, subst, ◌∙◌}
use Rattle.std.specs.Prelude.{IfOk}
use Rattle.std.specs.List.{AllByRecursion, flat_map}
use Rattle.std.proofs.lemmas.List.Concat.{flat_map-cons}
use Rattle.base_model.specs.Bytes.{AreBytes}
use Rattle.base_model.specs.Uvarint.{uvarint}
use Rattle.base_model.specs.Fields.{flag_form}
use Rattle.batch_model.specs.Sized.{sized_form}
use Rattle.batch_model.specs.Batch.{Change, IsChange, change_form, value_form}
use Rattle.bit_keys.specs.declared.branch.Branch.{Branch}
use Rattle.bit_keys.specs.Branch.{width_of}
use Rattle.trie_model.specs.Maps.{limits}
use Rattle.trie_model.proofs.StoredNodes.{limits-FitsLimits}
use Rattle.proof_model.specs.ChangeProofs.{ChangeProof}
use Rattle.proof_model.specs.ChangeLaws.{IsChangeClaim}
use Rattle.proof_model.specs.ChangeWire.{IsChangeProof, changes_form, changes_of}
use Rattle.proof_model.specs.RangeLaws.{IsKey}
use Rattle.proof_model.specs.Wire.{counted_form, path_form}
use Rattle.proof_model.proofs.WireChanges.{spelled_changes_are_read, read_changes_are_spelled}
use Rattle.proof_check.specs.declared.wire_fault.WireFault.{WireFault}
use Rattle.proof_check.specs.ReaderAnswers.{Gives}
use Rattle.proof_check.proofs.ClaimItems.{All-front, All-back}
use Rattle.proof_check.proofs.WholePoints.{width_of-IsWidth, bytes_are, short_values, proof_nodes}

-- a proof that was read is in the grammar, and is spelled so
pub is_found : (b : Branch) (bytes : List ℕ) (r : Result ChangeProof WireFault) → ((i : ℕ) → get_or bytes i 0 < 256) → Gives (λ p. p) r (changes_of limits (width_of b) bytes) → IfOk r (λ p. IsChangeProof limits (width_of b) p × (bytes ≡ changes_form p))
is_found b bytes (Ok p) small h = read_changes_are_spelled limits (width_of b) bytes p (bytes_are bytes small) h
is_found b bytes (Err e) small h = tt

-- a number that is a byte
abbrev IsByte : ℕ → Type 0
IsByte b = b < 256

-- the keys of changes that are spelled are bytes
have_keys : (cs : List Change) → AreBytes (flat_map change_form cs) → AllByRecursion (IsChange limits) cs → AllByRecursion (λ (c : Change). IsKey limits c.key) cs
have_keys [] h fits = tt
have_keys (c ∷ cs) h fits =
    let g : AreBytes (change_form c ++ flat_map change_form cs) = subst AreBytes (flat_map-cons change_form c cs) h in
    let k = All-front IsByte (sized_form c.key) (value_form c.value) (All-front IsByte (change_form c) (flat_map change_form cs) g) in
    (record { bytes = All-back IsByte (uvarint (length c.key)) c.key k; short = fits.0.key }, have_keys cs (All-back IsByte (change_form c) (flat_map change_form cs) g) fits.1)

-- a proof that was read is one that a check asks for
pub is_claim : (b : Branch) (bytes : List ℕ) (r : Result ChangeProof WireFault) → ((i : ℕ) → get_or bytes i 0 < 256) → IfOk r (λ p. IsChangeProof limits (width_of b) p × (bytes ≡ changes_form p)) → IfOk r (λ p. IsChangeClaim limits (width_of b) p)
is_claim b bytes (Ok p) small h =
    let paths = path_form p.start ++ path_form p.end in
    let listed = counted_form change_form p.changes in
    let whole : AreBytes (changes_form p) = subst AreBytes h.1 (bytes_are bytes small) in
    let changes = All-front IsByte listed paths (All-back IsByte (flag_form p.cut) (listed ++ paths) whole.1.1) in
    record {
      listed = have_keys p.changes (All-back IsByte (uvarint (length p.changes)) (flat_map change_form p.changes) changes) h.0.changes.each;
      start = proof_nodes (width_of b) p.start h.0.start.nodes;
      end = proof_nodes (width_of b) p.end h.0.end.nodes;
    }
is_claim b bytes (Err e) small h = tt

-- the spelling of a proof is read, unless memory runs out
pub is_given : (b : Branch) (bytes : List ℕ) (r : Result ChangeProof WireFault) → Gives (λ p. p) r (changes_of limits (width_of b) bytes) → (p : ChangeProof) → IsChangeProof limits (width_of b) p → bytes ≡ changes_form p → Gives (λ p. p) r (Ok p)
is_given b bytes r h p fits e =
    subst (λ s. Gives (λ p. p) r s) (ap (changes_of limits (width_of b)) e ∙ spelled_changes_are_read limits (width_of b) p limits-FitsLimits short_values (width_of-IsWidth b) fits) h
