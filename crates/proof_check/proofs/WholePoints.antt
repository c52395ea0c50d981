-- What a whole proof was read from, and what of the grammar is read.
use Rattle.std.proofs.Common.{◌≡◌, ℕ, suc, ◌<◌, ◌^◌, List, [], ◌∷◌, get_or, Result, Ok, Err, refl, ap, subst, ◌∙◌, arith}
use Rattle.std.specs.Prelude.{IfOk}
use Rattle.base_model.specs.Bytes.{AreBytes}
use Rattle.trie_model.specs.Bits.{IsWidth}
use Rattle.bit_keys.specs.declared.branch.Branch.{Branch}
use Rattle.bit_keys.specs.declared.branch.Branch.TheVariants.{B2, B4, B16, B256}
use Rattle.bit_keys.specs.Branch.{width_of}
use Rattle.trie_model.specs.Maps.{limits}
use Rattle.trie_model.proofs.StoredNodes.{limits-FitsLimits}
use Rattle.std.specs.List.{AllByRecursion}
use Rattle.proof_model.specs.Paths.{ProofNode, IsProofNode}
use Rattle.proof_model.specs.Proofs.{PointProof}
use Rattle.proof_model.specs.Wire.{IsPathNode, IsPoint, point_form, point_of}
use Rattle.proof_model.proofs.WirePoints.{spelled_points_are_read, read_points_are_spelled}
use Rattle.proof_check.specs.declared.wire_fault.WireFault.{WireFault}
use Rattle.proof_check.specs.ReaderAnswers.{Gives}

-- each factor has a width
pub width_of-IsWidth : (b : Branch) → IsWidth (width_of b)
width_of-IsWidth B2 = (omega arith, (8, refl))
width_of-IsWidth B4 = (omega arith, (4, refl))
width_of-IsWidth B16 = (omega arith, (2, refl))
width_of-IsWidth B256 = (omega arith, (1, refl))

-- a slice of bytes holds bytes
pub bytes_are : (bs : List ℕ) → ((i : ℕ) → get_or bs i 0 < 256) → AreBytes bs
bytes_are [] h = tt
bytes_are (b ∷ bs) h = (h 0, bytes_are bs (λ i. h (suc i)))

-- the longest value has a length that is read
pub short_values : limits.value < 2 ^ 64
short_values = omega arith

-- a proof that was read is in the grammar, and is spelled so
pub is_found : (b : Branch) (bytes : List ℕ) (r : Result PointProof WireFault) → ((i : ℕ) → get_or bytes i 0 < 256) → Gives (λ p. p) r (point_of limits (width_of b) bytes) → IfOk r (λ p. IsPoint limits (width_of b) p × (bytes ≡ point_form p))
is_found b bytes (Ok p) small h = read_points_are_spelled limits (width_of b) bytes p (bytes_are bytes small) h
is_found b bytes (Err e) small h = tt

-- the nodes of a path in the grammar are nodes of proofs
pub proof_nodes : (w : ℕ) (ns : List ProofNode) → AllByRecursion (IsPathNode limits w) ns → AllByRecursion (IsProofNode w) ns
proof_nodes w [] h = tt
proof_nodes w (n ∷ ns) h = (h.0.node, proof_nodes w ns h.1)

-- so are those of a proof that was read
pub has_nodes : (b : Branch) (bytes : List ℕ) (r : Result PointProof WireFault) → IfOk r (λ p. IsPoint limits (width_of b) p × (bytes ≡ point_form p)) → IfOk r (λ p. AllByRecursion (IsProofNode (width_of b)) p.path)
has_nodes b bytes (Ok p) h = proof_nodes (width_of b) p.path h.0.path.nodes
has_nodes b bytes (Err e) h = tt

-- the spelling of a proof is read, unless memory runs out
pub is_given : (b : Branch) (bytes : List ℕ) (r : Result PointProof WireFault) → Gives (λ p. p) r (point_of limits (width_of b) bytes) → (p : PointProof) → IsPoint limits (width_of b) p → bytes ≡ point_form p → Gives (λ p. p) r (Ok p)
is_given b bytes r h p fits e =
    subst (λ s. Gives (λ p. p) r s) (ap (point_of limits (width_of b)) e ∙ spelled_points_are_read limits (width_of b) p limits-FitsLimits short_values (width_of-IsWidth b) fits) h
