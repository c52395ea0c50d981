-- What a whole node was read from, and what of the grammar is read.
use Rattle.std.proofs.Common.{◌≡◌, ℕ, suc, ◌<◌, List, [], ◌∷◌, get_or, Result, Ok, Err, refl, ap, subst, ◌∙◌, arith}
use Rattle.std.specs.Prelude.{IfOk}
use Rattle.base_model.specs.Bytes.{AreBytes}
use Rattle.trie_model.specs.Bits.{IsWidth}
use Rattle.bit_keys.specs.declared.branch.Branch.{Branch}
use Rattle.bit_keys.specs.declared.branch.Branch.TheVariants.{B2, B4, B16, B256}
use Rattle.bit_keys.specs.Branch.{width_of}
use Rattle.trie_model.specs.Maps.{limits}
use Rattle.trie_model.specs.StoredNode.{StoredNode, IsStored, stored_form, stored_node}
use Rattle.trie_model.proofs.StoredNodes.{limits-FitsLimits, spelled_is_read, read_is_spelled}
use Rattle.node_codec.specs.declared.fault.NodeFault.{NodeFault}
use Rattle.node_codec.specs.StoredNodes.{Gives}

-- each factor has a width
width_of-IsWidth : (b : Branch) → IsWidth (width_of b)
width_of-IsWidth B2 = (omega arith, (8, refl))
width_of-IsWidth B4 = (omega arith, (4, refl))
width_of-IsWidth B16 = (omega arith, (2, refl))
width_of-IsWidth B256 = (omega arith, (1, refl))

-- a slice of bytes holds bytes
bytes_are : (bs : List ℕ) → ((i : ℕ) → get_or bs i 0 < 256) → AreBytes bs
bytes_are [] h = tt
bytes_are (b ∷ bs) h = (h 0, bytes_are bs (λ i. h (suc i)))

-- a node that was read is in the grammar, and is spelled so
pub is_found : (b : Branch) (bytes : List ℕ) (r : Result StoredNode NodeFault) → ((i : ℕ) → get_or bytes i 0 < 256) → Gives (λ n. n) r (stored_node limits (width_of b) bytes) → IfOk r (λ n. IsStored limits (width_of b) n × (bytes ≡ stored_form n))
is_found b bytes (Ok n) small h = read_is_spelled limits (width_of b) bytes n (width_of-IsWidth b) (bytes_are bytes small) h
is_found b bytes (Err e) small h = tt

-- the spelling of a node is read, unless memory runs out
pub is_given : (b : Branch) (bytes : List ℕ) (r : Result StoredNode NodeFault) → Gives (λ n. n) r (stored_node limits (width_of b) bytes) → (n : StoredNode) → IsStored limits (width_of b) n → bytes ≡ stored_form n → Gives (λ n. n) r (Ok n)
is_given b bytes r h n fits e = subst (λ s. Gives (λ n. n) r s) (ap (stored_node limits (width_of b)) e ∙ spelled_is_read limits (width_of b) n limits-FitsLimits (width_of-IsWidth b) fits) h
