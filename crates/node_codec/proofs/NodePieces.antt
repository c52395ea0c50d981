-- A node's form is its pieces, one behind the other.
use Rattle.std.proofs.Common.{◌≡◌, ℕ, List, Option, ◌++◌, ap, ◌∙◌, append_assoc, length}
use Rattle.std.specs.List.{flat_map}
use Rattle.base_model.specs.Uvarint.{uvarint}
use Rattle.trie_model.specs.Hashing.{digest_form}
use Rattle.trie_model.specs.StoredNode.{StoredChild, stored_child_form}

-- the pieces, as one after the other is written
pub written : (o a b e : List ℕ) (d : Option (List ℕ)) (cs : List StoredChild) (n : ℕ) → n ≡ length cs
    → a ≡ o ++ digest_form d → b ≡ a ++ uvarint n → e ≡ b ++ flat_map stored_child_form cs
    → e ≡ o ++ (digest_form d ++ (uvarint (length cs) ++ flat_map stored_child_form cs))
written o a b e d cs n l p q r =
    r ∙ ap (λ x. x ++ flat_map stored_child_form cs) (q ∙ ap (λ x. x ++ uvarint n) p)
    ∙ append_assoc (o ++ digest_form d) (uvarint n) (flat_map stored_child_form cs)
    ∙ append_assoc o (digest_form d) (uvarint n ++ flat_map stored_child_form cs)
    ∙ ap (λ n. o ++ (digest_form d ++ (uvarint n ++ flat_map stored_child_form cs))) l
