-- A node's string is its pieces, one behind the other.
use Rattle.std.proofs.Common.{◌≡◌, ℕ, List, Option, Bool, ◌++◌, ap, ◌∙◌, append_assoc, length}
use Rattle.std.specs.List.{flat_map}
use Rattle.base_model.specs.Uvarint.{uvarint}
use Rattle.trie_model.specs.Hashing.{digest_form, key_form, child_form, hashed_string}

-- the number of children, the children, the digest and the key behind a text are the node's string behind it
pub pieces : (o : List ℕ) (k : List Bool) (d : Option (List ℕ)) (cs : List (ℕ × List ℕ)) (n : ℕ) → n ≡ length cs
    → (((o ++ uvarint n) ++ flat_map child_form cs) ++ digest_form d) ++ key_form k ≡ o ++ hashed_string k d cs
unfolding hashed_string
pieces o k d cs n e =
    append_assoc ((o ++ uvarint n) ++ flat_map child_form cs) (digest_form d) (key_form k)
    ∙ append_assoc (o ++ uvarint n) (flat_map child_form cs) (digest_form d ++ key_form k)
    ∙ append_assoc o (uvarint n) (flat_map child_form cs ++ (digest_form d ++ key_form k))
    ∙ ap (λ n. o ++ (uvarint n ++ (flat_map child_form cs ++ (digest_form d ++ key_form k)))) e

-- the same, as one piece after the other is written
pub written : (o a b c e : List ℕ) (k : List Bool) (d : Option (List ℕ)) (cs : List (ℕ × List ℕ)) (n : ℕ) → n ≡ length cs
    → a ≡ o ++ uvarint n → b ≡ a ++ flat_map child_form cs → c ≡ b ++ digest_form d → e ≡ c ++ key_form k → e ≡ o ++ hashed_string k d cs
written o a b c e k d cs n l p q r s =
    s ∙ ap (λ x. x ++ key_form k) (r ∙ ap (λ x. x ++ digest_form d) (q ∙ ap (λ x. x ++ flat_map child_form cs) p)) ∙ pieces o k d cs n l
