-- A spelling that is appended group by group.
use Rattle.std.proofs.Common.{◌≡◌, ℕ, ◌+◌, ◌/◌, ◌%◌, ◌<◌, ◌≤◌, List, [], ◌∷◌, ◌++◌, sym, ap, ◌∙◌, append_assoc}
use Rattle.base_model.specs.Uvarint.{uvarint}
use Rattle.base_model.proofs.UvarintLemmas.{uvarint-small, uvarint-big}

-- behind the old bytes stand groups of n's spelling, and the spelling of r is what they lack of it
pub record IsBegun (old now : List ℕ) (r n : ℕ) : Type 0 where
  pub groups : List ℕ
  pub behind : now ≡ old ++ groups
  pub lacks : groups ++ uvarint r ≡ uvarint n

-- one more group
pub group_more : (old now : List ℕ) (r n : ℕ) → 128 ≤ r → IsBegun old now r n → IsBegun old (now ++ (128 + r % 128) ∷ []) (r / 128) n
group_more old now r n big begun = record {
  groups = begun.groups ++ (128 + r % 128) ∷ [];
  behind = ap (λ x. x ++ (128 + r % 128) ∷ []) begun.behind ∙ append_assoc old begun.groups ((128 + r % 128) ∷ []);
  lacks = append_assoc begun.groups ((128 + r % 128) ∷ []) (uvarint (r / 128)) ∙ ap (λ x. begun.groups ++ x) (sym (uvarint-big r big)) ∙ begun.lacks;
}

-- the last group ends the spelling
pub group_last : (old now : List ℕ) (r n : ℕ) → r < 128 → IsBegun old now r n → now ++ r ∷ [] ≡ old ++ uvarint n
group_last old now r n small begun =
    ap (λ x. x ++ r ∷ []) begun.behind
    ∙ append_assoc old begun.groups (r ∷ [])
    ∙ ap (λ x. old ++ (begun.groups ++ x)) (sym (uvarint-small r small))
    ∙ ap (λ x. old ++ x) begun.lacks
