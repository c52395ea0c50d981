-- The laws of equality and order of keys.
use Rattle.std.specs.Prelude.{◌≡◌, Bool, true, false, List, [], ◌∷◌, refl, Some}
use Rattle.std.proofs.Common.{ap, subst}
use Rattle.std.specs.Ordering.{eq_by_cmp}
use Rattle.std.specs.Cmp.{IsEquivalence, IsTotalOrder, IsPartialOrder, bool_cmp_total, both_ways, po}
use Rattle.std.proofs.lemmas.Cmp.{lists_total}
use Rattle.trie_model.proofs.Prefixes.{same_key-is, same_key-itself}
use Rattle.trie_model.specs.Bits.{key_cmp, same_key}

-- keys are ordered in one line
pub key_cmp_total : IsTotalOrder key_cmp
key_cmp_total = lists_total bool_cmp_total

-- what is one key
pub same_key_equiv : IsEquivalence same_key
same_key_equiv = record {
  refl = same_key-itself;
  symm = λ x y. both_ways (same_key x y) (same_key y x) (λ e. subst (λ z. same_key z x ≡ true) (same_key-is x y e) (same_key-itself x)) (λ e. subst (λ z. same_key z y ≡ true) (same_key-is y x e) (same_key-itself y));
  congr = λ x y z e. ap (λ k. same_key k z) (same_key-is x y e);
}

-- one key is what the order does not tell apart
pub same_key_ties : (x y : List Bool) → same_key x y ≡ eq_by_cmp key_cmp x y
same_key_ties [] [] = refl
same_key_ties [] (y ∷ b) = refl
same_key_ties (x ∷ a) [] = refl
same_key_ties (true ∷ a) (true ∷ b) = same_key_ties a b
same_key_ties (false ∷ a) (false ∷ b) = same_key_ties a b
same_key_ties (true ∷ a) (false ∷ b) = refl
same_key_ties (false ∷ a) (true ∷ b) = refl

-- and `<` and `==` go together
pub key_po : IsPartialOrder same_key (λ x y. Some (key_cmp x y))
key_po = po key_cmp_total same_key_ties
