use Rattle.std.proofs.Common.{◌≡◌, ℕ, List, ◌++◌, ◌∷◌, [], ◌+◌, ◌/◌, ◌%◌, sym, ap, ◌∙◌, arith, append_assoc, subst}
use Rattle.sha2.specs.Hashers.{Holds256}
use Rattle.base_model.proofs.UvarintLemmas.{uvarint-small, uvarint-big}
use Rattle.base_model.specs.Uvarint.{uvarint}
use Rattle.trie_items.proofs.ids.hash_groups.Goals as goal

more : (d m : List ℕ) (r n : ℕ) → uvarint r ≡ (128 + r % 128) ∷ uvarint (r / 128) → d ++ uvarint r ≡ m ++ uvarint n → (d ++ (128 + r % 128) ∷ []) ++ uvarint (r / 128) ≡ m ++ uvarint n
more d m r n e h = append_assoc d ((128 + r % 128) ∷ []) (uvarint (r / 128)) ∙ ap (λ x. d ++ x) (sym e) ∙ h

last : (d m : List ℕ) (r n : ℕ) → uvarint r ≡ r ∷ [] → d ++ uvarint r ≡ m ++ uvarint n → d ++ r ∷ [] ≡ m ++ uvarint n
last d m r n e h = ap (λ x. d ++ x) (sym e) ∙ h

pub loop-rest-preserved : goal.loop-rest-preserved
loop-rest-preserved c = λ m h.
    let i = c.loop-rest.invariant m h in
    (i.0 ++ (128 + c.loop-rest.rest % 128) ∷ [], c.update.ensures i.0 i.1, more i.0 m c.loop-rest.rest c.args.number (uvarint-big c.loop-rest.rest (omega arith)) i.2)

pub returns : goal.returns
returns c = λ m h.
    let i = c.loop-rest.invariant m h in
    subst (λ x. Holds256 c.update-2.new.self x) (last i.0 m c.loop-rest.rest c.args.number (uvarint-small c.loop-rest.rest (omega arith)) i.2) (c.update-2.ensures i.0 i.1)
