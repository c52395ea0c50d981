use Rattle.std.proofs.Common.{◌≡◌, ℕ, ◌++◌, ◌∷◌, [], ◌+◌, ◌/◌, ◌%◌, ◌<◌, ◌≤◌, sym, ap, ◌∙◌, arith, subst}
use Rattle.sha2.specs.Hashers.{Holds256}
use Rattle.base_model.proofs.UvarintLemmas.{uvarint-small, uvarint-big}
use Rattle.base_model.specs.Uvarint.{uvarint}
use Rattle.trie_items.proofs.ids.hash_uvarint.Goals as goal

two_groups : (n : ℕ) → 128 ≤ n → n < 16384 → uvarint n ≡ (128 + n % 128) ∷ (n / 128) ∷ []
two_groups n h k = uvarint-big n h ∙ ap (λ x. (128 + n % 128) ∷ x) (uvarint-small (n / 128) (omega arith))

pub returns-then-number-lt128 : goal.returns-then-number-lt128
returns-then-number-lt128 c = λ m h. subst (λ x. Holds256 c.update.new.self (m ++ x)) (sym (uvarint-small c.args.number c.if-number-lt128.true)) (c.update.ensures m h)

pub returns-then-number : goal.returns-then-number
returns-then-number c = λ m h. subst (λ x. Holds256 c.update-then-number.new.self (m ++ x)) (sym (two_groups c.args.number (omega arith) (omega arith))) (c.update-then-number.ensures m h)
