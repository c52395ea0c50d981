use Rattle.std.proofs.Common.{◌≡◌, ℕ, List, ◌++◌, ◌∷◌, [], ◌≤◌, length, Some, sym, ap, ◌∙◌, arith, append_assoc, subst}
use Rattle.std.specs.Option.{option_copied}
use Rattle.sha2.specs.Hashers.{Holds256}
use Rattle.base_model.proofs.UvarintLemmas.{uvarint-small}
use Rattle.trie_model.specs.Hashing.{digest_form}
use Rattle.trie_items.proofs.ids.hash_digest.Goals as goal

-- the flag and a length of one group, with the digest behind them
flagged : (m d b : List ℕ) → length d ≤ 32 → b ≡ d → (m ++ 1 ∷ length b ∷ []) ++ b ≡ m ++ digest_form (Some d)
flagged m d b l e =
    append_assoc m (1 ∷ length b ∷ []) b
    ∙ ap (λ b. m ++ 1 ∷ length b ∷ b) e
    ∙ ap (λ x. m ++ (1 ∷ (x ++ d))) (sym (uvarint-small (length d) (omega arith)))

pub returns-in-Some : goal.returns-in-Some
returns-in-Some c = λ m h.
    let e = flagged m c.in-Some.digest.now c.bytes-bytes.result.now c.bytes-bytes.ensures.short c.bytes-bytes.ensures.value in
    subst (Holds256 c.update-in-Some-2.new.self) (e ∙ ap (λ d. m ++ digest_form (option_copied d)) (sym c.in-Some.is)) (c.update-in-Some-2.ensures _ (c.update-in-Some.ensures m h))
