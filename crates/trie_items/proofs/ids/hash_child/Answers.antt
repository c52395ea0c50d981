use Rattle.std.proofs.Common.{◌≡◌, ℕ, List, ◌++◌, ◌∷◌, [], ◌<◌, sym, ap, ◌∙◌, subst}
use Rattle.std.proofs.lemmas.List.{append-nil}
use Rattle.sha2.specs.Hashers.{Holds256}
use Rattle.base_model.proofs.UvarintLemmas.{uvarint-small}
use Rattle.trie_model.specs.Hashing.{child_form}
use Rattle.trie_items.proofs.ids.hash_child.Goals as goal

-- an index of one group, with the ID behind it
one_piece : (m x id : List ℕ) (i : ℕ) → i < 128 → x ≡ id → m ++ i ∷ (x ++ []) ≡ m ++ child_form (i, id)
one_piece m x id i h e = ap (λ x. m ++ i ∷ x) (append-nil x ∙ e) ∙ ap (λ n. m ++ (n ++ id)) (sym (uvarint-small i h))

pub returns : goal.returns
returns c = λ m h.
    subst (Holds256 c.update-2.new.self) (one_piece m c.copy_from_slice.new.self c.args.child.now.id c.args.child.now.index c.if-child-ge128.false c.copy_from_slice.ensures.after) (c.update-2.ensures m h)
