-- The numbers of a chain, gathered from its end.
use Rattle.std.proofs.Common.{◌≡◌, ℕ, List, [], ◌∷◌, ◌++◌, reverse, refl, sym, ap, ◌∙◌, append_assoc}
use Rattle.std.proofs.lemmas.List.{map-append, reverse-append}
use Rattle.view_stack.specs.declared.state.ViewId.{ViewId}
use Rattle.view_stack.specs.ViewAnswers.{numbers}

pub reverse-numbers-push : (ids : List ViewId) (id : ViewId) → reverse (numbers (ids ++ id ∷ [])) ≡ id.number ∷ reverse (numbers ids)
reverse-numbers-push ids id = ap reverse (map-append (λ (i : ViewId). i.number) ids (id ∷ [])) ∙ reverse-append (numbers ids) (id.number ∷ [])

-- one number more is gathered
pub gathered : (whole path below : List ℕ) (n : ℕ) (ids : List ViewId) (id : ViewId) → whole ≡ path ++ reverse (numbers ids) → path ≡ below ++ n ∷ [] → id.number ≡ n → whole ≡ below ++ reverse (numbers (ids ++ id ∷ []))
gathered whole path below n ids id e step own =
    e ∙ (ap (λ p. p ++ reverse (numbers ids)) step ∙ (append_assoc below (n ∷ []) (reverse (numbers ids)) ∙ ap (λ l. below ++ l) (ap (λ k. k ∷ reverse (numbers ids)) (sym own) ∙ sym (reverse-numbers-push ids id))))

pub numbers-reverse : (ids : List ViewId) → numbers (reverse ids) ≡ reverse (numbers ids)
numbers-reverse [] = refl
numbers-reverse (x ∷ ids) =
    ap numbers (reverse-append (x ∷ []) ids)
    ∙ (map-append (λ (i : ViewId). i.number) (reverse ids) (x ∷ []) ∙ (ap (λ l. l ++ x.number ∷ []) (numbers-reverse ids) ∙ sym (reverse-append (x.number ∷ []) (numbers ids))))
