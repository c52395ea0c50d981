-- What is put above all keys comes last.
use Rattle.std.proofs.Common.{◌≡◌, ℕ, List, [], ◌∷◌, ◌++◌, refl, sym, ap, ◌∙◌, subst, append_assoc, Ordering, Less, Greater}
use Rattle.std.specs.List.{AllByRecursion}
use Rattle.std.specs.Ordering.{ordering_reverse}
use Rattle.std.specs.FinMap.Entries.{put, by_order}
use Rattle.std.proofs.lemmas.Cmp.{nat_list_cmp_total}
use Rattle.base_model.specs.Bytes.{bytes_cmp}
use Rattle.trie_model.proofs.Entries.{IsAscending}
use Rattle.trie_model.proofs.PlainEntries.{ascending_before}

pub put_last : (es : List (List ℕ × List ℕ)) (k d : List ℕ) → AllByRecursion (λ (e : List ℕ × List ℕ). bytes_cmp e.0 k ≡ Less) es → put bytes_cmp k d es ≡ es ++ (k, d) ∷ []
put_last [] k d h = refl
put_last (e ∷ es) k d h =
    let above : bytes_cmp k e.0 ≡ Greater = nat_list_cmp_total.antisymm k e.0 ∙ ap ordering_reverse h.0 in
    ap (λ (o : Ordering). by_order o ((k, d) ∷ e ∷ es) ((e.0, d) ∷ es) (e ∷ put bytes_cmp k d es)) above ∙ ap (λ (r : List (List ℕ × List ℕ)). e ∷ r) (put_last es k d h.1)

-- entries are copied one after another
pub put_next : (es rest whole : List (List ℕ × List ℕ)) (k d : List ℕ) → IsAscending whole → es ++ (k, d) ∷ rest ≡ whole → put bytes_cmp k d es ++ rest ≡ whole
put_next es rest whole k d ascends is =
    ap (λ (r : List (List ℕ × List ℕ)). r ++ rest) (put_last es k d (ascending_before es (k, d) rest (subst IsAscending (sym is) ascends)))
    ∙ append_assoc es ((k, d) ∷ []) rest
    ∙ is
