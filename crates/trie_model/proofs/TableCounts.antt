-- A table has as many nodes as strings are hashed for its root.
use Rattle.std.proofs.Common.{◌≡◌, ℕ, zero, suc, ◌^◌, ◌≤◌, List, [], ◌∷◌, ◌++◌, length, length-append, sym, ap, ◌∙◌, arith, refl}
use Rattle.std.specs.List.{flat_map}
use Rattle.trie_model.specs.Ids.{node_key, below, stub_at, numbers_from}
use Rattle.trie_model.specs.Items.{Item, AreValues}
use Rattle.trie_model.specs.Strings.{strings, strings_below, descend}
use Rattle.trie_model.specs.Table.{items_table}
use Rattle.trie_model.proofs.Lookups.{no_stub_at}
use Rattle.trie_model.proofs.Tables.{AreValues-below, table-unfold, rows_below, no_table}
use Rattle.trie_model.proofs.Unfold.{below_shrinks}
use Rattle.trie_model.proofs.Strings.{strings_unfold, strings_none}
use Rattle.base_model.specs.Bits.{bits_of}

-- lists of lists that are equally long one by one are so end to end
flat_count : {A B : Type 0} (f : ℕ → List A) (g : ℕ → List B) (ts : List ℕ) → ((t : ℕ) → length (f t) ≡ length (g t)) → length (flat_map f ts) ≡ length (flat_map g ts)
flat_count f g [] h = refl
flat_count f g (t ∷ ts) h = let r = flat_count f g ts h in omega (arith, length-append (f t) (flat_map f ts), length-append (g t) (flat_map g ts), h t, r)

-- a table has as many rows as there are strings
pub same_count : (n w : ℕ) (is : List Item) → AreValues w is → length is ≤ n → length (items_table w is) ≡ length (strings w is)
unfolding rows_below strings_below
same_count n w [] p l = ap length (no_table w) ∙ sym (ap length (strings_none w))
same_count zero w (i ∷ is) p l = absurd (omega arith)
same_count (suc n) w (i ∷ is) p l =
    let k = node_key w (i ∷ is) in
    ap length (table-unfold w i is p)
    ∙ ap suc (flat_count (λ t. items_table w (below w (k ++ bits_of w t) (i ∷ is))) (λ t. descend (strings w) (stub_at (k ++ bits_of w t) (i ∷ is)) (below w (k ++ bits_of w t) (i ∷ is))) (numbers_from 0 (2 ^ w)) (λ t.
    let s = below_shrinks w t i is p.pos in
    same_count n w (below w (k ++ bits_of w t) (i ∷ is)) (AreValues-below w (k ++ bits_of w t) (i ∷ is) p) (omega (arith, s, l))
    ∙ ap (λ o. length (descend (strings w) o (below w (k ++ bits_of w t) (i ∷ is)))) (sym (no_stub_at (k ++ bits_of w t) (i ∷ is) p.values))))
    ∙ sym (ap length (strings_unfold w i is p.pos))
