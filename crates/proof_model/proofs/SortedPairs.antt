-- Pairs in the order of their keys: they are known by their members.
use Rattle.std.proofs.Common.{◌≡◌, ℕ, Bool, true, false, cond, List, [], ◌∷◌, refl, sym, ap, ◌∙◌, subst, inl, inr, Less}
use Rattle.std.specs.List.{filter}
use Rattle.std.specs.Cmp.{tied_itself}
use Rattle.std.proofs.lemmas.Cmp.{nat_list_cmp_total}
use Rattle.base_model.specs.Member.{Member}
use Rattle.base_model.specs.Bytes.{bytes_cmp}
use Rattle.trie_model.proofs.Entries.{IsAscending}
use Rattle.trie_model.proofs.KeySets.{All-of}
use Rattle.trie_model.proofs.Lists.{All-member, Member-filter-of}
use Rattle.proof_model.specs.Proofs.{Pair}
use Rattle.proof_model.specs.SoundProofs.{AreSorted}

-- no key is below itself
not_itself : (k : List ℕ) → bytes_cmp k k ≡ Less → ⊥
not_itself k h = let e = tied_itself nat_list_cmp_total k in cc

-- of two keys one at most is below the other
not_both : (a b : List ℕ) → bytes_cmp a b ≡ Less → bytes_cmp b a ≡ Less → ⊥
not_both a b h k = not_itself a (nat_list_cmp_total.trans a b a h k)

-- the first key is below the others
pub head_below : (e : Pair) (es : List Pair) (f : Pair) → AreSorted (e ∷ es) → Member es f → bytes_cmp e.0 f.0 ≡ Less
head_below e es f h m = All-member (λ (f : Pair). bytes_cmp e.0 f.0 ≡ Less) es f h.0 m

-- a key has one pair
pub one_pair : (es : List Pair) (e f : Pair) → AreSorted es → Member es e → Member es f → e.0 ≡ f.0 → e ≡ f
one_pair [] e f h m n q = absurd m
one_pair (x ∷ es) e f h (inl p) (inl s) q = sym p ∙ s
one_pair (x ∷ es) e f h (inl p) (inr n) q = absurd (not_itself f.0 (subst (λ k. bytes_cmp k f.0 ≡ Less) (ap (λ (e : Pair). e.0) p ∙ q) (head_below x es f h n)))
one_pair (x ∷ es) e f h (inr m) (inl s) q = absurd (not_itself e.0 (subst (λ k. bytes_cmp k e.0 ≡ Less) (ap (λ (e : Pair). e.0) s ∙ sym q) (head_below x es e h m)))
one_pair (x ∷ es) e f h (inr m) (inr n) q = one_pair es e f h.1 m n q

-- pairs in order are known by their members
pub same_pairs : (xs ys : List Pair) → AreSorted xs → AreSorted ys → ((e : Pair) → Member xs e → Member ys e) → ((e : Pair) → Member ys e → Member xs e) → xs ≡ ys
same_pairs [] [] p q f g = refl
same_pairs [] (y ∷ ys) p q f g = absurd (g y (inl refl))
same_pairs (x ∷ xs) [] p q f g = absurd (f x (inl refl))
same_pairs (x ∷ xs) (y ∷ ys) p q f g = same (same_pairs xs ys p.1 q.1) (heads (f x (inl refl)) (g y (inl refl)))
  where
    heads : Member (y ∷ ys) x → Member (x ∷ xs) y → x ≡ y
    heads (inl e) n = sym e
    heads (inr m) (inl e) = e
    heads (inr m) (inr n) = absurd (not_both x.0 y.0 (head_below x xs y p n) (head_below y ys x q m))

    behind : (a : Pair) (more : List Pair) (b : Pair) (others : List Pair) → a ≡ b → AreSorted (a ∷ more) → ((e : Pair) → Member (a ∷ more) e → Member (b ∷ others) e) → (e : Pair) → Member more e → Member others e
    behind a more b others e p f k m = elim (f k (inr m)) [
      | inl d ↦ absurd (not_itself a.0 (subst (λ (k : Pair). bytes_cmp a.0 k.0 ≡ Less) (sym (e ∙ d)) (head_below a more k p m)))
      | inr n ↦ n
    ]

    same : (((e : Pair) → Member xs e → Member ys e) → ((e : Pair) → Member ys e → Member xs e) → xs ≡ ys) → x ≡ y → x ∷ xs ≡ y ∷ ys
    same ih e = ap (λ x. x ∷ xs) e ∙ ap (λ r. y ∷ r) (ih (behind x xs y ys e p f) (behind y ys x xs (sym e) q g))

-- some pairs of pairs in order are in order
pub AreSorted-filter : (p : Pair → Bool) (es : List Pair) → AreSorted es → AreSorted (filter p es)
AreSorted-filter p [] h = tt
AreSorted-filter p (e ∷ es) h = go (p e) (AreSorted-filter p es h.1)
  where
    go : (b : Bool) → AreSorted (filter p es) → AreSorted (cond b (e ∷ filter p es) (filter p es))
    go true ih = (All-of (λ (f : Pair). bytes_cmp e.0 f.0 ≡ Less) (filter p es) (λ f m. head_below e es f h (Member-filter-of p es f m).0), ih)
    go false ih = ih

-- pairs that ascend are in order
pub AreSorted-IsAscending : (es : List Pair) → IsAscending es → AreSorted es
AreSorted-IsAscending [] h = tt
AreSorted-IsAscending (e ∷ es) h = (h.0, AreSorted-IsAscending es h.1)
