-- Where two keys in order part: behind the whole tokens that they share.
use Rattle.std.proofs.Common.{◌≡◌, ◌≢◌, ℕ, suc, ◌+◌, ◌*◌, ◌/◌, ◌^◌, ◌<◌, ◌≤◌, Bool, true, List, ◌++◌, length, drop, refl, sym, ◌∙◌, arith, subst, inl, inr, ◌⊎◌, Less, length-append}
use Rattle.std.proofs.lemmas.Bool.{cases_lt}
use Rattle.std.proofs.lemmas.Bool.Decides.{nat_tests}
use Rattle.trie_model.specs.Bits.{is_prefix, key_cmp, common_prefix, whole_tokens}
use Rattle.trie_model.proofs.Children.{tok, is_prefix-tok, front_small, tok-rises}
use Rattle.trie_model.proofs.Rising.{not_after}
use Rattle.std.proofs.Common.{length-drop}
use Rattle.trie_model.proofs.Prefixes.{prefix_of_whole, is_prefix-take, is_prefix-through, is_prefix-all, whole_step, is_prefix-common_prefix-left, is_prefix-common_prefix-right, length-is_prefix, length_whole, is_prefix-common_prefix}
use Rattle.base_model.proofs.Bits.{length-bits_of}
use Rattle.base_model.specs.Bits.{bits_of}

-- from whole tokens to more of them is a token at least
pub token_step : (w a b m n : ℕ) → a ≡ w * m → b ≡ w * n → a < b → a + w ≤ b
token_step w a b m n e f l = elim (whole_step w m n (omega (arith, e, f, l))) [
  | inl s ↦ absurd (omega (arith, s, e, f, l))
  | inr s ↦ omega (arith, s, e, f)
]

-- what a key below f has in common with f, in whole tokens: less than f, and the tokens behind it differ
pub record Meeting (w : ℕ) (k f : List Bool) : Type 0 where
  pub m : ℕ
  pub whole : length (whole_tokens w (common_prefix k f)) ≡ w * m
  pub far : length (whole_tokens w (common_prefix k f)) + w ≤ length f
  pub left : is_prefix (whole_tokens w (common_prefix k f)) k ≡ true
  pub right : is_prefix (whole_tokens w (common_prefix k f)) f ≡ true
  pub apart : length k ≢ length (whole_tokens w (common_prefix k f)) → tok w (whole_tokens w (common_prefix k f)) k < tok w (whole_tokens w (common_prefix k f)) f

-- keys in order meet so
pub meeting : (w m n : ℕ) (k f : List Bool) → 0 < w → length k ≡ w * m → length f ≡ w * n → key_cmp k f ≡ Less → Meeting w k f
meeting w m n k f pos ek ef l = record {
  m = length (common_prefix k f) / w;
  whole = length_whole w (common_prefix k f) pos;
  far = far;
  left = left;
  right = right;
  apart = apart;
}
  where
    left : is_prefix (whole_tokens w (common_prefix k f)) k ≡ true
    left = is_prefix-through (whole_tokens w (common_prefix k f)) (common_prefix k f) k (is_prefix-take _ (common_prefix k f)) (is_prefix-common_prefix-left k f)

    right : is_prefix (whole_tokens w (common_prefix k f)) f ≡ true
    right = is_prefix-through (whole_tokens w (common_prefix k f)) (common_prefix k f) f (is_prefix-take _ (common_prefix k f)) (is_prefix-common_prefix-right k f)

    far : length (whole_tokens w (common_prefix k f)) + w ≤ length f
    far = elim (cases_lt (length (whole_tokens w (common_prefix k f))) (length f)) [
      | inl s ↦ token_step w (length (whole_tokens w (common_prefix k f))) (length f) (length (common_prefix k f) / w) n (length_whole w (common_prefix k f) pos) ef s
      | inr s ↦ absurd (not_after f k (subst (λ c. is_prefix c k ≡ true) (sym (is_prefix-all (whole_tokens w (common_prefix k f)) f right s)) left) l)
    ]

    apart : length k ≢ length (whole_tokens w (common_prefix k f)) → tok w (whole_tokens w (common_prefix k f)) k < tok w (whole_tokens w (common_prefix k f)) f
    apart ne =
        let x = length-is_prefix (whole_tokens w (common_prefix k f)) k left in
        let far_key = token_step w (length (whole_tokens w (common_prefix k f))) (length k) (length (common_prefix k f) / w) m (length_whole w (common_prefix k f) pos) ek (omega (arith, x, ne)) in
        let s = tok-rises w (whole_tokens w (common_prefix k f)) k f left right far_key far l in
        differ far_key (cases_lt (tok w (whole_tokens w (common_prefix k f)) k) (tok w (whole_tokens w (common_prefix k f)) f)) s
      where
        use_both : (c a b : List Bool) (t : ℕ) → is_prefix c a ≡ true → is_prefix c b ≡ true → length c + w ≤ length a → length c + w ≤ length b → tok w c a ≡ t → tok w c b ≡ t → t < 2 ^ w → is_prefix (c ++ bits_of w t) (common_prefix a b) ≡ true
        use_both c a b t p q x y e g small =
            is_prefix-common_prefix (c ++ bits_of w t) a b (is_prefix-tok w t c a p x small ∙ (let z = e in grind (arith, nat_tests))) (is_prefix-tok w t c b q y small ∙ (let z = g in grind (arith, nat_tests)))

        differ : length (whole_tokens w (common_prefix k f)) + w ≤ length k →
            (tok w (whole_tokens w (common_prefix k f)) k < tok w (whole_tokens w (common_prefix k f)) f) ⊎ (tok w (whole_tokens w (common_prefix k f)) f ≤ tok w (whole_tokens w (common_prefix k f)) k) →
            tok w (whole_tokens w (common_prefix k f)) k ≤ tok w (whole_tokens w (common_prefix k f)) f → tok w (whole_tokens w (common_prefix k f)) k < tok w (whole_tokens w (common_prefix k f)) f
        differ fk (inl a) s = a
        differ fk (inr a) s =
            let c = whole_tokens w (common_prefix k f) in
            let t = tok w c f in
            let small : t < 2 ^ w = front_small w (drop (length c) f) (omega (arith, far, length-drop (length c) f)) in
            let b = use_both c k f t left right fk far (omega (arith, a, s)) refl small in
            let d = prefix_of_whole w (suc (length (common_prefix k f) / w)) (c ++ bits_of w t) (common_prefix k f) pos (length-append c (bits_of w t) ∙ omega (arith, length-bits_of w t, length_whole w (common_prefix k f) pos)) b in
            absurd (omega (arith, length-is_prefix (c ++ bits_of w t) c d, length-append c (bits_of w t), length-bits_of w t, pos))
