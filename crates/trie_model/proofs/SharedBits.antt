-- Keys that begin alike have the same first bits and tokens, and values that part at a token have their node there.
use Rattle.std.proofs.Common.{◌≡◌, ℕ, zero, suc, ◌+◌, ◌*◌, ◌/◌, ◌<◌, ◌≤◌, Bool, true, false, List, [], ◌∷◌, length, take, drop, map, refl, ap, ◌∙◌, arith, inl, inr}
use Rattle.std.specs.List.{AllByRecursion}
use Rattle.base_model.specs.Member.{Member}
use Rattle.trie_model.specs.Bits.{is_prefix, common_prefix_all}
use Rattle.trie_model.specs.Items.{Item, Val, position}
use Rattle.trie_model.specs.Ids.{node_key}
use Rattle.trie_model.proofs.Positions.{node_key-is_prefix, is_prefix-common_prefix_all}
use Rattle.trie_model.proofs.Prefixes.{prefix_of_whole, is_prefix-all, whole_step, length-is_prefix, length_whole}
use Rattle.trie_model.proofs.Children.{tok}
use Rattle.base_model.specs.Bits.{number_of}

-- ---- tokens of keys that begin alike
-- a key has the first bits that its front has
pub take-prefix : (n : ℕ) (f q : List Bool) → is_prefix f q ≡ true → n ≤ length f → take n q ≡ take n f
take-prefix zero f q h l = refl
take-prefix (suc n) [] q h l = absurd (omega arith)
take-prefix (suc n) (true ∷ f) (true ∷ q) h l = ap (λ r. true ∷ r) (take-prefix n f q h (omega arith))
take-prefix (suc n) (false ∷ f) (false ∷ q) h l = ap (λ r. false ∷ r) (take-prefix n f q h (omega arith))
take-prefix (suc n) (x ∷ f) q h l = absurd (cc)

-- and the bits behind them
drop-front : (n w : ℕ) (f q : List Bool) → is_prefix f q ≡ true → n + w ≤ length f → take w (drop n q) ≡ take w (drop n f)
drop-front zero w f q h l = take-prefix w f q h (omega arith)
drop-front (suc n) w [] q h l = absurd (omega arith)
drop-front (suc n) w (true ∷ f) (true ∷ q) h l = drop-front n w f q h (omega arith)
drop-front (suc n) w (false ∷ f) (false ∷ q) h l = drop-front n w f q h (omega arith)
drop-front (suc n) w (x ∷ f) q h l = absurd (cc)

-- a key has the token that its front has
pub tok-front : (w : ℕ) (k f q : List Bool) → is_prefix f q ≡ true → length k + w ≤ length f → tok w k q ≡ tok w k f
tok-front w k f q h l = ap number_of (drop-front (length k) w f q h l)

-- what keys have alike up to n bits they have alike up to fewer
pub take-shorter : (b n : ℕ) (f q : List Bool) → take n f ≡ take n q → b ≤ n → take b f ≡ take b q
take-shorter zero n f q e l = refl
take-shorter (suc b) zero f q e l = absurd (omega arith)
take-shorter (suc b) (suc n) [] [] e l = refl
take-shorter (suc b) (suc n) [] (y ∷ q) e l = absurd (cc)
take-shorter (suc b) (suc n) (x ∷ f) [] e l = absurd (cc)
take-shorter (suc b) (suc n) (x ∷ f) (y ∷ q) e l = let a : x ≡ y = cc in let c : take n f ≡ take n q = cc in ap (λ x. x ∷ take b f) a ∙ ap (λ r. y ∷ r) (take-shorter b n f q c (omega arith))

-- the front of a front
pub take-itself : (b : ℕ) (f : List Bool) → b ≤ length f → take b f ≡ take b (take b f)
take-itself zero f l = refl
take-itself (suc b) [] l = refl
take-itself (suc b) (x ∷ f) l = ap (λ r. x ∷ r) (take-itself b f (omega arith))

-- so have they the tokens there
pub tok-take : (w n : ℕ) (k f q : List Bool) → take n f ≡ take n q → length k + w ≤ n → tok w k f ≡ tok w k q
tok-take w n k f q e l = ap number_of (go (length k) n f q e l)
  where
    go : (m n : ℕ) (f q : List Bool) → take n f ≡ take n q → m + w ≤ n → take w (drop m f) ≡ take w (drop m q)
    go zero n f q e l = take-shorter w n f q e (omega arith)
    go (suc m) zero f q e l = absurd (omega arith)
    go (suc m) (suc n) [] [] e l = refl
    go (suc m) (suc n) [] (y ∷ q) e l = absurd (cc)
    go (suc m) (suc n) (x ∷ f) [] e l = absurd (cc)
    go (suc m) (suc n) (x ∷ f) (y ∷ q) e l = let b : take n f ≡ take n q = cc in go m n f q b (omega arith)

-- ---- the key of a node
-- whole tokens that begin all positions begin the node's key
pub key_begins : (w n : ℕ) (k : List Bool) (i : Item) (is : List Item) → 0 < w → length k ≡ w * n → AllByRecursion (λ i. is_prefix k (position w i) ≡ true) (i ∷ is) → is_prefix k (node_key w (i ∷ is)) ≡ true
key_begins w n k i is pos e h = prefix_of_whole w n k (common_prefix_all (map (position w) (i ∷ is))) pos e (is_prefix-common_prefix_all w k i is h)

-- values with two tokens behind whole tokens meet there
pub met_at : (w n : ℕ) (k : List Bool) (i : Item) (is : List Item) (j : Item) → 0 < w → length k ≡ w * n → AllByRecursion (λ i. is_prefix k (position w i) ≡ true) (i ∷ is) → Member (i ∷ is) j →
    tok w k (position w i) < tok w k (position w j) → node_key w (i ∷ is) ≡ k
met_at w n k i is j pos e h m l =
    let p = key_begins w n k i is pos e h in
    let c = length_whole w (common_prefix_all (map (position w) (i ∷ is))) pos in
    let a = length-is_prefix k (node_key w (i ∷ is)) p in
    elim (whole_step w n (length (common_prefix_all (map (position w) (i ∷ is))) / w) (omega (arith, e, c, a))) [
      | inl s ↦ is_prefix-all k (node_key w (i ∷ is)) p (omega (arith, s, e, c))
      | inr s ↦
          let b : length k + w ≤ length (node_key w (i ∷ is)) = omega (arith, s, e, c) in
          let u = tok-front w k (node_key w (i ∷ is)) (position w i) (node_key-is_prefix w (i ∷ is) i (inl refl)) b in
          let v = tok-front w k (node_key w (i ∷ is)) (position w j) (node_key-is_prefix w (i ∷ is) j m) b in
          absurd (omega (arith, u, v, l))
    ]

-- a value whose key begins all others stands at the node
pub met_at_first : (w n : ℕ) (k : List Bool) (d : List ℕ) (is : List Item) → 0 < w → length k ≡ w * n → AllByRecursion (λ i. is_prefix k (position w i) ≡ true) (Val k d ∷ is) → node_key w (Val k d ∷ is) ≡ k
met_at_first w n k d is pos e h =
    is_prefix-all k (node_key w (Val k d ∷ is)) (key_begins w n k (Val k d) is pos e h) (length-is_prefix (node_key w (Val k d ∷ is)) k (node_key-is_prefix w (Val k d ∷ is) (Val k d) (inl refl)))
