-- What is made of values token by token: the values of the first token come first.
use Rattle.std.proofs.Common.{◌≡◌, ℕ, ◌^◌, ◌<◌, Bool, true, false, cond, List, [], ◌∷◌, ◌++◌, refl, sym, ap, ◌∙◌, arith, length-append}
use Rattle.std.specs.List.{flat_map, AllByRecursion}
use Rattle.trie_model.specs.Bits.{is_prefix}
use Rattle.trie_model.specs.Items.{Item, Val, position}
use Rattle.trie_model.specs.Ids.{below, numbers_from}
use Rattle.trie_model.specs.Table.{items_table}
use Rattle.trie_model.proofs.Prefixes.{length-is_prefix}
use Rattle.base_model.proofs.Bits.{length-bits_of}
use Rattle.trie_model.proofs.Children.{Placed, tok, is_prefix-tok}
use Rattle.trie_model.proofs.Groups.{made_of, first_group}
use Rattle.trie_model.proofs.Lists.{All-append-right, filter-same, flat_map-same}
use Rattle.trie_model.proofs.Tables.{group_child, group_children, rows_below, no_table}
use Rattle.base_model.specs.Bits.{bits_of}

-- ---- token by token
module _ {B : Type 0} (h : ℕ → List Item → List B) (none : (u : ℕ) → h u [] ≡ []) where
  -- what is made of the values below each token
  abbrev pub by_token : ℕ → List Bool → List Item → List B
  by_token w k is = flat_map (λ t. h t (below w (k ++ bits_of w t) is)) (numbers_from 0 (2 ^ w))

  -- they are made group by group
  by_number : (w : ℕ) (k : List Bool) (is : List Item) → AllByRecursion (Placed w k) is → by_token w k is ≡ flat_map (made_of (λ i. tok w k (position w i)) h none is) (numbers_from 0 (2 ^ w))
  unfolding made_of
  by_number w k is p = flat_map-same _ _ 0 (2 ^ w) (λ u l m.
      ap (h u) (filter-same _ _ (Placed w k) is (λ i q. is_prefix-tok w u k (position w i) q.starts q.long (omega arith)) p))

  -- the values of the first token, and then the others
  pub first_token : (w t : ℕ) (k : List Bool) (gs rs : List Item) → AllByRecursion (Placed w k) (gs ++ rs) →
      AllByRecursion (λ i. tok w k (position w i) ≡ t) gs → AllByRecursion (λ i. t < tok w k (position w i)) rs → t < 2 ^ w → by_token w k (gs ++ rs) ≡ h t gs ++ by_token w k rs
  first_token w t k gs rs p q r m =
      by_number w k (gs ++ rs) p
      ∙ first_group (λ i. tok w k (position w i)) h none t gs rs 0 (2 ^ w) q r (omega arith) (omega arith)
      ∙ ap (λ x. h t gs ++ x) (sym (by_number w k rs (All-append-right (Placed w k) gs rs p)))

  -- the value at the key itself is below no token
  pub own_value : (w : ℕ) (k : List Bool) (d : List ℕ) (rs : List Item) → 0 < w → by_token w k (Val k d ∷ rs) ≡ by_token w k rs
  own_value w k d rs pos = flat_map-same _ _ 0 (2 ^ w) (λ u l m. ap (λ b. h u (cond b (Val k d ∷ below w (k ++ bits_of w u) rs) (below w (k ++ bits_of w u) rs))) (too_long w u k pos))
    where
      too_long : (w u : ℕ) (k : List Bool) → 0 < w → is_prefix (k ++ bits_of w u) k ≡ false
      too_long w u k pos = go (is_prefix (k ++ bits_of w u) k) refl
        where
          go : (c : Bool) → is_prefix (k ++ bits_of w u) k ≡ c → is_prefix (k ++ bits_of w u) k ≡ false
          go false e = e
          go true e = absurd (let l = length-is_prefix (k ++ bits_of w u) k e in omega (arith, l, length-append k (bits_of w u), length-bits_of w u))

  -- nothing is made of nothing
  pub of_none : (w : ℕ) (k : List Bool) → by_token w k [] ≡ []
  of_none w k = go (numbers_from 0 (2 ^ w))
    where
      go : (ts : List ℕ) → flat_map (λ t. h t []) ts ≡ []
      go [] = refl
      go (t ∷ ts) = ap (λ r. r ++ flat_map (λ t. h t []) ts) (none t) ∙ go ts

-- no child is made of nothing
no_child : (w : ℕ) (k : List Bool) (t : ℕ) → group_child w k t [] ≡ []
no_child w k t = refl

-- the children of a node, and the rows below it, are made token by token
pub children-first : (w t : ℕ) (k : List Bool) (gs rs : List Item) → AllByRecursion (Placed w k) (gs ++ rs) →
    AllByRecursion (λ i. tok w k (position w i) ≡ t) gs → AllByRecursion (λ i. t < tok w k (position w i)) rs → t < 2 ^ w → group_children w k (gs ++ rs) ≡ group_child w k t gs ++ group_children w k rs
unfolding group_children
children-first w t k gs rs p q r m = first_token (group_child w k) (no_child w k) w t k gs rs p q r m

-- the rows below a node are those of the first token, and then the others
pub rows-first : (w t : ℕ) (k : List Bool) (gs rs : List Item) → AllByRecursion (Placed w k) (gs ++ rs) →
    AllByRecursion (λ i. tok w k (position w i) ≡ t) gs → AllByRecursion (λ i. t < tok w k (position w i)) rs → t < 2 ^ w → rows_below w k (gs ++ rs) ≡ items_table w gs ++ rows_below w k rs
unfolding rows_below
rows-first w t k gs rs p q r m = first_token (λ t xs. items_table w xs) (λ t. no_table w) w t k gs rs p q r m

-- the value at the node itself is in no child
pub children-own : (w : ℕ) (k : List Bool) (d : List ℕ) (rs : List Item) → 0 < w → group_children w k (Val k d ∷ rs) ≡ group_children w k rs
unfolding group_children
children-own w k d rs pos = own_value (group_child w k) (no_child w k) w k d rs pos

-- and in no row below it
pub rows-own : (w : ℕ) (k : List Bool) (d : List ℕ) (rs : List Item) → 0 < w → rows_below w k (Val k d ∷ rs) ≡ rows_below w k rs
unfolding rows_below
rows-own w k d rs pos = own_value (λ t xs. items_table w xs) (λ t. no_table w) w k d rs pos

-- no values make no children
pub children-none : (w : ℕ) (k : List Bool) → group_children w k [] ≡ []
unfolding group_children
children-none w k = of_none (group_child w k) (no_child w k) w k

-- and no rows
pub rows-none : (w : ℕ) (k : List Bool) → rows_below w k [] ≡ []
unfolding rows_below
rows-none w k = of_none (λ t xs. items_table w xs) (λ t. no_table w) w k
