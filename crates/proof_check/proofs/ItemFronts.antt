-- What is left of two lists of items when the first of all is taken.
use Rattle.std.proofs.Common.{◌≡◌, ℕ, Bool, true, nat_eq, List, [], ◌∷◌, ◌++◌, length, map, drop, refl, sym, ap, ◌∙◌, subst, arith, Less, Equal, Greater, Option, Some, None}
use Rattle.std.proofs.lemmas.Bool.Decides.{nat_tests}
use Rattle.std.proofs.lemmas.List.{append-nil}
use Rattle.std.specs.Option.{option_to_list, MatchOption}
use Rattle.trie_model.specs.Bits.{IsRising}
use Rattle.trie_model.specs.Items.{Item, places}
use Rattle.trie_items.specs.Items.{item_of}
use Rattle.trie_items.specs.declared.items.Item.{Item as Listed}
use Rattle.proof_model.specs.Claims.{in_order}
use Rattle.proof_check.specs.ItemFronts.{fronts_cmp}
use Rattle.proof_check.proofs.OrderedItems.{in_order-rising, merged_left, merged_right, merged_both}

abbrev pub Rises : List Listed → Type 0
Rises is = IsRising (places (map item_of is))

abbrev pub both : List Listed → List Listed → List Item
both ls rs = in_order (map item_of ls ++ map item_of rs)

-- the item that was taken, of what is there before, and what is there after
abbrev pub TakesFirst : Option Listed → List Item → List Item → Type 0
TakesFirst r before after = MatchOption r (before ≡ []) (λ i. before ≡ item_of i ∷ after)

-- ---- the first item
left_first : (i : Listed) (ms rs : List Listed) → fronts_cmp (map item_of (i ∷ ms)) (map item_of rs) ≡ Less → Rises (i ∷ ms) → Rises rs → both (i ∷ ms) rs ≡ item_of i ∷ both ms rs
left_first i ms [] o a b =
    ap in_order (append-nil (map item_of (i ∷ ms))) ∙ in_order-rising (map item_of (i ∷ ms)) a
    ∙ ap (λ r. item_of i ∷ r) (sym (in_order-rising (map item_of ms) a.1) ∙ ap in_order (sym (append-nil (map item_of ms))))
left_first i ms (j ∷ js) o a b = merged_left (item_of i) (item_of j) (map item_of ms) (map item_of js) a b o

right_first : (j : Listed) (ls ss : List Listed) → fronts_cmp (map item_of ls) (map item_of (j ∷ ss)) ≡ Greater → Rises ls → Rises (j ∷ ss) → both ls (j ∷ ss) ≡ item_of j ∷ both ls ss
right_first j [] ss o a b = in_order-rising (map item_of (j ∷ ss)) b ∙ ap (λ r. item_of j ∷ r) (sym (in_order-rising (map item_of ss) b.1))
right_first j (i ∷ is) ss o a b = merged_right (item_of i) (item_of j) (map item_of is) (map item_of ss) a b o

-- ---- what was taken from the front
-- a list is not one item longer than itself
longer : (x : Listed) (xs ms : List Listed) → x ∷ xs ≡ ms → ms ≡ xs → {A : Type 0} → A
longer x xs ms e f = absurd (let l : length (x ∷ xs) ≡ length xs = ap length (e ∙ f) in omega arith)

-- the left one is first
pub left_taken : (r : Option Listed) (ls ms rs : List Listed) → ls ≡ option_to_list r ++ ms → ms ≡ drop 1 ls → fronts_cmp (map item_of ls) (map item_of rs) ≡ Less → Rises ls → Rises rs → TakesFirst r (both ls rs) (both ms rs)
left_taken None [] ms [] e d o a b = refl
left_taken None [] ms (y ∷ ys) e d o a b = absurd cc
left_taken None (x ∷ xs) ms rs e d o a b = longer x xs ms e d
left_taken (Some i) [] ms rs e d o a b = absurd cc
left_taken (Some i) (x ∷ xs) ms rs e d o a b =
    let P : List Listed → Type 0 = λ ls. fronts_cmp (map item_of ls) (map item_of rs) ≡ Less → Rises ls → both ls rs ≡ item_of i ∷ both ms rs in
    subst P (sym e) (λ o a. left_first i ms rs o a b) o a

-- the right one is first
pub right_taken : (r : Option Listed) (ls rs ss : List Listed) → rs ≡ option_to_list r ++ ss → ss ≡ drop 1 rs → fronts_cmp (map item_of ls) (map item_of rs) ≡ Greater → Rises ls → Rises rs → TakesFirst r (both ls rs) (both ls ss)
right_taken None [] [] ss e d o a b = absurd cc
right_taken None (x ∷ xs) [] ss e d o a b = absurd cc
right_taken None ls (y ∷ ys) ss e d o a b = longer y ys ss e d
right_taken (Some j) ls [] ss e d o a b = absurd cc
right_taken (Some j) ls (y ∷ ys) ss e d o a b =
    let P : List Listed → Type 0 = λ rs. fronts_cmp (map item_of ls) (map item_of rs) ≡ Greater → Rises rs → both ls rs ≡ item_of j ∷ both ls ss in
    subst P (sym e) (λ o b. right_first j ls ss o a b) o b

-- both have one place: the right one goes, and the left one is taken
pub both_taken : (r : Option Listed) (ls ms rs : List Listed) → ls ≡ option_to_list r ++ ms → ms ≡ drop 1 ls → fronts_cmp (map item_of ls) (map item_of rs) ≡ Equal → Rises ls → Rises rs → TakesFirst r (both ls rs) (both ms (drop 1 rs))
both_taken r [] ms [] e d o a b = absurd cc
both_taken r [] ms (y ∷ ys) e d o a b = absurd cc
both_taken r (x ∷ xs) ms [] e d o a b = absurd cc
both_taken None (x ∷ xs) ms (y ∷ ys) e d o a b = longer x xs ms e d
both_taken (Some i) (x ∷ xs) ms (y ∷ ys) e d o a b =
    let P : List Listed → Type 0 = λ ls. fronts_cmp (map item_of ls) (map item_of (y ∷ ys)) ≡ Equal → Rises ls → both ls (y ∷ ys) ≡ item_of i ∷ both ms ys in
    subst P (sym e) (λ o a. merged_both (item_of i) (item_of y) (map item_of ms) (map item_of ys) a b o) o a

-- ---- lists of no items
pub is_none : (b : Bool) (n : ℕ) → b ≡ nat_eq n 0 → b ≡ true → n ≡ 0
is_none b n e h = grind (arith, nat_tests)

pub none_right : (ls rs : List Listed) → length rs ≡ 0 → Rises ls → map item_of ls ≡ both ls rs
none_right ls [] e a = sym (ap in_order (append-nil (map item_of ls)) ∙ in_order-rising (map item_of ls) a)
none_right ls (x ∷ rs) e a = absurd (omega (arith, e))

pub none_left : (ls rs : List Listed) → length ls ≡ 0 → Rises rs → map item_of rs ≡ both ls rs
none_left [] rs e a = sym (in_order-rising (map item_of rs) a)
none_left (x ∷ ls) rs e a = absurd (omega (arith, e))

-- ---- the whole run
-- one item more was moved
pub moved : (all before after : List Item) (done : List Listed) (i : Listed) → all ≡ map item_of done ++ before → before ≡ item_of i ∷ after → all ≡ map item_of (done ++ i ∷ []) ++ after
moved all before after done i e f = e ∙ ap (λ r. map item_of done ++ r) f ∙ go done
  where
    go : (done : List Listed) → map item_of done ++ item_of i ∷ after ≡ map item_of (done ++ i ∷ []) ++ after
    go [] = refl
    go (x ∷ xs) = ap (λ r. item_of x ∷ r) (go xs)

-- all were
pub all_moved : (all before : List Item) (done : List Listed) → all ≡ map item_of done ++ before → before ≡ [] → map item_of done ≡ all
all_moved all before done e f = sym (e ∙ ap (λ r. map item_of done ++ r) f ∙ append-nil (map item_of done))
