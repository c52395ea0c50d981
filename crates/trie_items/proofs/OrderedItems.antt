-- One item more behind a valid list.
use Rattle.std.proofs.Common.{◌≡◌, ℕ, suc, ◌-◌, Bool, true, false, List, [], ◌∷◌, ◌++◌, length, Some, map, option_map, refl, sym, ap, ◌∙◌, subst, arith, Less}
use Rattle.std.specs.Prelude.{slice_get}
use Rattle.std.proofs.lemmas.Option.{slice_get-map}
use Rattle.std.proofs.lemmas.List.{length-map}
use Rattle.std.specs.List.{AllByRecursion}
use Rattle.trie_model.specs.Bits.{is_prefix, key_cmp}
use Rattle.trie_model.specs.Items.{Item, Val, Stub, place_of, covers, IsWholeItem, Follows, IsOrdered, IsValid}
use Rattle.trie_model.proofs.KeySets.{below-through}
use Rattle.trie_items.specs.Items.{LastFollows}

-- what lies between a key and one that it begins begins with it too
between : (p b c : List Bool) → key_cmp p b ≡ Less → key_cmp b c ≡ Less → is_prefix p c ≡ true → is_prefix p b ≡ true
between [] b c h k s = refl
between (x ∷ p) [] c h k s = absurd cc
between (x ∷ p) (y ∷ b) [] h k s = absurd cc
between (true ∷ p) (true ∷ b) (true ∷ c) h k s = between p b c h k s
between (false ∷ p) (false ∷ b) (false ∷ c) h k s = between p b c h k s
between (false ∷ p) (true ∷ b) (true ∷ c) h k s = absurd cc
between (false ∷ p) (true ∷ b) (false ∷ c) h k s = absurd cc
between (x ∷ p) (y ∷ b) (z ∷ c) h k s = absurd cc

-- what is outside a slot stays so further on
past : (i j l : Item) → Follows i j → Follows j l → covers i (place_of l) ≡ false
past (Val k d) j l f g = refl
past (Stub p x) j l f g = go (is_prefix p (place_of l)) refl
  where
    go : (b : Bool) → is_prefix p (place_of l) ≡ b → is_prefix p (place_of l) ≡ false
    go false e = e
    go true e = absurd (let s = between p (place_of j) (place_of l) f.greater g.greater e in let t : true ≡ false = sym s ∙ f.outside in cc)

-- items follow each other in a row
pub follows-through : (i j l : Item) → Follows i j → Follows j l → Follows i l
follows-through i j l f g = record { greater = below-through (place_of i) (place_of j) (place_of l) f.greater g.greater; outside = past i j l f g }

-- what follows the last of an ordered list follows each
follows_each : (is : List Item) (i : Item) → IsOrdered is → LastFollows is i → AllByRecursion (λ j. Follows j i) is
follows_each [] i o l = tt
follows_each (j ∷ []) i o l = (l, tt)
follows_each (j ∷ k ∷ js) i o l = let r = follows_each (k ∷ js) i o.1 l in (follows-through j k i o.0.0 r.0, r)

All-snoc : {A : Type 0} (P : A → Type 0) (xs : List A) (x : A) → AllByRecursion P xs → P x → AllByRecursion P (xs ++ x ∷ [])
All-snoc P [] x h p = (p, tt)
All-snoc P (y ∷ xs) x h p = (h.0, All-snoc P xs x h.1 p)

All-last : {A : Type 0} (P : A → Type 0) (xs : List A) (x : A) → AllByRecursion P (xs ++ x ∷ []) → P x
All-last P [] x h = h.0
All-last P (y ∷ xs) x h = All-last P xs x h.1

ordered_then : (is : List Item) (i : Item) → IsOrdered is → AllByRecursion (λ j. Follows j i) is → IsOrdered (is ++ i ∷ [])
ordered_then [] i o h = (tt, tt)
ordered_then (j ∷ is) i o h = (All-snoc (Follows j) is i o.0 h.0, ordered_then is i o.1 h.1)

-- a list with one item more is valid where it follows the last
pub valid_then : (w : ℕ) (is : List Item) (i : Item) → IsValid w is → IsWholeItem w i → LastFollows is i → IsValid w (is ++ i ∷ [])
valid_then w is i v h l = record { whole = All-snoc (IsWholeItem w) is i v.whole h; ordered = ordered_then is i v.ordered (follows_each is i v.ordered l) }

-- and only there
pub then_valid : (w : ℕ) (is : List Item) (i : Item) → IsValid w (is ++ i ∷ []) → LastFollows is i
then_valid w is i v = last is v.ordered
  where
    last : (is : List Item) → IsOrdered (is ++ i ∷ []) → LastFollows is i
    last [] o = tt
    last (j ∷ []) o = o.0.0
    last (j ∷ k ∷ js) o = last (k ∷ js) o.1

-- the last item, as it is got by its place
pub last_got : (is : List Item) (j i : Item) → Some j ≡ slice_get is (length is - 1) → (LastFollows is i → Follows j i) × (Follows j i → LastFollows is i)
last_got [] j i e = absurd cc
last_got (k ∷ []) j i e =
    let z : length (k ∷ []) - 1 ≡ 0 = omega arith in
    let f : Some j ≡ Some k = e ∙ ap (slice_get (k ∷ [])) z in
    let g : j ≡ k = cc in
    (λ h. subst (λ x. Follows x i) (sym g) h, λ h. subst (λ x. Follows x i) g h)
last_got (k ∷ l ∷ is) j i e =
    let z : length (k ∷ l ∷ is) - 1 ≡ suc (length (l ∷ is) - 1) = omega arith in
    last_got (l ∷ is) j i (e ∙ ap (slice_get (k ∷ l ∷ is)) z)

-- what is got of a list is got of it as it is seen
pub got_mapped : {A B : Type 0} (f : A → B) (xs : List A) (x : A) → Some x ≡ slice_get xs (length xs - 1) → Some (f x) ≡ slice_get (map f xs) (length (map f xs) - 1)
got_mapped f xs x e = ap (option_map f) e ∙ sym (slice_get-map f xs (length xs - 1)) ∙ ap (λ n. slice_get (map f xs) (n - 1)) (sym (length-map xs f))

-- what was tested of a list tells whether it is valid with one item more
pub accepted : (w : ℕ) (is xs : List Item) (i : Item) (r : Bool) → xs ≡ is → IsValid w is → IsWholeItem w i → (r ≡ true → LastFollows xs i) → r ≡ true → IsValid w (is ++ i ∷ [])
accepted w is xs i r same v h t e = valid_then w is i v h (subst (λ xs. LastFollows xs i) same (t e))

pub refused : (w : ℕ) (is xs : List Item) (i : Item) (r : Bool) → xs ≡ is → (LastFollows xs i → r ≡ true) → r ≡ false → IsValid w (is ++ i ∷ []) → ⊥
refused w is xs i r same t e v = let f : r ≡ true = t (subst (λ xs. LastFollows xs i) (sym same) (then_valid w is i v)) in cc
