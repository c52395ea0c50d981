-- Children in two pieces.
use Rattle.std.proofs.Common.{◌≡◌, ℕ, zero, suc, ◌<◌, Bool, false, cond, eqb, List, [], ◌∷◌, ◌++◌, length, map, drop, get_or, refl, sym, ap, ◌∙◌, arith, append_assoc, length-append, Option, Some}
use Rattle.std.proofs.lemmas.Bool.Decides.{nat_tests}
use Rattle.std.proofs.lemmas.List.{map-append}
use Rattle.trie_model.specs.StoredNode.{StoredChild, StoredNode}
use Rattle.trie_model.specs.Table.{hashed_child}
use Rattle.trie_items.specs.Children.{children_of}
use Rattle.trie_items.specs.Shown.{Shown, child_at, child_named, rest_of, shown_of}
use Rattle.trie_items.specs.declared.child.ChildId.{ChildId}
use Rattle.node_codec.specs.StoredNodes.{stored_child, stored_children}
use Rattle.node_codec.specs.declared.node.Child.{Child}
use Rattle.node_table.specs.KeptNodes.{joined, joined_all}
use Rattle.node_table.specs.declared.kept.Below.{Below}

-- one child more
joined-push : (cs : List ChildId) (bs : List Below) (c : ChildId) (b : Below) → length cs ≡ length bs → joined_all (cs ++ c ∷ []) (bs ++ b ∷ []) ≡ joined_all cs bs ++ joined c b ∷ []
joined-push [] [] c b e = refl
joined-push [] (x ∷ bs) c b e = absurd (omega (arith, e))
joined-push (x ∷ cs) [] c b e = absurd (omega (arith, e))
joined-push (x ∷ cs) (y ∷ bs) c b e = ap (λ r. joined x y ∷ r) (joined-push cs bs c b (omega (arith, e)))

pub parted_on : (cs ds : List ChildId) (bs es : List Below) (ys : List Child) (x : Child) (row : ℕ) → length cs ≡ length bs → joined_all cs bs ≡ stored_children ys
    → ds ≡ cs ++ record { index = x.index; id = x.id } ∷ [] → es ≡ bs ++ record { rest = x.rest; has_value = x.has_value; row = row } ∷ []
    → record { long : length ds ≡ length es; same : joined_all ds es ≡ stored_children (ys ++ x ∷ []) }
parted_on cs ds bs es ys x row e so_far p q =
    let c : ChildId = record { index = x.index; id = x.id } in
    let b : Below = record { rest = x.rest; has_value = x.has_value; row = row } in
    rw (p, q) (record {
      long = omega (arith, e, length-append cs (c ∷ []), length-append bs (b ∷ []));
      same = joined-push cs bs c b e ∙ ap (λ r. r ++ joined c b ∷ []) so_far ∙ sym (map-append stored_child ys (x ∷ []));
    })

-- the first of those that are left
joined-drop : (cs : List ChildId) (bs : List Below) (i : ℕ) (d : ChildId) (b : Below) → length cs ≡ length bs → i < length cs
    → joined_all (drop i cs) (drop i bs) ≡ joined (get_or cs i d) (get_or bs i b) ∷ joined_all (drop (suc i) cs) (drop (suc i) bs)
joined-drop [] bs i d b e l = absurd (omega (arith, l))
joined-drop (x ∷ cs) [] i d b e l = absurd (omega (arith, e))
joined-drop (x ∷ cs) (y ∷ bs) zero d b e l = refl
joined-drop (x ∷ cs) (y ∷ bs) (suc i) d b e l = joined-drop cs bs i d b (omega (arith, e)) (omega (arith, l))

pub whole_on : (cs : List ChildId) (bs : List Below) (i n : ℕ) (d : ChildId) (b part : Below) (made now : List Child) (rest : List Bool) (all : List StoredChild) → n ≡ suc i → length cs ≡ length bs → i < length cs
    → part ≡ get_or bs i b → rest ≡ part.rest → now ≡ made ++ record { index = (get_or cs i d).index; rest = rest; id = (get_or cs i d).id; has_value = part.has_value } ∷ []
    → stored_children made ++ joined_all (drop i cs) (drop i bs) ≡ all → stored_children now ++ joined_all (drop n cs) (drop n bs) ≡ all
whole_on cs bs i n d b part made now rest all s e l p r q so_far =
    let x : Child = record { index = (get_or cs i d).index; rest = rest; id = (get_or cs i d).id; has_value = part.has_value } in
    let tail = joined_all (drop (suc i) cs) (drop (suc i) bs) in
    let same : stored_child x ≡ joined (get_or cs i d) (get_or bs i b) = ap (λ rest. joined (get_or cs i d) (record { rest = rest; has_value = part.has_value; row = part.row })) r ∙ ap (joined (get_or cs i d)) p in
    rw (q, s) (
    ap (λ r. r ++ tail) (map-append stored_child made (x ∷ []))
    ∙ append_assoc (stored_children made) (stored_child x ∷ []) tail
    ∙ ap (λ y. stored_children made ++ y ∷ tail) same
    ∙ ap (λ r. stored_children made ++ r) (sym (joined-drop cs bs i d b e l))
    ∙ so_far)

-- a child at another token is passed
other_number : (m n : ℕ) → (m ≡ n → ⊥) → eqb m n ≡ false
other_number m n h = grind (arith, nat_tests)

passed : (cs : List ChildId) (bs : List Below) (i t : ℕ) (d : ChildId) → length cs ≡ length bs → i < length cs → ((get_or cs i d).index ≡ t → ⊥)
    → child_at t (joined_all (drop (suc i) cs) (drop (suc i) bs)) ≡ child_at t (joined_all (drop i cs) (drop i bs))
passed [] bs i t d e l h = absurd (omega (arith, l))
passed (x ∷ cs) [] i t d e l h = absurd (omega (arith, e))
passed (x ∷ cs) (y ∷ bs) zero t d e l h = sym (ap (λ b. cond b (Some (joined x y)) (child_at t (joined_all cs bs))) (other_number x.index t h))
passed (x ∷ cs) (y ∷ bs) (suc i) t d e l h = passed cs bs i t d (omega (arith, e)) (omega (arith, l)) h

pub passed_on : (cs : List ChildId) (bs : List Below) (i n t : ℕ) (d : ChildId) (all : Option StoredChild) → n ≡ suc i → length cs ≡ length bs → i < length cs → ((get_or cs i d).index ≡ t → ⊥)
    → child_at t (joined_all (drop i cs) (drop i bs)) ≡ all → child_at t (joined_all (drop n cs) (drop n bs)) ≡ all
passed_on cs bs i n t d all s e l h so_far = ap (λ n. child_at t (joined_all (drop n cs) (drop n bs))) s ∙ passed cs bs i t d e l h ∙ so_far

-- all IDs are those of the children
joined-hashed : (cs : List ChildId) (bs : List Below) → length cs ≡ length bs → map hashed_child (joined_all cs bs) ≡ children_of cs
joined-hashed [] bs e = refl
joined-hashed (c ∷ cs) [] e = absurd (omega (arith, e))
joined-hashed (c ∷ cs) (b ∷ bs) e = ap (λ r. (c.index, c.id) ∷ r) (joined-hashed cs bs (omega (arith, e)))

-- what is shown of a node, by its pieces
pub shown_is : (n : StoredNode) (digest ds : Option (List ℕ)) (ids cs : List ChildId) (bs : List Below) (rest : Option (List Bool)) (token : Option ℕ)
    → n ≡ record { digest = digest; children = joined_all ids bs } → length ids ≡ length bs → ds ≡ digest → cs ≡ ids → rest ≡ rest_of (child_named token (joined_all ids bs))
    → record { digest = ds; children = children_of cs; rest = rest } ≡ shown_of token n
shown_is n digest ds ids cs bs rest token e l d c r =
    let hashed : children_of cs ≡ map hashed_child (joined_all ids bs) = ap children_of c ∙ sym (joined-hashed ids bs l) in
    let parts : Shown = record { digest = digest; children = map hashed_child (joined_all ids bs); rest = rest_of (child_named token (joined_all ids bs)) } in
    let whole : record { digest = ds; children = children_of cs; rest = rest } ≡ parts = rw (d, hashed, r) refl in
    whole ∙ ap (shown_of token) (sym e)
