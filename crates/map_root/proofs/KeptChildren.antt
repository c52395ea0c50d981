-- What the sinks keep of children, and the code's lists of them, which are turned round.
use Rattle.std.proofs.Common.{◌≡◌, ℕ, ◌-◌, ◌≤◌, List, [], ◌∷◌, ◌++◌, length, map, reverse, refl, ap, ◌∙◌, arith, subst, Some, None, Option, length-append}
use Rattle.std.specs.Prelude.{IfSome}
use Rattle.std.specs.List.{slice_get}
use Rattle.std.specs.Option.{option_to_list}
use Rattle.std.proofs.lemmas.List.{reverse-append, map-append}
use Rattle.sha2.specs.Sha256.{sha256}
use Rattle.trie_model.specs.Hashing.{hashed_string}
use Rattle.trie_model.specs.StoredNode.{StoredChild}
use Rattle.trie_model.specs.Table.{Row, node_id, hashed_child}
use Rattle.node_codec.specs.declared.node.Child.{Child}
use Rattle.node_codec.specs.StoredNodes.{stored_children}
use Rattle.trie_items.specs.Children.{children_of}
use Rattle.trie_items.specs.declared.child.ChildId.{ChildId}
use Rattle.map_root.specs.declared.nodes.ClosedNode.{ClosedNode}
use Rattle.map_root.specs.declared.nodes.OpenNode.{OpenNode}
use Rattle.map_root.specs.PassState.{Unfinished}
use Rattle.map_root.specs.KeptNodes.{stored, hashed, open_node, above_of, kept_open, IsRow}

-- ---- the sinks
-- children that are kept whole are as they were
stored_again : (cs : List StoredChild) → stored_children (map stored cs) ≡ cs
stored_again [] = refl
stored_again (c ∷ cs) = ap (λ r. c ∷ r) (stored_again cs)

-- so the node of a row is that of the row
pub stored_row : (n : ClosedNode Child) (r : Row) → IsRow stored n r → ◌≡◌ {A = Row} (n.key, record { digest = n.digest; children = stored_children n.children.items }) r
stored_row n r h =
    ap (λ (k : List _). (k, record { digest = n.digest; children = stored_children n.children.items })) h.key
    ∙ ap (λ d. (r.0, record { digest = d; children = stored_children n.children.items })) h.digest
    ∙ ap (λ cs. (r.0, record { digest = r.1.digest; children = cs })) (ap stored_children h.children ∙ stored_again r.1.children)

-- what is hashed of children that are kept whole
pub stored_ids : (n : ClosedNode Child) (r : Row) (cs : List Child) → IsRow stored n r → cs ≡ n.children.items → map hashed_child (stored_children cs) ≡ map hashed_child r.1.children
stored_ids n r cs h e = ap (λ cs. map hashed_child (stored_children cs)) (e ∙ h.children) ∙ ap (map hashed_child) (stored_again r.1.children)

-- what is hashed of children is what is kept of them
hashed_again : (cs : List StoredChild) → children_of (map hashed cs) ≡ map hashed_child cs
hashed_again [] = refl
hashed_again (c ∷ cs) = ap (λ r. hashed_child c ∷ r) (hashed_again cs)

-- the ID of a node with this digest and these children's IDs
pub row_id : {C : Type 0} (kept : StoredChild → C) (n : ClosedNode C) (r : Row) (d : Option (List ℕ)) (ids : List (ℕ × List ℕ)) → IsRow kept n r → d ≡ n.digest → ids ≡ map hashed_child r.1.children → sha256 (hashed_string n.key d ids) ≡ node_id r
row_id kept n r d ids h e f =
    ap (λ k. sha256 (hashed_string k d ids)) h.key ∙ ap (λ d. sha256 (hashed_string r.0 d ids)) (e ∙ h.digest) ∙ ap (λ cs. sha256 (hashed_string r.0 r.1.digest cs)) f

-- what is hashed of children, where just that is kept of them
pub hashed_ids : (n : ClosedNode ChildId) (r : Row) (cs : List ChildId) → IsRow hashed n r → cs ≡ n.children.items → children_of cs ≡ map hashed_child r.1.children
hashed_ids n r cs h e = ap children_of (e ∙ h.children) ∙ hashed_again r.1.children

-- ---- turned round
-- a child behind the others is the first, where they are turned round
pub first_child : {C : Type 0} (pushed old : List C) (c : C) → pushed ≡ old ++ c ∷ [] → reverse pushed ≡ c ∷ reverse old
first_child pushed old c e = ap reverse e ∙ reverse-append old (c ∷ [])

-- so is what is kept of it
pub kept_first : {C : Type 0} (kept : StoredChild → C) (new pushed : List C) (o : OpenNode C) (c : C) (u : Unfinished) (s : StoredChild) →
    new ≡ reverse pushed → pushed ≡ o.children.items ++ c ∷ [] → open_node o ≡ kept_open kept u → c ≡ kept s → new ≡ map kept (s ∷ u.1)
kept_first kept new pushed o c u s n p e k = n ∙ first_child pushed o.children.items c p ∙ ap (λ c. c ∷ reverse o.children.items) k ∙ ap (λ (b : ℕ × List _). kept s ∷ b.1) e

-- the last open node is the deepest
pub deepest : {C : Type 0} (old new : List (OpenNode C)) (o : OpenNode C) → old ≡ new ++ o ∷ [] → above_of old ≡ open_node o ∷ above_of new
deepest old new o e = ap above_of e ∙ ap reverse (map-append open_node new (o ∷ [])) ∙ reverse-append (map open_node new) (open_node o ∷ [])

-- the last of a list with one more
last_of_append : {A : Type 0} (xs : List A) (x : A) → slice_get (xs ++ x ∷ []) (length (xs ++ x ∷ []) - 1) ≡ Some x
last_of_append xs x = ap (slice_get (xs ++ x ∷ [])) (let l = length-append xs (x ∷ []) in omega (arith, l)) ∙ go xs
  where
    go : (xs : List _) → slice_get (xs ++ x ∷ []) (length xs) ≡ Some x
    go [] = refl
    go (y ∷ xs) = go xs

-- what is taken from the end is the deepest open node
pub popped : {C : Type 0} (old new : List (OpenNode C)) (r : Option (OpenNode C)) (l : OpenNode C) (least : ℕ) → old ≡ new ++ option_to_list r → Some l ≡ slice_get old (length old - 1) → least ≤ l.bits →
    IfSome r (λ o. (above_of old ≡ open_node o ∷ above_of new) × (least ≤ o.bits))
popped old new None l least e f m = tt
popped old new (Some o) l least e f m =
    let g : Some l ≡ Some o = f ∙ ap (λ xs. slice_get xs (length xs - 1)) e ∙ last_of_append new o in
    let h : l ≡ o = cc in
    (deepest old new o e, subst (λ (o : OpenNode _). least ≤ o.bits) h m)
