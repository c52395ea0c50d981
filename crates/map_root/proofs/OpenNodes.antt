-- The open nodes above the node in hand, and the values that they and it stand for.
use Rattle.std.proofs.Common.{◌≡◌, ℕ, ◌+◌, ◌*◌, ◌^◌, ◌<◌, ◌≤◌, Bool, true, false, cond, List, [], ◌∷◌, ◌++◌, length, take, drop, refl, sym, ap, ◌∙◌, arith, subst, inl, inr, append_assoc, length-drop}
use Rattle.std.specs.Prelude.{nat_le}
use Rattle.std.specs.List.{AllByRecursion}
use Rattle.std.proofs.lemmas.List.{length-take-le}
use Rattle.trie_model.specs.Bits.{is_prefix}
use Rattle.trie_model.specs.Ids.{node_key, digest_at, id}
use Rattle.trie_model.specs.Items.{Item, position, AreValues}
use Rattle.trie_model.specs.StoredNode.{StoredNode}
use Rattle.trie_model.specs.Table.{Row, node_id, first_id, items_table, is_some}
use Rattle.trie_model.proofs.Children.{Placed, tok, front_small}
use Rattle.trie_model.proofs.KeySets.{All-of}
use Rattle.trie_model.proofs.Lists.{All-weaker, Member-append-right}
use Rattle.trie_model.proofs.Tables.{table-unfold, first_id-is, group_child, group_children, rows_below}
use Rattle.trie_model.proofs.Prefixes.{is_prefix-take, is_prefix-through, length-is_prefix}
use Rattle.trie_model.proofs.Positions.{node_key-is_prefix}
use Rattle.base_model.specs.Bits.{number_of}
use Rattle.map_root.specs.PassState.{Unfinished, PassState, child_under, parent, climb, AreNested}
use Rattle.trie_model.proofs.PartsOfValues.{AreValues-left, All-append, digest_none}
use Rattle.trie_model.proofs.SharedBits.{tok-front, tok-take, take-shorter, take-itself, met_at}
use Rattle.trie_model.proofs.TokenGroups.{children-first, rows-first}

-- ---- an open node and the nodes above it
-- the values that an open node has besides those on the way to a key
pub record Besides (w : ℕ) (f : List Bool) (o : Unfinished) (g : List Item) : Type 0 where
  pub placed : AllByRecursion (Placed w (take o.0 f)) g
  pub later : AllByRecursion (λ i. tok w (take o.0 f) f < tok w (take o.0 f) (position w i)) g
  pub kept : o.1 ≡ group_children w (take o.0 f) g

-- open nodes, each with values of its own, and the rows below these
abbrev pub Above : ℕ → List Bool → List Unfinished → List Item → List Row → Type 0
Above w f [] is rows = (is ≡ []) × (rows ≡ [])
Above w f (o ∷ above) is rows =
    (i : Item) × (g : List Item) × (others : List Item) × (later : List Row) × (is ≡ i ∷ g ++ others) × (rows ≡ rows_below w (take o.0 f) (i ∷ g) ++ later) × Besides w f o (i ∷ g) × Above w f above others later

-- a state that stands for some values: those of the node in hand, and those besides
pub record StandsFor (w : ℕ) (is : List Item) (y : PassState) : Type 0 where
  pub i : Item
  pub g : List Item
  pub others : List Item
  pub later : List Row
  pub split : is ≡ i ∷ g ++ others
  pub key : node_key w (i ∷ g) ≡ y.low.0
  pub node : y.low.1 ≡ record { digest = digest_at y.low.0 (i ∷ g); children = group_children w y.low.0 (i ∷ g) }
  pub rows : y.rows ≡ rows_below w y.low.0 (i ∷ g) ++ later
  pub whole : (n : ℕ) × (length y.low.0 ≡ w * n)
  pub nested : AreNested w (length y.low.0) y.above
  pub above : Above w y.low.0 y.above others later

-- ---- the table of the node in hand
module _ (w : ℕ) (i : Item) (g : List Item) (r : Row) (p : AreValues w (i ∷ g)) (key : node_key w (i ∷ g) ≡ r.0) (node : r.1 ≡ record { digest = digest_at r.0 (i ∷ g); children = group_children w r.0 (i ∷ g) }) where
  -- its row, and the rows below it, are the table of its values
  pub own_table : items_table w (i ∷ g) ≡ r ∷ rows_below w r.0 (i ∷ g)
  own_table =
      table-unfold w i g p
      ∙ ap (λ k. (k, record { digest = digest_at k (i ∷ g); children = group_children w k (i ∷ g) }) ∷ rows_below w k (i ∷ g)) key
      ∙ ap (λ d. (r.0, d) ∷ rows_below w r.0 (i ∷ g)) (sym node)

  -- its ID is that of its values
  pub own_id : node_id r ≡ id w (i ∷ g)
  own_id = ap first_id (sym own_table) ∙ first_id-is w (i ∷ g) p

  -- the values of the node in hand begin with its key
  begun : AllByRecursion (λ j. is_prefix r.0 (position w j) ≡ true) (i ∷ g)
  begun = All-of _ (i ∷ g) (λ j m. subst (λ k. is_prefix k (position w j) ≡ true) key (node_key-is_prefix w (i ∷ g) j m))

  -- the node at its key's first b bits
  module _ (b n : ℕ) (far : b + w ≤ length r.0) (whole : b ≡ w * n) where
    -- the front has so many bits
    pub front_length : length (take b r.0) ≡ b
    front_length = length-take-le b r.0 (omega (arith, far))

    -- the values in hand lie below the front
    pub placed_low : AllByRecursion (Placed w (take b r.0)) (i ∷ g)
    placed_low = All-weaker (λ j. is_prefix r.0 (position w j) ≡ true) (Placed w (take b r.0)) (i ∷ g) (λ j h. record {
      starts = is_prefix-through (take b r.0) r.0 (position w j) (is_prefix-take b r.0) h;
      long = let l = length-is_prefix r.0 (position w j) h in omega (arith, l, far, front_length);
    }) begun

    -- and all go on with one token
    pub token_low : AllByRecursion (λ j. tok w (take b r.0) (position w j) ≡ tok w (take b r.0) r.0) (i ∷ g)
    token_low = All-weaker (λ j. is_prefix r.0 (position w j) ≡ true) _ (i ∷ g) (λ j h. tok-front w (take b r.0) r.0 (position w j) h (omega (arith, far, front_length))) begun

    -- which is below the factor
    token_small : tok w (take b r.0) r.0 < 2 ^ w
    token_small = front_small w (drop (length (take b r.0)) r.0) (omega (arith, far, front_length, length-drop (length (take b r.0)) r.0))

    -- the child that is made of them is the node in hand
    child_is : group_child w (take b r.0) (tok w (take b r.0) r.0) (i ∷ g) ≡ child_under w b r ∷ []
    child_is =
        ap (λ n. record { index = number_of (take w (drop n r.0)); rest = drop (n + w) (node_key w (i ∷ g)); id = id w (i ∷ g); has_value = is_some (digest_at (node_key w (i ∷ g)) (i ∷ g)) } ∷ []) front_length
        ∙ ap (λ c. record { index = number_of (take w (drop b r.0)); rest = drop (b + w) c; id = id w (i ∷ g); has_value = is_some (digest_at c (i ∷ g)) } ∷ []) key
        ∙ ap (λ x. record { index = number_of (take w (drop b r.0)); rest = drop (b + w) r.0; id = x; has_value = is_some (digest_at r.0 (i ∷ g)) } ∷ []) (sym own_id)
        ∙ ap (λ (d : StoredNode). record { index = number_of (take w (drop b r.0)); rest = drop (b + w) r.0; id = node_id r; has_value = is_some d.digest } ∷ []) (sym node)

    module _ (o : Unfinished) (at : o.0 ≡ b) (g1 : List Item) (d : Besides w r.0 o g1) where
      -- the open node has the front for its key
      k_at : take o.0 r.0 ≡ take b r.0
      k_at = ap (λ b. take b r.0) at

      -- all values lie below the front
      pub placed_both : AllByRecursion (Placed w (take b r.0)) ((i ∷ g) ++ g1)
      placed_both = All-append _ (i ∷ g) g1 placed_low (subst (λ k. AllByRecursion (Placed w k) g1) k_at d.placed)

      -- the other values have later tokens
      pub later_both : AllByRecursion (λ j. tok w (take b r.0) r.0 < tok w (take b r.0) (position w j)) g1
      later_both = subst (λ k. AllByRecursion (λ j. tok w k r.0 < tok w k (position w j)) g1) k_at d.later

      -- the node in hand is the first child of the open node
      pub both_children : child_under w b r ∷ o.1 ≡ group_children w (take b r.0) ((i ∷ g) ++ g1)
      both_children =
          ap (λ cs. child_under w b r ∷ cs) (d.kept ∙ ap (λ k. group_children w k g1) k_at)
          ∙ ap (λ c. c ++ group_children w (take b r.0) g1) (sym child_is)
          ∙ sym (children-first w (tok w (take b r.0) r.0) (take b r.0) (i ∷ g) g1 placed_both token_low later_both token_small)

      -- and the rows below it come first
      pub both_rows : (rows later : List Row) → rows ≡ rows_below w r.0 (i ∷ g) ++ (rows_below w (take o.0 r.0) g1 ++ later) → r ∷ rows ≡ rows_below w (take b r.0) ((i ∷ g) ++ g1) ++ later
      both_rows rows later e =
          ap (λ x. r ∷ x) (e ∙ ap (λ k. rows_below w r.0 (i ∷ g) ++ (rows_below w k g1 ++ later)) k_at)
          ∙ ap (λ x. x ++ (rows_below w (take b r.0) g1 ++ later)) (sym own_table)
          ∙ sym (append_assoc (items_table w (i ∷ g)) (rows_below w (take b r.0) g1) later)
          ∙ ap (λ x. x ++ later) (sym (rows-first w (tok w (take b r.0) r.0) (take b r.0) (i ∷ g) g1 placed_both token_low later_both token_small))

      -- all keys begin with the front
      pub begun_both : AllByRecursion (λ j. is_prefix (take b r.0) (position w j) ≡ true) ((i ∷ g) ++ g1)
      begun_both = All-weaker (Placed w (take b r.0)) _ ((i ∷ g) ++ g1) (λ j h. h.starts) placed_both

-- ---- keys that begin alike have the same nodes above them
-- an open node has the same values besides, seen from each key that begins alike
Besides-same : (w low : ℕ) (f q : List Bool) (o : Unfinished) (g : List Item) → take low f ≡ take low q → o.0 + w ≤ low → low ≤ length f → Besides w f o g → Besides w q o g
Besides-same w low f q o g e l m d =
    let k : take o.0 f ≡ take o.0 q = take-shorter o.0 low f q e (omega arith) in
    let t : tok w (take o.0 f) f ≡ tok w (take o.0 f) q = tok-take w low (take o.0 f) f q e (let x = length-take-le o.0 f (omega arith) in omega (arith, x)) in
    record {
      placed = subst (λ k. AllByRecursion (Placed w k) g) k d.placed;
      later = subst (λ k. AllByRecursion (λ i. tok w k q < tok w k (position w i)) g) k (subst (λ t. AllByRecursion (λ i. t < tok w (take o.0 f) (position w i)) g) t d.later);
      kept = d.kept ∙ ap (λ k. group_children w k g) k;
    }

-- and so have those above it
pub Above-same : (w low : ℕ) (f q : List Bool) (above : List Unfinished) (is : List Item) (rows : List Row) → take low f ≡ take low q → low ≤ length f → AreNested w low above → Above w f above is rows → Above w q above is rows
Above-same w low f q [] is rows e m n h = h
Above-same w low f q (o ∷ above) is rows e m n h =
    let k : take o.0 f ≡ take o.0 q = take-shorter o.0 low f q e (let l = n.0 in omega (arith, l)) in (
      h.0,
      h.1,
      h.2,
      h.3,
      h.4,
      h.5 ∙ ap (λ k. rows_below w k (h.0 ∷ h.1) ++ h.3) k,
      Besides-same w low f q o (h.0 ∷ h.1) e n.0 m h.6,
      Above-same w o.0 f q above h.2 h.3 k (let l = n.0 in omega (arith, l, m)) n.2 h.7,
    )

-- ---- the node above is in hand
-- the open node above gets its first child and is in hand
pub rise : (w : ℕ) (is : List Item) (r : Row) (o : Unfinished) (above : List Unfinished) (rows : List Row) → AreValues w is →
    StandsFor w is (record { low = r; above = o ∷ above; rows = rows }) → StandsFor w is (record { low = parent w r o; above = above; rows = r ∷ rows })
rise w is r o above rows p h =
    let a = h.above in
    let m = h.nested in
    let q : AreValues w (h.i ∷ h.g) = AreValues-left w (h.i ∷ h.g) h.others (subst (AreValues w) h.split p) in
    let g1 = a.0 ∷ a.1 in
    let placed = placed_both w h.i h.g r q h.key h.node o.0 m.1.0 m.0 m.1.1 o refl g1 a.6 in
    let l = length-take-le o.0 r.0 (let x = m.0 in omega (arith, x)) in
    let split : is ≡ h.i ∷ (h.g ++ g1) ++ a.2 = h.split ∙ ap (λ x. h.i ∷ h.g ++ x) a.4 ∙ ap (λ x. h.i ∷ x) (sym (append_assoc h.g g1 a.2)) in
    record {
      i = h.i;
      g = h.g ++ g1;
      others = a.2;
      later = a.3;
      split = split;
      key = met_at w m.1.0 (take o.0 r.0) h.i (h.g ++ g1) a.0 p.pos (l ∙ m.1.1) (begun_both w h.i h.g r q h.key h.node o.0 m.1.0 m.0 m.1.1 o refl g1 a.6) (inr (Member-append-right h.g g1 a.0 (inl refl)))
          (let t = (token_low w h.i h.g r q h.key h.node o.0 m.1.0 m.0 m.1.1).0 in let u = a.6.later.0 in omega (arith, t, u));
      node =
          ap (λ d. record { digest = d; children = child_under w o.0 r ∷ o.1 }) (sym (digest_none w (take o.0 r.0) (h.i ∷ h.g ++ g1) p.pos (AreValues-left w (h.i ∷ h.g ++ g1) a.2 (subst (AreValues w) split p)).values placed))
          ∙ ap (λ cs. record { digest = digest_at (take o.0 r.0) (h.i ∷ h.g ++ g1); children = cs }) (both_children w h.i h.g r q h.key h.node o.0 m.1.0 m.0 m.1.1 o refl g1 a.6);
      rows = both_rows w h.i h.g r q h.key h.node o.0 m.1.0 m.0 m.1.1 o refl g1 a.6 rows a.3 (h.rows ∙ ap (λ x. rows_below w r.0 (h.i ∷ h.g) ++ x) a.5);
      whole = (m.1.0, l ∙ m.1.1);
      nested = subst (λ n. AreNested w n above) (sym l) m.2;
      above = Above-same w o.0 r.0 (take o.0 r.0) above a.2 a.3 (take-itself o.0 r.0 (let x = m.0 in omega (arith, x))) (let x = m.0 in omega (arith, x)) m.2 a.7;
    }

-- climbing keeps the state standing for all values
pub climb-StandsFor : (w least : ℕ) (is : List Item) (r : Row) (above : List Unfinished) (rows : List Row) → AreValues w is →
    StandsFor w is (record { low = r; above = above; rows = rows }) → StandsFor w is (climb w least r above rows)
climb-StandsFor w least is r [] rows p h = h
climb-StandsFor w least is r (o ∷ above) rows p h = go (nat_le least o.0) (climb-StandsFor w least is (parent w r o) above (r ∷ rows) p (rise w is r o above rows p h)) h
  where
    go : (b : Bool) → StandsFor w is (climb w least (parent w r o) above (r ∷ rows)) → StandsFor w is (record { low = r; above = o ∷ above; rows = rows }) →
        StandsFor w is (cond b (climb w least (parent w r o) above (r ∷ rows)) (record { low = r; above = o ∷ above; rows = rows }))
    go true a b = a
    go false a b = b
