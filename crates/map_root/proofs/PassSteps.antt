-- The steps of the pass: where the code stands after climbing, and after laying one more entry.
use Rattle.std.proofs.Common.{◌≡◌, ℕ, suc, ◌+◌, ◌*◌, ◌<◌, ◌≤◌, Bool, true, false, cond, List, [], ◌∷◌, length, map, refl, sym, ap, ◌∙◌, arith, subst, Less, add-one}
use Rattle.std.specs.Prelude.{nat_le, Result, Ok, Err, OnOk, OnErr}
use Rattle.std.proofs.lemmas.Bool.Decides.{nat_tests}
use Rattle.std.proofs.lemmas.List.{length-take-le}
use Rattle.trie_model.specs.Bits.{key_cmp, common_prefix, whole_tokens}
use Rattle.trie_model.specs.StoredNode.{StoredChild}
use Rattle.trie_model.specs.Table.{Row}
use Rattle.trie_model.proofs.Prefixes.{is_prefix-itself}
use Rattle.map_root.specs.declared.entry.Entry.{Entry}
use Rattle.map_root.specs.declared.nodes.ClosedNode.{ClosedNode}
use Rattle.map_root.specs.declared.nodes.OpenNode.{OpenNode}
use Rattle.map_root.specs.PassState.{Unfinished, PassState, child_under, parent, climb, climb_from, open_at, settle, settle_at, meet, lay, AreNested, IsBelow}
use Rattle.map_root.specs.KeptNodes.{open_node, above_of, kept_open, IsRow, Stands, StandsNested}
use Rattle.map_root.specs.Hashes.{HashedAll, HashedAtMost, GrewAtMost}
use Rattle.trie_model.proofs.MeetingKeys.{meeting}
use Rattle.map_root.proofs.PassTable.{Climbed, climbed, settle-rows}

-- what holds anyway holds where a call succeeded, and where it failed
pub after_ok : {T E P : Type 0} (r : Result T E) → P → OnOk r P
after_ok (Ok x) p = p
after_ok (Err e) p = tt

pub after_err : {T E P : Type 0} (r : Result T E) → P → OnErr r P
after_err (Ok x) p = tt
after_err (Err e) p = p

-- ---- what is kept of open nodes
-- the first of them, and the others
pub record Deepest {C : Type 0} (kept : StoredChild → C) (b : ℕ × List C) (bs : List (ℕ × List C)) (above : List Unfinished) : Type 0 where
  pub o : Unfinished
  pub os : List Unfinished
  pub split : above ≡ o ∷ os
  pub first : b ≡ kept_open kept o
  pub others : bs ≡ map (kept_open kept) os

deepest_of : {C : Type 0} (kept : StoredChild → C) (b : ℕ × List C) (bs : List (ℕ × List C)) (above : List Unfinished) → b ∷ bs ≡ map (kept_open kept) above → Deepest kept b bs above
deepest_of kept b bs [] e = absurd (cc)
deepest_of kept b bs (o ∷ os) e = record { o = o; os = os; split = refl; first = cc; others = cc }

-- they have the bits of the open nodes
below_kept : {C : Type 0} (kept : StoredChild → C) (least : ℕ) (above : List Unfinished) → IsBelow least (map (kept_open kept) above) → IsBelow least above
below_kept kept least [] h = tt
below_kept kept least (o ∷ above) h = h

-- so the same one is found
module _ {C : Type 0} (kept : StoredChild → C) (c : ℕ) where
  -- the same of both
  abbrev both : (Unfinished × List Unfinished) → (ℕ × List C) × List (ℕ × List C)
  both p = (kept_open kept p.0, map (kept_open kept) p.1)

  open_at-kept : (above : List Unfinished) → open_at c (map (kept_open kept) above) ≡ both (open_at c above)
  open_at-kept [] = refl
  open_at-kept (o ∷ above) = go (nat_le c o.0)
    where
      go : (b : Bool) → cond b (both (o, above)) (both ((c, []), o ∷ above)) ≡ both (cond b (o, above) ((c, []), o ∷ above))
      go true = refl
      go false = refl

-- ---- climbing
-- an open node of enough bits gets its first child
climb_on : (w least : ℕ) (low : Row) (o : Unfinished) (above : List Unfinished) (rows : List Row) → least ≤ o.0 → climb w least low (o ∷ above) rows ≡ climb w least (parent w low o) above (low ∷ rows)
climb_on w least low o above rows l = ap (λ b. cond b (climb w least (parent w low o) above (low ∷ rows)) (record { low = low; above = o ∷ above; rows = rows })) (yes least o.0 l)
  where
    yes : (a b : ℕ) → a ≤ b → nat_le a b ≡ true
    yes a b l = grind (arith, nat_tests)

-- no open node has enough bits
climb_stop : (w least : ℕ) (low : Row) (above : List Unfinished) (rows : List Row) → IsBelow least above → climb w least low above rows ≡ record { low = low; above = above; rows = rows }
climb_stop w least low [] rows b = refl
climb_stop w least low (o ∷ above) rows b = ap (λ t. cond t (climb w least (parent w low o) above (low ∷ rows)) (record { low = low; above = o ∷ above; rows = rows })) (no least o.0 b)
  where
    no : (a b : ℕ) → b < a → nat_le a b ≡ false
    no a b l = grind (arith, nat_tests)

-- no finished node is lost
pub climb_grows : (w least : ℕ) (low : Row) (above : List Unfinished) (rows : List Row) → length rows ≤ length (climb w least low above rows).rows
climb_grows w least low [] rows = omega arith
climb_grows w least low (o ∷ above) rows = go (nat_le least o.0) (climb_grows w least (parent w low o) above (low ∷ rows))
  where
    go : (b : Bool) → suc (length rows) ≤ length (climb w least (parent w low o) above (low ∷ rows)).rows →
        length rows ≤ length (cond b (climb w least (parent w low o) above (low ∷ rows)) (record { low = low; above = o ∷ above; rows = rows })).rows
    go true l = omega (arith, l)
    go false l = omega arith

module _ {S C : Type 0} (kept : StoredChild → C) (holds : S → List Row → Type 0) (w least : ℕ) where
  -- the code stands on the way from y to where climbing ends
  pub record Toward (y : PassState) (low : ClosedNode C) (os : List (OpenNode C)) (sink : S) (before now : ℕ) : Type 0 where
    pub at : PassState
    pub stands : Stands kept holds low os sink at
    pub leads : climb_from w least at ≡ climb_from w least y
    pub count : now + length y.rows ≡ before + length at.rows

  -- where climbing begins
  pub toward_start : (y : PassState) (low : ClosedNode C) (os : List (OpenNode C)) (sink : S) (before : ℕ) → Stands kept holds low os sink y → Toward y low os sink before before
  toward_start y low os sink before s = record { at = y; stands = s; leads = refl; count = refl }

  -- no open node is left that is deep enough
  pub toward_end : (y : PassState) (low : ClosedNode C) (os left : List (OpenNode C)) (sink : S) (before now : ℕ) → Toward y low os sink before now → left ≡ os → IsBelow least (above_of os) →
      Stands kept holds low left sink (climb_from w least y) × HashedAll before now y (climb_from w least y)
  toward_end y low os left sink before now t l b =
      let e : t.at ≡ climb_from w least y = sym (climb_stop w least t.at.low t.at.above t.at.rows (below_kept kept least t.at.above (subst (IsBelow least) t.stands.above_is b))) ∙ t.leads in
      (subst (λ os. Stands kept holds low os sink (climb_from w least y)) (sym l) (subst (Stands kept holds low os sink) e t.stands), t.count ∙ ap (λ (z : PassState). before + length z.rows) e)

  module _ (low : ClosedNode C) (os rest : List (OpenNode C)) (o : OpenNode C) (sink : S) (taken : above_of os ≡ open_node o ∷ above_of rest) (enough : least ≤ o.bits) where
    -- the open node that was taken
    of : (y : PassState) → Stands kept holds low os sink y → Deepest kept (open_node o) (above_of rest) y.above
    of y s = deepest_of kept (open_node o) (above_of rest) y.above (sym taken ∙ s.above_is)

    -- its bits
    bits_of : (y : PassState) (s : Stands kept holds low os sink y) → o.bits ≡ (of y s).o.0
    bits_of y s = ap (λ (b : ℕ × List C). b.0) (of y s).first

    -- it lies a token above the node in hand
    pub taken_inside : StandsNested kept holds w low os sink → (o.bits + w ≤ length low.key) × ((n : ℕ) × (o.bits ≡ w * n))
    taken_inside (y, s, n) =
        let d = of y s in
        let m = subst (AreNested w (length y.low.0)) d.split n in
        let b = bits_of y s in
        (let k = ap length s.low_is.key in let x = m.0 in omega (arith, b, k, x), (m.1.0, b ∙ m.1.1))

    module _ (next : ClosedNode C) (then : S) (parent_is : (r : Row) (u : Unfinished) → IsRow kept low r → open_node o ≡ kept_open kept u → IsRow kept next (parent w r u)) where
      -- the state with its parent in hand
      up : (y : PassState) → Stands kept holds low os sink y → PassState
      up y s = record { low = parent w y.low (of y s).o; above = (of y s).os; rows = y.low ∷ y.rows }

      module _ (takes : (r : Row) (rows : List Row) → IsRow kept low r → holds sink rows → holds then (r ∷ rows)) where
        -- there the code stands
        stands_up : (y : PassState) (s : Stands kept holds low os sink y) → Stands kept holds next rest then (up y s)
        unfolding up
        stands_up y s = record { low_is = parent_is y.low (of y s).o s.low_is (of y s).first; above_is = (of y s).others; rows_are = takes y.low y.rows s.low_is s.rows_are }

        -- with nested open nodes
        pub nested_turn : StandsNested kept holds w low os sink → StandsNested kept holds w next rest then
        unfolding up
        nested_turn (y, s, n) =
            let m = subst (AreNested w (length y.low.0)) (of y s).split n in
            (up y s, stands_up y s, subst (λ k. AreNested w k (of y s).os) (sym (length-take-le (of y s).o.0 y.low.0 (let x = m.0 in omega (arith, x)))) m.2)

        -- one node more is finished
        pub toward_turn : (y : PassState) (before now later : ℕ) → later ≡ now + 1 → Toward y low os sink before now → Toward y next rest then before later
        unfolding up
        toward_turn y before now later l t =
            let d = of t.at t.stands in
            let b = bits_of t.at t.stands in
            record {
              at = up t.at t.stands;
              stands = stands_up t.at t.stands;
              leads = sym (climb_on w least t.at.low d.o d.os t.at.rows (omega (arith, b, enough))) ∙ ap (λ x. climb w least t.at.low x t.at.rows) (sym d.split) ∙ t.leads;
              count = let c = t.count in omega (arith, c, l);
            }

    -- where memory lacks for its parent, one node at most was hashed that is not finished
    pub toward_err : (y : PassState) (before now later : ℕ) → before ≤ now → GrewAtMost 1 now later → Toward y low os sink before now → HashedAtMost before later y (climb_from w least y)
    toward_err y before now later a l t =
        let d = of t.at t.stands in
        let b = bits_of t.at t.stands in
        let e = sym (climb_on w least t.at.low d.o d.os t.at.rows (omega (arith, b, enough))) ∙ ap (λ x. climb w least t.at.low x t.at.rows) (sym d.split) ∙ t.leads in
        let g = climb_grows w least (parent w t.at.low d.o) d.os (t.at.low ∷ t.at.rows) in
        let f = ap (λ (z : PassState). length z.rows) e in
        let c = t.count in
        let m = l.0 in
        let n = l.1 in
        (omega (arith, a, m), omega (arith, c, n, g, f))

-- ---- laying
-- where a key below that of the node in hand leaves the open nodes
pub record Leaves (w bits : ℕ) (k : List Bool) : Type 0 where
  pub inside : bits + w ≤ length k
  pub whole : (n : ℕ) × (bits ≡ w * n)

-- the fork has as many bits as are shared
open_at-is : (c : ℕ) (above : List Unfinished) → IsBelow (suc c) above → (open_at c above).0.0 ≡ c
open_at-is c [] b = refl
open_at-is c (o ∷ above) b = go (nat_le c o.0) refl
  where
    go : (t : Bool) → nat_le c o.0 ≡ t → (cond {A = Unfinished × List Unfinished} t (o, above) ((c, []), o ∷ above)).0.0 ≡ c
    go true t = grind (arith, nat_tests)
    go false t = refl

-- one bit more than are shared
pub one_more_bit : (w m n c : ℕ) (k f : List Bool) → 0 < w → length k ≡ w * m → length f ≡ w * n → key_cmp k f ≡ Less → c ≡ length (whole_tokens w (common_prefix k f)) → c + 1 ≤ length f
one_more_bit w m n c k f pos a b l ce = let t = meeting w m n k f pos a b l in let x = t.far in omega (arith, x, ce, pos)

-- laying, by the bits that are shared
lay_is : (w c : ℕ) (e : Entry) (y : PassState) → c ≡ meet w e y.low → settle_at w e c (climb_from w (c + 1) y) ≡ lay w e y
lay_is w c e y f = ap (λ n. settle_at w e c (climb_from w n y)) (add-one c) ∙ ap (λ c. settle_at w e c (climb_from w (suc c) y)) f

-- the nodes that are finished
lay-rows : (w c : ℕ) (e : Entry) (y : PassState) → c ≡ meet w e y.low → (lay w e y).rows ≡ (climb_from w (c + 1) y).low ∷ (climb_from w (c + 1) y).rows
lay-rows w c e y f = ap (λ (z : PassState). z.rows) (sym (lay_is w c e y f)) ∙ settle-rows w e (climb_from w (c + 1) y).low _ _ (climb_from w (c + 1) y).rows

-- one node at least
pub lay_grows : (w : ℕ) (e : Entry) (y : PassState) → length y.rows < length (lay w e y).rows
lay_grows w e y =
    let c = meet w e y.low in
    let g = climb_grows w (c + 1) y.low y.above y.rows in
    let f = ap length (lay-rows w c e y refl) in
    omega (arith, g, f)

module _ {S C : Type 0} (kept : StoredChild → C) (holds : S → List Row → Type 0) (w c : ℕ) (e : Entry) (low : ClosedNode C) (os : List (OpenNode C)) (sink : S) (shares : c ≡ length (whole_tokens w (common_prefix e.key low.key))) where
  -- the bits that are shared
  shared : (y : PassState) → Stands kept holds low os sink y → c ≡ meet w e y.low
  shared y s = shares ∙ ap (λ k. length (whole_tokens w (common_prefix e.key k))) s.low_is.key

  -- how many nodes are hashed when the entry is laid
  pub lay_cost : (y : PassState) (before now later : ℕ) → Stands kept holds low os sink y → HashedAll before now y (climb_from w (c + 1) y) → later ≡ now + 1 → HashedAll before later y (lay w e y)
  lay_cost y before now later s h l = let f = ap length (lay-rows w c e y (shared y s)) in omega (arith, h, l, f)

  -- how many at most, where memory lacks behind climbing
  pub lay_err : (y : PassState) (before now later : ℕ) → Stands kept holds low os sink y → HashedAll before now y (climb_from w (c + 1) y) → GrewAtMost 1 now later → HashedAtMost before later y (lay w e y)
  lay_err y before now later s h l =
      let f = ap length (lay-rows w c e y (shared y s)) in
      let g = climb_grows w (c + 1) y.low y.above y.rows in
      let a = l.0 in
      let b = l.1 in
      (omega (arith, h, a, g), omega (arith, h, b, f))

  -- and while climbing
  pub lay_err_below : (y : PassState) (before later : ℕ) → Stands kept holds low os sink y → HashedAtMost before later y (climb_from w (c + 1) y) → HashedAtMost before later y (lay w e y)
  lay_err_below y before later s h = let f = ap length (lay-rows w c e y (shared y s)) in let a = h.1 in (h.0, omega (arith, a, f))

  module _ (node : ClosedNode C) (os1 : List (OpenNode C)) (sink1 : S) (upper : OpenNode C) (climbs : (y : PassState) → Stands kept holds low os sink y → Stands kept holds node os1 sink1 (climb_from w (c + 1) y)) (opens : open_node upper ≡ (open_at c (above_of os1)).0) where
    -- the open node of so many bits, and those above it
    opened : (y : PassState) → Stands kept holds low os sink y → open_at c (above_of os1) ≡ both kept c (open_at c (climb_from w (c + 1) y).above)
    opened y s = ap (open_at c) (climbs y s).above_is ∙ open_at-kept kept c (climb_from w (c + 1) y).above

    upper_is : (y : PassState) → Stands kept holds low os sink y → open_node upper ≡ kept_open kept (open_at c (climb_from w (c + 1) y).above).0
    upper_is y s = opens ∙ ap (λ (x : (ℕ × List C) × List (ℕ × List C)). x.0) (opened y s)

    -- it lies a token above the node in hand
    pub lay_leaves : (m n : ℕ) → 0 < w → length e.key ≡ w * m → length low.key ≡ w * n → key_cmp e.key low.key ≡ Less → StandsNested kept holds w low os sink → Leaves w upper.bits node.key
    lay_leaves m n pos a b l (y, s, nest) =
        let z = climb_from w (c + 1) y in
        let h = ap length s.low_is.key in
        let t = meeting w m n e.key low.key pos a b l in
        let f = t.far in
        let x = subst (λ n. Climbed w c y.low.0 (climb w n y.low y.above y.rows)) (sym (add-one c)) (climbed w c t.m y.low.0 y.low y.above y.rows (shares ∙ t.whole) nest (is_prefix-itself y.low.0) (omega (arith, f, h, shares))) in
        let g = ap (λ (b : ℕ × List C). b.0) (upper_is y s) ∙ open_at-is c z.above x.below in
        let k = ap length (climbs y s).low_is.key in
        record { inside = let i = x.far in omega (arith, i, g, k); whole = (t.m, g ∙ shares ∙ t.whole) }

    -- where the code stands when the entry is laid
    pub lay_stands : (os2 : List (OpenNode C)) (child : C) (made : ClosedNode C) (final : List (OpenNode C)) (then : S) → above_of os2 ≡ (open_at c (above_of os1)).1 → ((r : Row) → IsRow kept node r → child ≡ kept (child_under w upper.bits r)) →
        ((r : Row) (rows : List Row) → IsRow kept node r → holds sink1 rows → holds then (r ∷ rows)) →
        ((w : ℕ) (r : Row) (o : Unfinished) (us : List Unfinished) (rows : List Row) → child ≡ kept (child_under w o.0 r) → open_node upper ≡ kept_open kept o → above_of os2 ≡ map (kept_open kept) us →
        IsRow kept made (settle w e r o us rows).low × (above_of final ≡ map (kept_open kept) (settle w e r o us rows).above)) →
        (y : PassState) → Stands kept holds low os sink y → Stands kept holds made final then (lay w e y)
    lay_stands os2 child made final then rest child_is takes settles y s =
        let z = climb_from w (c + 1) y in
        let t = climbs y s in
        let o = open_at c z.above in
        let u = upper_is y s in
        let k = settles w z.low o.0 o.1 z.rows (child_is z.low t.low_is ∙ ap (λ (b : ℕ × List C). kept (child_under w b.0 z.low)) u) u (rest ∙ ap (λ (x : (ℕ × List C) × List (ℕ × List C)). x.1) (opened y s)) in
        subst (Stands kept holds made final then) (lay_is w c e y (shared y s)) (record {
          low_is = k.0;
          above_is = k.1;
          rows_are = subst (holds then) (sym (settle-rows w e z.low o.0 o.1 z.rows)) (takes z.low z.rows t.low_is t.rows_are);
        })
