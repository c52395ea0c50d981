-- The pass over the entries from the last to the first, and its end.
use Rattle.std.proofs.Common.{◌≡◌, ℕ, ◌+◌, ◌*◌, ◌<◌, ◌≤◌, List, [], ◌∷◌, ◌++◌, length, refl, sym, ap, ◌∙◌, arith, subst, Less, append_assoc}
use Rattle.trie_model.specs.Bits.{IsRising, key_cmp}
use Rattle.trie_model.specs.Ids.{id}
use Rattle.trie_model.specs.StoredNode.{StoredChild}
use Rattle.trie_model.specs.Table.{Row, node_id, items_table}
use Rattle.trie_model.proofs.Lists.{All-append-right}
use Rattle.trie_model.specs.Items.{AreValues}
use Rattle.bit_keys.specs.declared.branch.Branch.{Branch}
use Rattle.bit_keys.specs.Branch.{width_of}
use Rattle.map_root.specs.declared.entry.Entry.{Entry}
use Rattle.map_root.specs.declared.nodes.ClosedNode.{ClosedNode}
use Rattle.map_root.specs.declared.nodes.OpenNode.{OpenNode}
use Rattle.map_root.specs.Entries.{keys_of, items_of, AreWhole}
use Rattle.map_root.specs.PassState.{PassState, climb_from, lay, passed, AreNested}
use Rattle.map_root.specs.KeptNodes.{IsRow, Stands}
use Rattle.map_root.specs.Hashes.{HashedAll, HashedAtMost, GrewAtMost}
use Rattle.map_root.proofs.EntryItems.{plain_entries, rising_behind}
use Rattle.map_root.proofs.PassSteps.{climb_grows, lay_grows}
use Rattle.map_root.proofs.PassTable.{passed-key, passed-StandsFor, passed-closed}

-- ---- the finished nodes
-- no more are finished after some entries than after more of them
rows_behind : (w : ℕ) (xs : List Entry) (e : Entry) (es : List Entry) (f : Entry) (fs : List Entry) → f ∷ fs ≡ xs ++ e ∷ es → length (passed w e es []).rows ≤ length (passed w f fs []).rows
rows_behind w [] e es f fs h = let a : f ≡ e = cc in let b : fs ≡ es = cc in omega (arith, ap (λ x. length (passed w x fs []).rows) a, ap (λ x. length (passed w e x []).rows) b)
rows_behind w (x ∷ []) e es f [] h = absurd (cc)
rows_behind w (x ∷ y ∷ xs) e es f [] h = absurd (cc)
rows_behind w (x ∷ xs) e es f (g ∷ gs) h =
    let t : g ∷ gs ≡ xs ++ e ∷ es = cc in
    let l = rows_behind w xs e es g gs t in
    let m = lay_grows w f (passed w g gs []) in
    omega (arith, l, m)

-- nor than the table of all has
rows_within : (b : Branch) (xs : List Entry) (e : Entry) (es : List Entry) (all : List Entry) → IsRising (keys_of all) → AreWhole (width_of b) all → all ≡ xs ++ e ∷ es → length (passed (width_of b) e es []).rows < length (items_table (width_of b) (items_of all))
rows_within b xs e es [] r h s = absurd (none xs s)
  where
    none : (xs : List Entry) → [] ≡ xs ++ e ∷ es → ⊥
    none [] s = cc
    none (x ∷ xs) s = cc
rows_within b xs e es (f ∷ fs) r h s =
    let w = width_of b in
    let y = passed w f fs [] in
    let l = rows_behind w xs e es f fs s in
    let c = ap length (passed-closed w f fs (plain_entries b (f ∷ fs) r h)).table in
    let g = climb_grows w 0 y.low y.above y.rows in
    omega (arith, l, c, g)

-- ---- the pass
-- the entries that are left, and those that were laid
pub record Laid {S C : Type 0} (kept : StoredChild → C) (holds : S → List Row → Type 0) (w : ℕ) (all rest : List Entry) (low : ClosedNode C) (os : List (OpenNode C)) (sink : S) (before now : ℕ) : Type 0 where
  pub e : Entry
  pub es : List Entry
  pub split : all ≡ rest ++ e ∷ es
  pub stands : Stands kept holds low os sink (passed w e es [])
  pub count : now ≡ before + length (passed w e es []).rows

module _ {S C : Type 0} (kept : StoredChild → C) (holds : S → List Row → Type 0) (b : Branch) (all : List Entry) (r : IsRising (keys_of all)) (h : AreWhole (width_of b) all) where
  module _ (rest : List Entry) (low : ClosedNode C) (os : List (OpenNode C)) (sink : S) (before now : ℕ) (p : Laid kept holds (width_of b) all rest low os sink before now) where
    -- the entries that were laid are plain values
    plain_laid : AreValues (width_of b) (items_of (p.e ∷ p.es))
    plain_laid = plain_entries b (p.e ∷ p.es) (rising_behind rest (p.e ∷ p.es) (subst (λ es. IsRising (keys_of es)) p.split r)) (All-append-right _ rest (p.e ∷ p.es) (subst (AreWhole (width_of b)) p.split h))

    -- the code stands at a state with nested open nodes
    pub nested_now : (y : PassState) × Stands kept holds low os sink y × AreNested (width_of b) (length y.low.0) y.above
    nested_now = (passed (width_of b) p.e p.es [], p.stands, (passed-StandsFor (width_of b) p.e p.es plain_laid).nested)

    -- no node was hashed twice
    pub rises_now : before ≤ now
    rises_now = let c = p.count in omega (arith, c)

  module _ (old rest : List Entry) (x : Entry) (low : ClosedNode C) (os : List (OpenNode C)) (sink : S) (before now : ℕ) (p : Laid kept holds (width_of b) all old low os sink before now) (o : old ≡ rest ++ x ∷ []) where
    -- one more entry is laid
    split_on : all ≡ rest ++ x ∷ p.e ∷ p.es
    split_on = p.split ∙ ap (λ y. y ++ p.e ∷ p.es) o ∙ append_assoc rest (x ∷ []) (p.e ∷ p.es)

    -- the key in hand is that of the entry laid before
    low_key : low.key ≡ p.e.key
    low_key = p.stands.low_is.key ∙ passed-key (width_of b) p.e p.es []

    -- its key is below it
    pub less_now : key_cmp x.key low.key ≡ Less
    less_now = subst (λ k. key_cmp x.key k ≡ Less) (sym low_key) (rising_behind rest (x ∷ p.e ∷ p.es) (subst (λ es. IsRising (keys_of es)) split_on r)).0.0

    -- both are of whole tokens
    pub whole_now : ((m : ℕ) × (length x.key ≡ width_of b * m)) × ((n : ℕ) × (length low.key ≡ width_of b * n))
    whole_now = let a = All-append-right _ rest (x ∷ p.e ∷ p.es) (subst (AreWhole (width_of b)) split_on h) in (a.0, (a.1.0.0, ap length low_key ∙ a.1.0.1))

    -- one more entry was laid
    pub laid_turn : (made : ClosedNode C) (final : List (OpenNode C)) (then : S) (later : ℕ) →
        ((y : PassState) → Stands kept holds low os sink y → Stands kept holds made final then (lay (width_of b) x y)) →
        ((y : PassState) → Stands kept holds low os sink y → HashedAll now later y (lay (width_of b) x y)) → Laid kept holds (width_of b) all rest made final then before later
    laid_turn made final then later s n =
        let y = passed (width_of b) p.e p.es [] in
        record { e = x; es = p.e ∷ p.es; split = split_on; stands = s y p.stands; count = let c = p.count in let d = n y p.stands in omega (arith, c, d) }

    -- memory lacked while it was laid
    pub laid_err : (later : ℕ) → ((y : PassState) → Stands kept holds low os sink y → HashedAtMost now later y (lay (width_of b) x y)) → GrewAtMost (length (items_table (width_of b) (items_of all))) before later
    laid_err later n =
        let m = n (passed (width_of b) p.e p.es []) p.stands in
        let i = m.0 in
        let j = m.1 in
        let c = p.count in
        let l = rows_within b rest x (p.e ∷ p.es) all r h split_on in
        (omega (arith, c, i), omega (arith, c, j, l))

  -- ---- its end
  -- where no entry is left, and all nodes are closed
  pub record Ended (node : ClosedNode C) (sink : S) (before now : ℕ) : Type 0 where
    pub y : PassState
    pub stands : (os : List (OpenNode C)) × Stands kept holds node os sink y
    pub table : y.low ∷ y.rows ≡ items_table (width_of b) (items_of all)
    pub root : node_id y.low ≡ id (width_of b) (items_of all)
    pub count : now ≡ before + length y.rows

  module _ (rest : List Entry) (low : ClosedNode C) (os : List (OpenNode C)) (sink : S) (before now : ℕ) (p : Laid kept holds (width_of b) all rest low os sink before now) (none : length rest < 1) where
    -- all entries were laid
    all_laid : all ≡ p.e ∷ p.es
    all_laid = p.split ∙ go rest none
      where
        go : (rest : List Entry) → length rest < 1 → rest ++ p.e ∷ p.es ≡ p.e ∷ p.es
        go [] l = refl
        go (x ∷ rest) l = absurd (omega arith)

    -- the last nodes are closed
    pub ended : (node : ClosedNode C) (final : List (OpenNode C)) (then : S) (later : ℕ) →
        ((y : PassState) → Stands kept holds low os sink y → Stands kept holds node final then (climb_from (width_of b) 0 y)) →
        ((y : PassState) → Stands kept holds low os sink y → HashedAll now later y (climb_from (width_of b) 0 y)) → Ended node then before later
    ended node final then later s n =
        let y = passed (width_of b) p.e p.es [] in
        let c = passed-closed (width_of b) p.e p.es (plain_laid rest low os sink before now p) in
        record {
          y = climb_from (width_of b) 0 y;
          stands = (final, s y p.stands);
          table = c.table ∙ ap (λ es. items_table (width_of b) (items_of es)) (sym all_laid);
          root = c.root ∙ ap (λ es. id (width_of b) (items_of es)) (sym all_laid);
          count = let a = p.count in let d = n y p.stands in omega (arith, a, d);
        }

    -- memory lacked while they were
    pub ended_err : (later : ℕ) → ((y : PassState) → Stands kept holds low os sink y → HashedAtMost now later y (climb_from (width_of b) 0 y)) → GrewAtMost (length (items_table (width_of b) (items_of all))) before later
    ended_err later n =
        let m = n (passed (width_of b) p.e p.es []) p.stands in
        let i = m.0 in
        let j = m.1 in
        let c = p.count in
        let t = ap length (passed-closed (width_of b) p.e p.es (plain_laid rest low os sink before now p)).table ∙ ap (λ es. length (items_table (width_of b) (items_of es))) (sym all_laid) in
        (omega (arith, c, i), omega (arith, c, j, t))

  -- then one node more at most is hashed
  pub ended_at_most : (node : ClosedNode C) (sink : S) (before now later : ℕ) → Ended node sink before now → GrewAtMost 1 now later → GrewAtMost (length (items_table (width_of b) (items_of all))) before later
  ended_at_most node sink before now later e l =
      let c = e.count in
      let t = ap length e.table in
      let i = l.0 in
      let j = l.1 in
      (omega (arith, c, i), omega (arith, c, j, t))

  -- its ID is that of all entries
  pub ended_id : (node : ClosedNode C) (sink : S) (before now : ℕ) (made : List ℕ) → Ended node sink before now → ((r : Row) → IsRow kept node r → made ≡ node_id r) → made ≡ id (width_of b) (items_of all)
  ended_id node sink before now made e k = k e.y.low e.stands.1.low_is ∙ e.root

  -- with it the sink holds the table
  pub ended_rows : (node : ClosedNode C) (sink then : S) (before now : ℕ) → Ended node sink before now → ((r : Row) (rows : List Row) → IsRow kept node r → holds sink rows → holds then (r ∷ rows)) → holds then (items_table (width_of b) (items_of all))
  ended_rows node sink then before now e k = subst (holds then) e.table (k e.y.low e.y.rows e.stands.1.low_is e.stands.1.rows_are)

  -- each node of it is hashed once
  pub ended_cost : (node : ClosedNode C) (sink : S) (before now later : ℕ) → Ended node sink before now → later ≡ now + 1 → later ≡ before + length (items_table (width_of b) (items_of all))
  ended_cost node sink before now later e s = let f = ap length e.table in let n = e.count in omega (arith, f, n, s)
