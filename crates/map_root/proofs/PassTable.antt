-- The state of the pass stands for the table of the entries so far, which is there when all nodes are closed.
use Rattle.std.proofs.Common.{◌≡◌, ◌≢◌, ℕ, suc, ◌+◌, ◌*◌, ◌<◌, ◌≤◌, Bool, true, false, cond, List, [], ◌∷◌, ◌++◌, length, take, refl, sym, ap, ◌∙◌, arith, subst, Some, None, append_assoc}
use Rattle.std.specs.Prelude.{◌==◌, nat_le}
use Rattle.std.specs.List.{AllByRecursion}
use Rattle.std.proofs.lemmas.Bool.Decides.{nat_tests}
use Rattle.std.proofs.lemmas.List.{append-nil, length-take-le}
use Rattle.trie_model.specs.Bits.{is_prefix, common_prefix, whole_tokens}
use Rattle.trie_model.specs.Ids.{node_key, digest_at, id}
use Rattle.trie_model.specs.Items.{Item, position, AreValues}
use Rattle.trie_model.specs.Table.{Row, node_id, items_table}
use Rattle.trie_model.proofs.Children.{Placed, tok}
use Rattle.trie_model.proofs.Lists.{All-weaker}
use Rattle.trie_model.proofs.Tables.{group_children, rows_below}
use Rattle.map_root.specs.declared.entry.Entry.{Entry}
use Rattle.map_root.specs.Entries.{items_of, item_of}
use Rattle.map_root.specs.PassState.{Unfinished, PassState, child_under, parent, climb, open_at, settle, settle_there, settle_below, meet, lay, passed, AreNested, IsBelow}
use Rattle.map_root.proofs.OpenNodes.{StandsFor, Besides, Above, Above-same, climb-StandsFor, placed_both, token_low, both_children, both_rows, begun_both, own_table, own_id, later_both}
use Rattle.trie_model.proofs.PartsOfValues.{AreValues-left, AreValues-tail, All-append}
use Rattle.trie_model.proofs.MeetingKeys.{token_step, Meeting, meeting}
use Rattle.trie_model.proofs.TokenGroups.{children-own, rows-own, children-none, rows-none}
use Rattle.trie_model.proofs.SharedBits.{tok-front, take-prefix, met_at_first}
use Rattle.trie_model.proofs.Prefixes.{take-is_prefix, is_prefix-itself, is_prefix-take, is_prefix-through, is_prefix-all, same_key-itself, length-is_prefix}

-- ---- settling
-- what holds where the key is that of the open node, and where it is not, holds
pub settle_cases : (P : PassState → Type 0) (w : ℕ) (e : Entry) (r : Row) (o : Unfinished) (above : List Unfinished) (rows : List Row) →
    (length e.key ≡ o.0 → P (settle_there w e r o above rows)) → (length e.key ≢ o.0 → P (settle_below w e r o above rows)) → P (settle w e r o above rows)
settle_cases P w e r o above rows there below = go (length e.key == o.0) refl
  where
    go : (b : Bool) → (length e.key == o.0) ≡ b → P (cond b (settle_there w e r o above rows) (settle_below w e r o above rows))
    go true t = there (grind (arith, nat_tests))
    go false t = below (λ f. grind (arith, nat_tests))

-- the node that was in hand is finished
pub settle-rows : (w : ℕ) (e : Entry) (r : Row) (o : Unfinished) (above : List Unfinished) (rows : List Row) → (settle w e r o above rows).rows ≡ r ∷ rows
settle-rows w e r o above rows = settle_cases (λ y. y.rows ≡ r ∷ rows) w e r o above rows (λ t. refl) (λ f. refl)

-- ---- climbing
-- where climbing to more than c bits ends, on the way to the key f
pub record Climbed (w c : ℕ) (f : List Bool) (y : PassState) : Type 0 where
  pub front : is_prefix y.low.0 f ≡ true
  pub far : c + w ≤ length y.low.0
  pub below : IsBelow (suc c) y.above
  pub nested : AreNested w (length y.low.0) y.above

-- climbing ends at a node with more bits than asked for, and leaves none open below
pub climbed : (w c m : ℕ) (f : List Bool) (r : Row) (above : List Unfinished) (rows : List Row) → c ≡ w * m → AreNested w (length r.0) above → is_prefix r.0 f ≡ true → c + w ≤ length r.0 →
    Climbed w c f (climb w (suc c) r above rows)
climbed w c m f r [] rows e n h l = record { front = h; far = l; below = tt; nested = tt }
climbed w c m f r (o ∷ above) rows e n h l = go (nat_le (suc c) o.0) refl (λ far.
    let x = length-take-le o.0 r.0 (let y = n.0 in omega (arith, y)) in
    climbed w c m f (parent w r o) above (r ∷ rows) e (subst (λ n. AreNested w n above) (sym x) n.2) (is_prefix-through (take o.0 r.0) r.0 f (is_prefix-take o.0 r.0) h) (omega (arith, far, x)))
  where
    go : (b : Bool) → nat_le (suc c) o.0 ≡ b → (c + w ≤ o.0 → Climbed w c f (climb w (suc c) (parent w r o) above (r ∷ rows))) →
        Climbed w c f (cond b (climb w (suc c) (parent w r o) above (r ∷ rows)) (record { low = r; above = o ∷ above; rows = rows }))
    go true t ih = ih (token_step w c o.0 m n.1.0 e n.1.1 (grind (arith, nat_tests)))
    go false t ih = record { front = h; far = l; below = grind (arith, nat_tests); nested = n }

-- climbing to the top leaves no node open
pub climb_all : (w : ℕ) (r : Row) (above : List Unfinished) (rows : List Row) → (climb w 0 r above rows).above ≡ []
climb_all w r [] rows = refl
climb_all w r (o ∷ above) rows = go (nat_le 0 o.0) (grind (arith, nat_tests)) (climb_all w (parent w r o) above (r ∷ rows))
  where
    go : (b : Bool) → b ≡ true → (climb w 0 (parent w r o) above (r ∷ rows)).above ≡ [] →
        (cond {A = PassState} b (climb w 0 (parent w r o) above (r ∷ rows)) (record { low = r; above = o ∷ above; rows = rows })).above ≡ []
    go true t ih = ih
    go false t ih = absurd (cc)

-- ---- the fork: the node at which a new key leaves the open nodes
pub record Fork (w : ℕ) (is : List Item) (c : ℕ) (r : Row) (o : Unfinished) (above : List Unfinished) (rows : List Row) : Type 0 where
  pub i : Item
  pub g : List Item
  pub g1 : List Item
  pub others : List Item
  pub later : List Row
  pub split : is ≡ i ∷ g ++ (g1 ++ others)
  pub key : node_key w (i ∷ g) ≡ r.0
  pub node : r.1 ≡ record { digest = digest_at r.0 (i ∷ g); children = group_children w r.0 (i ∷ g) }
  pub rows_are : rows ≡ rows_below w r.0 (i ∷ g) ++ (rows_below w (take o.0 r.0) g1 ++ later)
  pub at : o.0 ≡ c
  pub nested : AreNested w o.0 above
  pub besides : Besides w r.0 o g1
  pub higher : Above w r.0 above others later

-- a node that is not open yet has no values besides
none_besides : (w c : ℕ) (f : List Bool) → Besides w f (c, []) []
none_besides w c f = record { placed = tt; later = tt; kept = sym (children-none w (take c f)) }

-- the new key leaves at a node that is not open yet
new_fork : (w c : ℕ) (is : List Item) (r : Row) (above : List Unfinished) (rows : List Row) → StandsFor w is (record { low = r; above = above; rows = rows }) → AreNested w c above → Fork w is c r (c, []) above rows
new_fork w c is r above rows h n = record {
  i = h.i;
  g = h.g;
  g1 = [];
  others = h.others;
  later = h.later;
  split = h.split;
  key = h.key;
  node = h.node;
  rows_are = h.rows ∙ ap (λ x. rows_below w r.0 (h.i ∷ h.g) ++ (x ++ h.later)) (sym (rows-none w (take c r.0)));
  at = refl;
  nested = n;
  besides = none_besides w c r.0;
  higher = h.above;
}

-- the node at which the new key leaves is open, or new
pub fork : (w c m : ℕ) (is : List Item) (r : Row) (above : List Unfinished) (rows : List Row) → c ≡ w * m → StandsFor w is (record { low = r; above = above; rows = rows }) → IsBelow (suc c) above →
    Fork w is c r (open_at c above).0 (open_at c above).1 rows
fork w c m is r [] rows e h b = new_fork w c is r [] rows h tt
fork w c m is r (o ∷ above) rows e h b = go (nat_le c o.0) refl
  where
    go : (t : Bool) → nat_le c o.0 ≡ t → Fork w is c r (cond {A = Unfinished × List Unfinished} t (o, above) ((c, []), o ∷ above)).0 (cond {A = Unfinished × List Unfinished} t (o, above) ((c, []), o ∷ above)).1 rows
    go true t =
        let a = h.above in
        record {
          i = h.i;
          g = h.g;
          g1 = a.0 ∷ a.1;
          others = a.2;
          later = a.3;
          split = h.split ∙ ap (λ x. h.i ∷ h.g ++ x) a.4;
          key = h.key;
          node = h.node;
          rows_are = h.rows ∙ ap (λ x. rows_below w r.0 (h.i ∷ h.g) ++ x) a.5;
          at = grind (arith, nat_tests);
          nested = h.nested.2;
          besides = a.6;
          higher = a.7;
        }
    go false t =
        let n = h.nested in
        let l : o.0 < c = grind (arith, nat_tests) in
        new_fork w c is r (o ∷ above) rows h (token_step w o.0 c n.1.0 m n.1.1 e l, n.1, n.2)

-- ---- the new key is in hand
module _ (w : ℕ) (is : List Item) (e : Entry) (c m : ℕ) (r : Row) (o : Unfinished) (above : List Unfinished) (rows : List Row) (p : AreValues w (item_of e ∷ is)) (v : Fork w is c r o above rows) (cm : c ≡ w * m) (far : c + w ≤ length r.0) (front : is_prefix (take c r.0) e.key ≡ true) (apart : length e.key ≢ c → tok w (take c r.0) e.key < tok w (take c r.0) r.0) where
  -- the values that come below the fork
  all : List Item
  all = (v.i ∷ v.g) ++ v.g1

  -- they are the first
  split_all : is ≡ ((v.i ∷ v.g) ++ v.g1) ++ v.others
  split_all = v.split ∙ ap (λ x. v.i ∷ x) (sym (append_assoc v.g v.g1 v.others))

  -- the values in hand are plain
  plain_low : AreValues w (v.i ∷ v.g)
  plain_low = AreValues-left w (v.i ∷ v.g) (v.g1 ++ v.others) (subst (AreValues w) v.split (AreValues-tail w (item_of e) is p))

  -- the front has as many bits as are shared
  front_is : length (take c r.0) ≡ c
  front_is = length-take-le c r.0 (omega (arith, far))

  -- both keys have it
  same_front : take c r.0 ≡ take c e.key
  same_front = sym (ap (λ n. take n e.key) (sym front_is) ∙ take-is_prefix (take c r.0) e.key front)

  -- the children of the fork are made of them
  children_all : child_under w o.0 r ∷ o.1 ≡ group_children w (take c r.0) ((v.i ∷ v.g) ++ v.g1)
  children_all = ap (λ b. child_under w b r ∷ o.1) v.at ∙ both_children w v.i v.g r plain_low v.key v.node c m far cm o v.at v.g1 v.besides

  -- and so are the rows below it
  rows_all : r ∷ rows ≡ rows_below w (take c r.0) ((v.i ∷ v.g) ++ v.g1) ++ v.later
  rows_all = both_rows w v.i v.g r plain_low v.key v.node c m far cm o v.at v.g1 v.besides rows v.later v.rows_are

  -- the new key is that of the open node
  own_node : length e.key ≡ c → StandsFor w (item_of e ∷ is) (record { low = (e.key, record { digest = Some e.digest; children = child_under w o.0 r ∷ o.1 }); above = above; rows = r ∷ rows })
  own_node l =
      let k : e.key ≡ take c r.0 = is_prefix-all (take c r.0) e.key front (omega (arith, l, front_is)) in
      record {
        i = item_of e;
        g = (v.i ∷ v.g) ++ v.g1;
        others = v.others;
        later = v.later;
        split = ap (λ x. item_of e ∷ x) split_all;
        key = met_at_first w m e.key e.digest ((v.i ∷ v.g) ++ v.g1) p.pos (l ∙ cm) (is_prefix-itself e.key, subst (λ k. AllByRecursion (λ j. is_prefix k (position w j) ≡ true) ((v.i ∷ v.g) ++ v.g1)) (sym k) (begun_both w v.i v.g r plain_low v.key v.node c m far cm o v.at v.g1 v.besides));
        node =
            ap (λ b. record { digest = cond b (Some e.digest) (digest_at e.key ((v.i ∷ v.g) ++ v.g1)); children = child_under w o.0 r ∷ o.1 }) (sym (same_key-itself e.key))
            ∙ ap (λ cs. record { digest = digest_at e.key (item_of e ∷ (v.i ∷ v.g) ++ v.g1); children = cs }) (children_all ∙ ap (λ k. group_children w k ((v.i ∷ v.g) ++ v.g1)) (sym k) ∙ sym (children-own w e.key e.digest ((v.i ∷ v.g) ++ v.g1) p.pos));
        rows = rows_all ∙ ap (λ x. x ++ v.later) (ap (λ k. rows_below w k ((v.i ∷ v.g) ++ v.g1)) (sym k) ∙ sym (rows-own w e.key e.digest ((v.i ∷ v.g) ++ v.g1) p.pos));
        whole = (m, l ∙ cm);
        nested = subst (λ n. AreNested w n above) (v.at ∙ sym l) v.nested;
        above = Above-same w c r.0 e.key above v.others v.later same_front (omega (arith, far)) (subst (λ n. AreNested w n above) v.at v.nested) v.higher;
      }

  -- the new key goes on behind the open node
  new_leaf : length e.key ≢ c → StandsFor w (item_of e ∷ is) (record { low = (e.key, record { digest = Some e.digest; children = [] }); above = (o.0, child_under w o.0 r ∷ o.1) ∷ above; rows = r ∷ rows })
  new_leaf ne =
      let a = p.whole.0 in
      let x = length-is_prefix (take c r.0) e.key front in
      let far_key : c + w ≤ length e.key = token_step w c (length e.key) m a.0 cm a.1 (omega (arith, x, front_is, ne)) in
      let k : take c r.0 ≡ take o.0 e.key = same_front ∙ ap (λ b. take b e.key) (sym v.at) in
      let t : tok w (take c r.0) e.key < tok w (take c r.0) r.0 = apart ne in
      record {
        i = item_of e;
        g = [];
        others = is;
        later = r ∷ rows;
        split = refl;
        key = met_at_first w a.0 e.key e.digest [] p.pos a.1 (is_prefix-itself e.key, tt);
        node =
            ap (λ b. record { digest = cond b (Some e.digest) None; children = [] }) (sym (same_key-itself e.key))
            ∙ ap (λ cs. record { digest = digest_at e.key (item_of e ∷ []); children = cs }) (sym (children-own w e.key e.digest [] p.pos ∙ children-none w e.key));
        rows = ap (λ x. x ++ (r ∷ rows)) (sym (rows-own w e.key e.digest [] p.pos ∙ rows-none w e.key));
        whole = a;
        nested = (subst (λ b. b + w ≤ length e.key) (sym v.at) far_key, (m, v.at ∙ cm), v.nested);
        above = (
          v.i,
          v.g ++ v.g1,
          v.others,
          v.later,
          split_all,
          rows_all ∙ ap (λ k. rows_below w k ((v.i ∷ v.g) ++ v.g1) ++ v.later) k,
          record {
            placed = subst (λ k. AllByRecursion (Placed w k) ((v.i ∷ v.g) ++ v.g1)) k (placed_both w v.i v.g r plain_low v.key v.node c m far cm o v.at v.g1 v.besides);
            later = subst (λ k. AllByRecursion (λ j. tok w k e.key < tok w k (position w j)) ((v.i ∷ v.g) ++ v.g1)) k (later_all t);
            kept = children_all ∙ ap (λ k. group_children w k ((v.i ∷ v.g) ++ v.g1)) k;
          },
          Above-same w c r.0 e.key above v.others v.later same_front (omega (arith, far)) (subst (λ n. AreNested w n above) v.at v.nested) v.higher,
        );
      }
    where
      later_all : tok w (take c r.0) e.key < tok w (take c r.0) r.0 → AllByRecursion (λ j. tok w (take c r.0) e.key < tok w (take c r.0) (position w j)) ((v.i ∷ v.g) ++ v.g1)
      later_all t = All-append _ (v.i ∷ v.g) v.g1
          (All-weaker (λ j. tok w (take c r.0) (position w j) ≡ tok w (take c r.0) r.0) _ (v.i ∷ v.g) (λ j h. omega (arith, h, t)) (token_low w v.i v.g r plain_low v.key v.node c m far cm))
          (All-weaker (λ j. tok w (take c r.0) r.0 < tok w (take c r.0) (position w j)) _ v.g1 (λ j h. omega (arith, h, t)) (later_both w v.i v.g r plain_low v.key v.node c m far cm o v.at v.g1 v.besides))

  -- the new key is in hand, and the state stands for all values
  pub settle-StandsFor : StandsFor w (item_of e ∷ is) (settle w e r o above rows)
  settle-StandsFor = settle_cases (StandsFor w (item_of e ∷ is)) w e r o above rows (λ t. own_node (t ∙ v.at)) (λ f. new_leaf (λ t. f (t ∙ sym v.at)))

-- ---- one more entry
-- an entry in front of those so far
pub lay-StandsFor : (w : ℕ) (e f : Entry) (es : List Entry) (y : PassState) → AreValues w (items_of (e ∷ f ∷ es)) → y.low.0 ≡ f.key → StandsFor w (items_of (f ∷ es)) y → StandsFor w (items_of (e ∷ f ∷ es)) (lay w e y)
lay-StandsFor w e f es y p k h =
    let q = meeting w p.whole.0.0 p.whole.1.0.0 e.key f.key p.pos p.whole.0.1 p.whole.1.0.1 p.rises.0.0 in
    let q' : Meeting w e.key y.low.0 = subst (Meeting w e.key) (sym k) q in
    let c = meet w e y.low in
    let z = climb w (suc c) y.low y.above y.rows in
    let s = climbed w c q'.m y.low.0 y.low y.above y.rows q'.whole h.nested (is_prefix-itself y.low.0) q'.far in
    let v = fork w c q'.m (items_of (f ∷ es)) z.low z.above z.rows q'.whole (climb-StandsFor w (suc c) (items_of (f ∷ es)) y.low y.above y.rows (AreValues-tail w (item_of e) (items_of (f ∷ es)) p) h) s.below in
    let run : take c z.low.0 ≡ whole_tokens w (common_prefix e.key y.low.0) =
    sym (take-prefix c z.low.0 y.low.0 s.front (let x = s.far in omega (arith, x))) ∙ take-is_prefix (whole_tokens w (common_prefix e.key y.low.0)) y.low.0 q'.right in
    settle-StandsFor w (items_of (f ∷ es)) e c q'.m z.low (open_at c z.above).0 (open_at c z.above).1 z.rows p v q'.whole s.far (subst (λ x. is_prefix x e.key ≡ true) (sym run) q'.left)
    (λ ne. subst (λ x. tok w x e.key < tok w x z.low.0) (sym run) (subst (λ t. tok w (whole_tokens w (common_prefix e.key y.low.0)) e.key < t)
    (tok-front w (whole_tokens w (common_prefix e.key y.low.0)) z.low.0 y.low.0 s.front s.far) (q'.apart ne)))

-- ---- all entries
-- the node in hand is that of the first entry
settle-key : (w : ℕ) (e : Entry) (r : Row) (o : Unfinished) (above : List Unfinished) (rows : List Row) → (settle w e r o above rows).low.0 ≡ e.key
settle-key w e r o above rows = settle_cases (λ y. y.low.0 ≡ e.key) w e r o above rows (λ t. refl) (λ f. refl)

-- so it is after all entries
pub passed-key : (w : ℕ) (e : Entry) (es : List Entry) (rows : List Row) → (passed w e es rows).low.0 ≡ e.key
passed-key w e [] rows = refl
passed-key w e (f ∷ es) rows = settle-key w e _ _ _ _

-- after plain entries the state stands for all of them
pub passed-StandsFor : (w : ℕ) (e : Entry) (es : List Entry) → AreValues w (items_of (e ∷ es)) → StandsFor w (items_of (e ∷ es)) (passed w e es [])
passed-StandsFor w e [] p = record {
  i = item_of e;
  g = [];
  others = [];
  later = [];
  split = refl;
  key = met_at_first w p.whole.0.0 e.key e.digest [] p.pos p.whole.0.1 (is_prefix-itself e.key, tt);
  node =
      ap (λ b. record { digest = cond b (Some e.digest) None; children = [] }) (sym (same_key-itself e.key))
      ∙ ap (λ cs. record { digest = digest_at e.key (item_of e ∷ []); children = cs }) (sym (children-own w e.key e.digest [] p.pos ∙ children-none w e.key));
  rows = ap (λ x. x ++ []) (sym (rows-own w e.key e.digest [] p.pos ∙ rows-none w e.key));
  whole = p.whole.0;
  nested = tt;
  above = (refl, refl);
}
passed-StandsFor w e (f ∷ es) p = lay-StandsFor w e f es (passed w f es []) p (passed-key w f es []) (passed-StandsFor w f es (AreValues-tail w (item_of e) (items_of (f ∷ es)) p))

-- when all nodes are closed, the table is there, and its first node is the root
pub record Closed (w : ℕ) (is : List Item) (y : PassState) : Type 0 where
  pub table : y.low ∷ y.rows ≡ items_table w is
  pub root : node_id y.low ≡ id w is

-- a state with no open node is the table
closed : (w : ℕ) (is : List Item) (y : PassState) → AreValues w is → y.above ≡ [] → StandsFor w is y → Closed w is y
closed w is y p n h =
    let a = subst (λ above. Above w y.low.0 above h.others h.later) n h.above in
    let s : is ≡ h.i ∷ h.g = h.split ∙ ap (λ x. h.i ∷ h.g ++ x) a.0 ∙ append-nil (h.i ∷ h.g) in
    let q = subst (AreValues w) s p in
    record {
      table = ap (λ x. y.low ∷ x) (h.rows ∙ ap (λ x. rows_below w y.low.0 (h.i ∷ h.g) ++ x) a.1 ∙ append-nil (rows_below w y.low.0 (h.i ∷ h.g))) ∙ sym (own_table w h.i h.g y.low q h.key h.node) ∙ ap (items_table w) (sym s);
      root = own_id w h.i h.g y.low q h.key h.node ∙ ap (id w) (sym s);
    }

-- and so is the state after all entries, when all nodes are closed
pub passed-closed : (w : ℕ) (e : Entry) (es : List Entry) → AreValues w (items_of (e ∷ es)) → Closed w (items_of (e ∷ es)) (climb w 0 (passed w e es []).low (passed w e es []).above (passed w e es []).rows)
passed-closed w e es p =
    let y = passed w e es [] in
    closed w (items_of (e ∷ es)) (climb w 0 y.low y.above y.rows) p (climb_all w y.low y.above y.rows) (climb-StandsFor w 0 (items_of (e ∷ es)) y.low y.above y.rows p (passed-StandsFor w e es p))
