-- Which map a root names in a store, by what its history tells.
use Rattle.std.proofs.Common.{◌≡◌, ℕ, Bool, true, false, cond, List, [], ◌∷◌, map, refl, sym, ap, ◌∙◌, subst, nat_eq, Option, Some, None, Result, Ok, Err}
use Rattle.std.specs.Prelude.{◌||◌}
use Rattle.std.specs.List.{list_any}
use Rattle.std.specs.Cmp.Lexicographic.{pointwise, texts_ties}
use Rattle.trie_model.specs.Hashing.{zero_id}
use Rattle.trie_model.specs.Maps.{Map, root}
use Rattle.trie_model.specs.Table.{Row}
use Rattle.batch_model.specs.Batch.{Change, after_batch}
use Rattle.proof_model.specs.Refusals.{same_bytes}
use Rattle.history_model.specs.Held.{no_map, until_root, with_root}
use Rattle.change_history.specs.Histories.{CommitState, HistoryState, roots, Recalls, held_by, maps_behind, recalled, Remembers}
use Rattle.change_history.specs.ToldChanges.{LeadsBack, TellsEnd}
use Rattle.change_history.specs.declared.fault.HistoryFault.{HistoryFault}
use Rattle.change_history.specs.declared.fault.HistoryFault.TheVariants.{NoEnd}
use Rattle.change_history.proofs.ToldMaps.{held_recalled}
use Rattle.mdb_core.specs.Stores.{DbState, IsStore}
use Rattle.mdb_core.specs.Places.{names_map}

-- the history ends at the root that is kept
pub newest_root : {rows : Option (List Row)} (s t : DbState) → s ≡ t → IsStore s rows → t.history.root ≡ s.root
newest_root s t same h = ap (λ (x : DbState). x.history.root) (sym same) ∙ h.newest

same_as : (id other : List ℕ) (b : Bool) → pointwise nat_eq id other ≡ b → same_bytes id other ≡ b
same_as id other b e = sym (texts_ties id other) ∙ e

module _ (h : HistoryState) (id : List ℕ) where
  former_roots : List (List ℕ)
  former_roots = map (λ (c : CommitState). c.former) h.ring

  -- ---- whether it names a map

  pub names_kept : list_any (same_bytes id) (roots h) ≡ true → names_map h id ≡ true
  names_kept e = ap (λ b. b || same_bytes id zero_id) e

  pub names_present : (kept : List ℕ) → h.root ≡ kept → pointwise nat_eq id kept ≡ true → names_map h id ≡ true
  unfolding former_roots
  names_present kept is e = names_kept (ap (λ b. b || list_any (same_bytes id) former_roots) (ap (same_bytes id) is ∙ same_as id kept true e))

  pub names_zeros : (zeros : List ℕ) (b : Bool) → zeros ≡ zero_id → list_any (same_bytes id) (roots h) ≡ false → pointwise nat_eq id zeros ≡ b → names_map h id ≡ b
  names_zeros zeros b z e f = ap (λ b. b || same_bytes id zero_id) e ∙ (ap (same_bytes id) (sym z) ∙ same_as id zeros b f)

  -- ---- which one

  module _ (w : ℕ) (m : Map) (r : Remembers w h m) where
    pub present_named : (kept : List ℕ) → h.root ≡ kept → pointwise nat_eq id kept ≡ true → with_root w (recalled h m) id ≡ Some m
    present_named kept is e = ap (λ b. cond b (Some m) (with_root w (maps_behind m h.ring) id)) (ap (same_bytes id) (sym r.0 ∙ is) ∙ same_as id kept true e)

    first_or : List Map → Option Map → Option Map
    first_or [] o = o
    first_or (x ∷ xs) o = Some x

    by_place : (ms : List Map) → with_root w ms id ≡ first_or (until_root w ms id) (with_root w [] id)
    unfolding first_or
    by_place [] = refl
    by_place (x ∷ ms) = go (same_bytes id (root w x)) (by_place ms)
      where
        go : (b : Bool) → with_root w ms id ≡ first_or (until_root w ms id) (with_root w [] id) → cond b (Some x) (with_root w ms id) ≡ first_or (cond b (x ∷ ms) (until_root w ms id)) (with_root w [] id)
        go true ih = refl
        go false ih = ih

    led : (ms us : List Map) (undo : List Change) (o : Option Map) → LeadsBack (m ∷ ms) us (Ok undo) → first_or us o ≡ Some (after_batch m undo)
    unfolding first_or
    led ms [] undo o l = absurd (cc)
    led ms (t ∷ us) undo o l = ap Some (sym l)

    lost : (ms us : List Map) (o : Option Map) → LeadsBack (m ∷ ms) us (Err NoEnd) → first_or us o ≡ o
    unfolding first_or
    lost ms [] o l = refl
    lost ms (t ∷ us) o l = absurd (cc)

    leads : (res : Result (List Change) HistoryFault) → LeadsBack (held_by h (recalled h m)) (until_root w (held_by h (recalled h m)) id) res → LeadsBack (recalled h m) (until_root w (recalled h m) id) res
    leads res l = subst (λ (ms : List Map). LeadsBack ms (until_root w ms id) res) (held_recalled w h m r) l

    pub past_named : (undo : List Change) → LeadsBack (held_by h (recalled h m)) (until_root w (held_by h (recalled h m)) id) (Ok undo) → with_root w (recalled h m) id ≡ Some (after_batch m undo)
    past_named undo l = by_place (recalled h m) ∙ led (maps_behind m h.ring) (until_root w (recalled h m) id) undo (with_root w [] id) (leads (Ok undo) l)

    pub zeros_named : (zeros : List ℕ) → zeros ≡ zero_id → LeadsBack (held_by h (recalled h m)) (until_root w (held_by h (recalled h m)) id) (Err NoEnd) → pointwise nat_eq id zeros ≡ true
        → with_root w (recalled h m) id ≡ Some no_map
    zeros_named zeros z l e =
        by_place (recalled h m)
        ∙ (lost (maps_behind m h.ring) (until_root w (recalled h m) id) (with_root w [] id) (leads (Err NoEnd) l)
        ∙ ap (λ b. cond b (Some no_map) None) (ap (same_bytes id) (sym z) ∙ same_as id zeros true e))

-- ---- as a history tells it; s is what a store was, as its parts are seen

pub kept_found : (s t : DbState) (id : List ℕ) → s ≡ t → list_any (same_bytes id) (roots s.history) ≡ true → names_map t.history id ≡ true
kept_found s t id same e = subst (λ (x : DbState). names_map x.history id ≡ true) same (names_kept s.history id e)

-- no map has the root where that is told
pub none_kept : (id : List ℕ) (h : HistoryState) (fault : HistoryFault) → fault ≡ NoEnd → TellsEnd {A = List Change} (list_any (same_bytes id) (roots h)) (Err fault) → list_any (same_bytes id) (roots h) ≡ false
none_kept id h fault is told = subst (λ (f : HistoryFault). TellsEnd {A = List Change} (list_any (same_bytes id) (roots h)) (Err f)) is told

pub zeros_found : (s t : DbState) (id zeros : List ℕ) (b : Bool) → zeros ≡ zero_id → s ≡ t → list_any (same_bytes id) (roots s.history) ≡ false → pointwise nat_eq id zeros ≡ b → names_map t.history id ≡ b
zeros_found s t id zeros b z same e f = subst (λ (x : DbState). names_map x.history id ≡ b) same (names_zeros s.history id zeros b z e f)

module _ (s t : DbState) (id : List ℕ) (same : s ≡ t) (res : Result (List Change) HistoryFault)
    (leads : (w : ℕ) (maps : List Map) → Recalls w s.history maps → LeadsBack (held_by s.history maps) (until_root w (held_by s.history maps) id) res) (m : Map) (r : Remembers t.width t.history m) where
  leads_here : LeadsBack (held_by t.history (recalled t.history m)) (until_root t.width (held_by t.history (recalled t.history m)) id) res
  leads_here =
      subst (λ (x : DbState). LeadsBack (held_by x.history (recalled t.history m)) (until_root t.width (held_by x.history (recalled t.history m)) id) res) same
      (leads t.width (recalled t.history m) (subst (λ (x : DbState). Recalls t.width x.history (recalled t.history m)) (sym same) r))

  pub past_found : (undo : List Change) → res ≡ Ok undo → with_root t.width (recalled t.history m) id ≡ Some (after_batch m undo)
  past_found undo is = past_named t.history id t.width m r undo (subst (LeadsBack (held_by t.history (recalled t.history m)) (until_root t.width (held_by t.history (recalled t.history m)) id)) is leads_here)

  pub none_found : (zeros : List ℕ) → zeros ≡ zero_id → res ≡ Err NoEnd → pointwise nat_eq id zeros ≡ true → with_root t.width (recalled t.history m) id ≡ Some no_map
  none_found zeros z is e = zeros_named t.history id t.width m r zeros z (subst (LeadsBack (held_by t.history (recalled t.history m)) (until_root t.width (held_by t.history (recalled t.history m)) id)) is leads_here) e
