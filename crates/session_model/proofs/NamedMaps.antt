-- Which maps have a name.
use Rattle.std.proofs.Common.{◌≡◌, ℕ, Bool, true, false, cond, List, [], ◌∷◌, refl, sym, ap, Some, None}
use Rattle.std.specs.Prelude.{◌≢◌}
use Rattle.std.specs.Cmp.{tied_itself}
use Rattle.std.specs.Ordering.{is_eq}
use Rattle.std.proofs.lemmas.Cmp.{nat_list_cmp_total}
use Rattle.trie_model.specs.Hashing.{zero_id}
use Rattle.trie_model.specs.Maps.{Map, root}
use Rattle.proof_model.specs.Refusals.{same_bytes}
use Rattle.range_model.specs.Ranges.{Range}
use Rattle.history_model.specs.Between.{NoEnd, NoStart, changes_since, changes_from}
use Rattle.history_model.specs.Held.{no_map, until_root, with_root}
use Rattle.history_model.proofs.Values.{same_key}
use Rattle.session_model.specs.MapsByRoot.{and_later, leading_to}
use Rattle.session_model.specs.Laws.{AreTold, ChangesAreNamed}
use Rattle.session_model.specs.Worked.{NamedMaps}

-- a root is the same as itself
pub itself : (id : List ℕ) → same_bytes id id ≡ true
itself id = ap is_eq (tied_itself nat_list_cmp_total id)

-- the latest map by its root, whatever maps are before it
pub by_root : (w : ℕ) (m : Map) (maps : List Map) → with_root w (m ∷ maps) (root w m) ≡ Some m
by_root w m maps = rw (itself (root w m)) refl

-- the empty map, whether it is the present one or not
pub by_zeros : with_root 4 (no_map ∷ []) zero_id ≡ Some no_map
by_zeros = go (same_bytes zero_id (root 4 no_map)) (itself zero_id)
  where
    go : (b : Bool) → same_bytes zero_id zero_id ≡ true → cond b (Some no_map) (cond (same_bytes zero_id zero_id) (Some no_map) None) ≡ Some no_map
    go true same = refl
    go false same = rw same refl

one_back : (m former : Map) (maps : List Map) → root 4 m ≢ root 4 former → with_root 4 (m ∷ former ∷ maps) (root 4 former) ≡ Some former
one_back m former maps other = go (same_bytes (root 4 former) (root 4 m)) refl
  where
    go : (b : Bool) → same_bytes (root 4 former) (root 4 m) ≡ b → cond b (Some m) (with_root 4 (former ∷ maps) (root 4 former)) ≡ Some former
    go true is = absurd (other (sym (same_key (root 4 former) (root 4 m) is)))
    go false is = by_root 4 former maps

pub named_maps : NamedMaps
named_maps m = (by_root 4 m [], by_root 4 m [], refl, by_root 4 m [], by_zeros, λ former maps. (by_root 4 m (former ∷ maps), by_root 4 m (former ∷ maps)), λ former maps other. one_back m former maps other, λ former maps. by_root 4 m (m ∷ maps))

-- ---- changes

changes_of_first : (w : ℕ) (later : Map) (maps : List Map) (asked : Range) → AreTold (and_later later maps) asked (changes_since maps later asked)
changes_of_first w later [] asked = (NoStart, refl)
changes_of_first w later (former ∷ maps) asked = refl

changes_to_first : (w : ℕ) (maps : List Map) (from : List ℕ) (asked : Range) → AreTold (leading_to w maps from) asked (changes_from w maps from asked)
changes_to_first w [] from asked = (NoEnd, refl)
changes_to_first w (later ∷ maps) from asked = changes_of_first w later (until_root w (later ∷ maps) from) asked

pub changes_are_named : ChangesAreNamed
changes_are_named w maps from to asked = changes_to_first w (until_root w maps to) from asked
