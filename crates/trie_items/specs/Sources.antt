-- What is known of a source of nodes: the map that it tells, its keys, its faults, and what may lie between two states of it.
use Rattle.std.specs.Prelude.{◌≡◌, ◌⊎◌, ℕ, ◌≤◌, Bool, true, false, cond, List, [], ◌∷◌, length, map, Option, Some, None, Result, IsErrOf}
use Rattle.std.specs.List.{AllByRecursion}
use Rattle.std.specs.declared.cmp.Ordering.{Ordering}
use Rattle.std.specs.declared.cmp.Ordering.TheVariants.{Less, Equal, Greater}
use Rattle.std.specs.FinMap as map_of
use Rattle.base_model.specs.Bytes.{bytes_cmp}
use Rattle.base_model.specs.Faults.{Rose}
use Rattle.trie_model.specs.Bits.{same_key}
use Rattle.trie_model.specs.Maps.{Map, key_limit}
use Rattle.trie_model.specs.StoredNode.{StoredNode}
use Rattle.trie_model.specs.Table.{Row}
use Rattle.trie_items.specs.declared.source_fault.SourceFault.{SourceFault}
use Rattle.trie_items.specs.declared.source_fault.SourceFault.TheVariants.{Failed}

-- ---- what is looked up

-- the keys of a map, in their order
abbrev pub map_keys : Map → List (List ℕ)
map_keys m = map (λ (e : List ℕ × List ℕ). e.0) (map_of.entries m)

-- the key of the first row, which is that of the root node
abbrev pub first_key : List Row → Option (List Bool)
first_key [] = None
first_key (r ∷ rs) = Some r.0

-- the node at a key
abbrev pub row_of : List Bool → List Row → Option StoredNode
row_of k [] = None
row_of k (r ∷ rs) = cond (same_key k r.0) (Some r.1) (row_of k rs)

-- whether a key that compares so with a byte string stands ahead: it is above, or, where not past, the same
abbrev pub is_ahead : Bool → Ordering → Bool
is_ahead past Less = true
is_ahead true Equal = false
is_ahead false Equal = true
is_ahead past Greater = false

-- the first of keys in their order at or above a byte string, or, where past, above it
abbrev pub next_key : Bool → List ℕ → List (List ℕ) → Option (List ℕ)
next_key past from [] = None
next_key past from (k ∷ ks) = cond (is_ahead past (bytes_cmp from k)) (Some k) (next_key past from ks)

-- keys in their order, each once
abbrev pub AreAscending : List (List ℕ) → Type 0
AreAscending [] = Unit {0}
AreAscending (k ∷ ks) = AllByRecursion (λ l. bytes_cmp k l ≡ Less) ks × AreAscending ks

-- ---- a source

-- all that is known of a source of the type S, for proofs alone
pub record SourceWords (S : Type 0) : Type 1 where
  -- the map that it tells, where it tells one
  pub told : S → Map → Type 0
  -- the keys of its map, whether it tells the map or not
  pub keys : S → List (List ℕ)
  -- the bits of a token
  pub width : S → ℕ
  -- how often it has failed, and whether it does no work any more
  pub faults : S → ℕ
  pub failed : S → Bool
  -- what may lie between an earlier and a later state of it, where only its calls came
  pub calm : S → S → Type 0

-- what holds of each source. Calls leave its map, its keys and its width as they are, since they are calm
pub record IsSource {S : Type 0} (w : SourceWords S) : Type 0 where
  pub told_keys : (s : S) (m : Map) → w.told s m → w.keys s ≡ map_keys m
  pub ascending : (s : S) → AreAscending (w.keys s)
  pub short : (s : S) → AllByRecursion (λ k. length k ≤ key_limit) (w.keys s)
  pub calm_itself : (s : S) → w.calm s s
  pub calm_through : (a b c : S) → w.calm a b → w.calm b c → w.calm a c
  pub calm_told : (a b : S) (m : Map) → w.calm a b → w.told a m → w.told b m
  pub calm_keys : (a b : S) → w.calm a b → w.keys b ≡ w.keys a
  pub calm_width : (a b : S) → w.calm a b → w.width b ≡ w.width a

-- Why a call fails. The count of faults never falls. `Failed` is answered, and a source becomes failed, only where
-- the count rose or the source was failed before; where it is not answered, a source that was not failed is not.
pub record HasReason {T : Type 0} (before now : ℕ) (was is : Bool) (result : Result T SourceFault) : Type 0 where
  pub later : before ≤ now
  pub failed : IsErrOf result Failed → Rose before now ⊎ (was ≡ true)
  pub becomes : is ≡ true → Rose before now ⊎ (was ≡ true)
  pub well : was ≡ false → IsErrOf result Failed ⊎ (is ≡ false)

-- what each call of a source promises, whatever it gives
pub record Answers {S T : Type 0} (w : SourceWords S) (old new : S) (result : Result T SourceFault) : Type 0 where
  pub calm : w.calm old new
  pub reason : HasReason (w.faults old) (w.faults new) (w.failed old) (w.failed new) result
