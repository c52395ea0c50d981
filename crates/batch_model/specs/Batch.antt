-- Batches: changes with strictly increasing keys, the bytes that spell them, and what they make of a map.
use Rattle.std.specs.Prelude.{◌≡◌, ℕ, zero, suc, ◌^◌, ◌<◌, ◌≤◌, Bool, true, false, ◌==◌, if◌then◌else◌, List, [], ◌∷◌, ◌++◌, length, Option, Some, None, IfSome, Result, Ok, Err}
use Rattle.std.specs.List.{flat_map, AllByRecursion}
use Rattle.std.specs.Ordering.{is_lt, match_ordering}
use Rattle.std.specs.FinMap as map_of
use Rattle.base_model.specs.Bytes.{bytes_cmp}
use Rattle.base_model.specs.Uvarint.{uvarint}
use Rattle.base_model.specs.Fields.{Field, ◌>>=◌, flag_form, number_at, flag_at}
use Rattle.trie_model.specs.Maps.{Limits, Map}
use Rattle.batch_model.specs.Sized.{sized_form, sized_at}

-- a key, and the value that it gets; None deletes it
pub record Change : Type 0 where
  pub key : List ℕ
  pub value : Option (List ℕ)

-- ---- lists of changes

-- the changes with one set among them, in the order of their keys: it takes the place of the one with its key
abbrev pub set_change : List Change → Change → List Change
set_change [] c = c ∷ []
set_change (x ∷ xs) c = match_ordering (bytes_cmp c.key x.key) (c ∷ x ∷ xs) (c ∷ xs) (x ∷ set_change xs c)

-- ---- maps

abbrev pub put_or_removed : Map → List ℕ → Option (List ℕ) → Map
put_or_removed m key None = map_of.remove m key
put_or_removed m key (Some value) = map_of.insert m key value

-- a map after the changes of a batch
abbrev pub after_batch : Map → List Change → Map
after_batch m [] = m
after_batch m (c ∷ cs) = after_batch (put_or_removed m c.key c.value) cs

-- ---- spelling

-- the flag, and where it is 1 the value
abbrev pub value_form : Option (List ℕ) → List ℕ
value_form None = flag_form false
value_form (Some v) = flag_form true ++ sized_form v

abbrev pub change_form : Change → List ℕ
change_form c = sized_form c.key ++ value_form c.value

-- the number of changes, and the changes
abbrev pub batch_form : List Change → List ℕ
batch_form cs = uvarint (length cs) ++ flat_map change_form cs

-- ---- the grammar

pub record IsChange (l : Limits) (c : Change) : Type 0 where
  pub key : length c.key ≤ l.key
  pub value : IfSome c.value (λ v. length v ≤ l.value)

-- a key comes after the last one, if there is one
abbrev pub comes_after : Option (List ℕ) → List ℕ → Bool
comes_after None key = true
comes_after (Some last) key = is_lt (bytes_cmp last key)

-- keys that strictly increase
abbrev pub AreRising : Option (List ℕ) → List Change → Type 0
AreRising last [] = Unit {0}
AreRising last (c ∷ cs) = (comes_after last c.key ≡ true) × AreRising (Some c.key) cs

pub record IsBatch (l : Limits) (cs : List Change) : Type 0 where
  pub count : length cs < 2 ^ 64
  pub changes : AllByRecursion (IsChange l) cs
  pub rising : AreRising None cs

-- lengths within the limits have at most 64 bits
pub record FitsNumbers (l : Limits) : Type 0 where
  pub key : l.key < 2 ^ 64
  pub value : l.value < 2 ^ 64

-- ---- reading

-- the bytes are outside the grammar
pub data BatchFault : Type 0 where
  Outside : BatchFault

-- a key that comes after the last one
unfoldable pub key_at : Limits → Option (List ℕ) → List ℕ → ℕ → Field BatchFault (List ℕ)
key_at l last bytes at = do
  key ← sized_at Outside l.key bytes at
  if comes_after last key.0 then Ok key else Err Outside

unfoldable pub value_at : Limits → List ℕ → ℕ → Field BatchFault (Option (List ℕ))
value_at l bytes at = do
  flag ← flag_at (λ _. Outside) (λ _. Outside) bytes at
  if flag.0 then (sized_at Outside l.value bytes flag.1 >>= λ v. Ok (Some v.0, v.1)) else Ok (None, flag.1)

-- n changes, with keys that strictly increase after the last one
unfoldable pub changes_at : Limits → ℕ → Option (List ℕ) → List ℕ → ℕ → Field BatchFault (List Change)
changes_at l zero last bytes at = Ok ([], at)
changes_at l (suc n) last bytes at = do
  key ← key_at l last bytes at
  value ← value_at l bytes key.1
  others ← changes_at l n (Some key.0) bytes value.1
  Ok (record { key = key.0; value = value.0 } ∷ others.0, others.1)

-- all of the bytes
unfoldable pub batch_of : Limits → List ℕ → Result (List Change) BatchFault
batch_of l bytes = do
  count ← number_at (λ _ _. Outside) bytes 0
  changes ← changes_at l count.0 None bytes count.1
  if changes.1 == length bytes then Ok changes.0 else Err Outside
