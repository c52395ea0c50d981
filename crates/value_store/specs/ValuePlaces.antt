-- Where the values of a batch stand, and what it makes of the places.
use Rattle.std.specs.Prelude.{ℕ, ◌+◌, Bool, not, ◌&&◌, if◌then◌else◌, List, [], ◌∷◌, length, Option, Some, None, option_map, is_some, IsSome}
use Rattle.std.specs.FinMap as map_of
use Rattle.std.specs.Ordering.{eq_by_cmp}
use Rattle.base_model.specs.Bytes.{bytes_cmp}
use Rattle.base_model.specs.Uvarint.{uvarint}
use Rattle.batch_model.specs.Sized.{sized_form}
use Rattle.batch_model.specs.Batch.{Change, change_form}
use Rattle.value_store.specs.Values.{Place}
use Rattle.value_store.specs.Index.{Places}
use Rattle.value_store.specs.BatchReading.{laid}

-- where the value of a change stands that is spelled at a place; None where the key is deleted
abbrev pub value_place : ℕ → Change → Option Place
value_place at c = option_map (λ v. record { start = at + length (sized_form c.key) + 1 + length (uvarint (length v)); count = length v }) c.value

-- the places after the changes that are spelled from a place on
abbrev pub laid_all : ℕ → List Change → Places → Places
laid_all at [] index = index
laid_all at (c ∷ cs) index = laid_all (at + length (change_form c)) cs (laid index c.key (value_place at c))

-- with a place for a key that has none
abbrev pub room_for : Places → List ℕ → Option Place → Places
room_for index key None = index
room_for index key (Some p) = if is_some (map_of.get index key) then index else map_of.insert index key p

-- the same for all keys that are put
abbrev pub with_room : ℕ → List Change → Places → Places
with_room at [] index = index
with_room at (c ∷ cs) index = with_room (at + length (change_form c)) cs (room_for index c.key (value_place at c))

-- a change adds a key, or takes one out
abbrev pub adds : Places → Change → Bool
adds index c = is_some c.value && not (is_some (map_of.get index c.key))

abbrev pub takes : Places → Change → Bool
takes index c = not (is_some c.value) && is_some (map_of.get index c.key)

-- ---- one key

-- the one that comes first, if there is one
abbrev pub or_else : {A : Type 0} → Option A → Option A → Option A
or_else None other = other
or_else (Some x) other = Some x

-- what the changes do to the place of a key; None where none of them is of it
abbrev pub pending : ℕ → List Change → List ℕ → Option (Option Place)
pending at [] key = None
pending at (c ∷ cs) key = or_else (pending (at + length (change_form c)) cs key) (if eq_by_cmp bytes_cmp key c.key then Some (value_place at c) else None)

-- the place that a key gets, if it gets one
abbrev pub new_place : Option (Option Place) → Option Place
new_place None = None
new_place (Some p) = p

-- each key that gets a place has one
pub record HasRoom (at : ℕ) (cs : List Change) (index : Places) : Type 0 where
  pub for : (key : List ℕ) → IsSome (new_place (pending at cs key)) → IsSome (map_of.get index key)
