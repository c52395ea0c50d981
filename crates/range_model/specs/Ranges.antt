-- Ranges of keys, both ends among them, and where keys and slots lie beside a range.
use Rattle.std.specs.Prelude.{◌≡◌, ℕ, ◌+◌, ◌≤◌, Bool, true, false, ◌&&◌, if◌then◌else◌, List, length, Option, Some, None, IfSome}
use Rattle.std.specs.Ordering.{is_lt, is_le}
use Rattle.base_model.specs.Bytes.{AreBytes, bytes_cmp}
use Rattle.trie_model.specs.Bits.{bits_of_bytes, is_prefix, key_cmp}
use Rattle.trie_model.specs.Maps.{Limits}

-- from a byte string to a byte string; None bounds nothing
pub record Range : Type 0 where
  pub start : Option (List ℕ)
  pub end : Option (List ℕ)

-- all keys
abbrev pub everything : Range
everything = record { start = None; end = None }

-- one key
abbrev pub only : List ℕ → Range
only key = record { start = Some key; end = Some key }

-- ---- which ranges there are

-- the longest bound, in bytes: one more than the longest key has, so that one can stand right behind each key
abbrev pub bound_limit : Limits → ℕ
bound_limit l = l.key + 1

abbrev pub are_in_order : Option (List ℕ) → Option (List ℕ) → Bool
are_in_order (Some a) (Some b) = is_le (bytes_cmp a b)
are_in_order a b = true

-- bounds within the limit, the start not above the end
pub record IsRange (l : Limits) (r : Range) : Type 0 where
  pub start_bytes : IfSome r.start AreBytes
  pub end_bytes : IfSome r.end AreBytes
  pub start_short : IfSome r.start (λ a. length a ≤ bound_limit l)
  pub end_short : IfSome r.end (λ b. length b ≤ bound_limit l)
  pub order : are_in_order r.start r.end ≡ true

-- ---- byte strings

abbrev pub is_from : Option (List ℕ) → List ℕ → Bool
is_from None key = true
is_from (Some a) key = is_le (bytes_cmp a key)

abbrev pub is_up_to : Option (List ℕ) → List ℕ → Bool
is_up_to None key = true
is_up_to (Some b) key = is_le (bytes_cmp key b)

-- whether a byte string lies in a range
abbrev pub holds : Range → List ℕ → Bool
holds r key = is_from r.start key && is_up_to r.end key

-- ---- bit keys and slots

-- where something lies: all of it in front of a range, in it, or behind it; or else astride
pub data Place : Type 0 where
  Before : Place
  Inside : Place
  After : Place
  Straddles : Place

abbrev pub is_inside : Place → Bool
is_inside Inside = true
is_inside p = false

-- in front of a range as a whole, or behind it
abbrev pub is_outside : Place → Bool
is_outside Before = true
is_outside Inside = false
is_outside After = true
is_outside Straddles = false

-- a bit key is below a start
abbrev pub is_below : Option (List ℕ) → List Bool → Bool
is_below None k = false
is_below (Some a) k = is_lt (key_cmp k (bits_of_bytes a))

-- a bit key is above an end
abbrev pub is_above : Option (List ℕ) → List Bool → Bool
is_above None k = false
is_above (Some b) k = is_lt (key_cmp (bits_of_bytes b) k)

-- where one bit key lies
unfoldable pub key_place : Range → List Bool → Place
key_place r k = if is_below r.start k then Before else if is_above r.end k then After else Inside

-- a slot is below a key, and does not begin it: so all keys that the slot begins are below it
abbrev pub ends_below : List Bool → List Bool → Bool
ends_below s k = if is_prefix s k then false else is_lt (key_cmp s k)

-- all keys that a slot begins are below a start
abbrev pub all_below : Option (List ℕ) → List Bool → Bool
all_below None s = false
all_below (Some a) s = ends_below s (bits_of_bytes a)

-- all keys that a slot begins are at most an end
abbrev pub all_up_to : Option (List ℕ) → List Bool → Bool
all_up_to None s = true
all_up_to (Some b) s = ends_below s (bits_of_bytes b)

-- where the keys lie that a slot begins. The least of them is the slot itself
unfoldable pub slot_place : Range → List Bool → Place
slot_place r s =
    if all_below r.start s then Before
    else if is_above r.end s then After
    else if is_below r.start s then Straddles
    else if all_up_to r.end s then Inside
    else Straddles
