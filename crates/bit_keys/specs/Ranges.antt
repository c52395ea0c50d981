-- Ranges and places as the types of this crate have them.
use Rattle.std.specs.Prelude.{◌≡◌, ℕ, ◌≤◌, Bool, List, length, Option, option_map, IfSome}
use Rattle.trie_model.specs.Bits.{bits_of_bytes, packed}
use Rattle.trie_model.specs.Maps.{limits}
use Rattle.range_model.specs.Ranges.{Range, IsRange, bound_limit}
use Rattle.range_model.specs.Ranges as words
use Rattle.bit_keys.specs.declared.places.Place.{Place}
use Rattle.bit_keys.specs.declared.places.Place.TheVariants.{Before, Inside, After, Straddles}

-- a range of these bounds
abbrev pub range_of : Option (List ℕ) → Option (List ℕ) → Range
range_of start end = record { start = start; end = end }

-- a bound within the limit
abbrev pub IsShort : Option (List ℕ) → Type 0
IsShort bound = IfSome bound (λ b. length b ≤ bound_limit limits)

-- a key of whole bytes
abbrev pub IsOfBytes : List Bool → Type 0
IsOfBytes k = bits_of_bytes (packed k) ≡ k

-- bounds that are kept as keys
pub record AreKept (start end : Option (List Bool)) : Type 0 where
  pub start_whole : IfSome start IsOfBytes
  pub end_whole : IfSome end IsOfBytes
  pub range : IsRange limits (range_of (option_map packed start) (option_map packed end))

-- a place as the definitions have it
abbrev pub seen_place : Place → words.Place
seen_place Before = words.Before
seen_place Inside = words.Inside
seen_place After = words.After
seen_place Straddles = words.Straddles
