-- The words of a line, and words that stand for bytes, for a number, for what a line of a script speaks of, for a root, and for how much of a range.
use Rattle.std.specs.Prelude.{ℕ, ◌^◌, ◌*◌, ◌==◌, ◌&&◌, ◌||◌, Bool, false, not, if◌then◌else◌, nat_lt, nat_le, List, [], ◌∷◌, length, codes, Option, Some, None, option_map}
use Rattle.std.specs.Char.{is_ascii_digit}
use Rattle.std.specs.List.{slice_split, filter}
use Rattle.std.specs.Str.{bytes_eq, all_ascii_digits}
use Rattle.std.specs.Str.Parse.{digits_value}
use Rattle.std.specs.Result.{result_ok}
use Rattle.hex.specs.Hex.{decode_of}
use Rattle.trie_model.specs.Hashing.{hash_length, zero_id}
use Rattle.range_model.specs.Ranges.{Range, are_in_order}

-- a space or a tab
abbrev pub is_blank : ℕ → Bool
is_blank b = (b == 32) || (b == 9)

abbrev pub is_word : List ℕ → Bool
is_word part = not (length part == 0)

-- the words of a line: what stands between blanks
abbrev pub words_of : List ℕ → List (List ℕ)
words_of line = filter is_word (slice_split is_blank line)

-- the bytes of a word: an even number of hexadecimal digits in either case, or a dash for no bytes
abbrev pub hex_word : List ℕ → Option (List ℕ)
hex_word word = if bytes_eq word (codes "-") then Some [] else if length word == 0 then None else result_ok (decode_of word)

-- decimal digits, at least one, and no 0 in front of others
abbrev pub is_numeral : List ℕ → Bool
is_numeral [] = false
is_numeral (b ∷ []) = is_ascii_digit b
is_numeral (b ∷ c ∷ bs) = not (b == 48) && all_ascii_digits (b ∷ c ∷ bs)

-- the number of a word: a decimal number of at most 64 bits
abbrev pub number_word : List ℕ → Option ℕ
number_word word = if is_numeral word && nat_lt (digits_value 10 word) (2 ^ 64) then Some (digits_value 10 word) else None

-- what a line of a script speaks of
pub data PlaceWord : Type 0 where
  -- the store
  Db : PlaceWord
  -- the view of this number
  View : ℕ → PlaceWord

-- the place of a word: `db`, or the number of a view
abbrev pub place_word : List ℕ → Option PlaceWord
place_word word = if bytes_eq word (codes "db") then Some Db else option_map View (number_word word)

-- ---- roots

-- what a word says of a map: its root, or where a store has it
pub data RootWord : Type 0 where
  -- the map with this root
  Id : List ℕ → RootWord
  -- the map of the store
  Now : RootWord
  -- the empty map
  Empty : RootWord
  -- the map of the store so many commits back
  Back : ℕ → RootWord

-- the ID of a word: two hexadecimal digits in either case for each of its bytes
abbrev pub id_word : List ℕ → Option (List ℕ)
id_word word = if length word == 2 * hash_length then result_ok (decode_of word) else None

-- how many commits back, by a number behind `~`
abbrev pub back_word : List ℕ → Option RootWord
back_word [] = None
back_word (b ∷ number) = if b == 126 then option_map Back (number_word number) else None

-- an ID, or how many commits back
abbrev pub id_or_back : List ℕ → Option (List ℕ) → Option RootWord
id_or_back word (Some id) = Some (Id id)
id_or_back word None = back_word word

-- what a word says of a map that a store has
abbrev pub root_word : List ℕ → Option RootWord
root_word word =
    if bytes_eq word (codes "now") then Some Now
    else if bytes_eq word (codes "empty") then Some Empty
    else id_or_back word (id_word word)

-- the root of a word where there is no store: an ID, or `empty`
abbrev pub plain_root_word : List ℕ → Option (List ℕ)
plain_root_word word = if bytes_eq word (codes "empty") then Some zero_id else id_word word

-- ---- ranges

-- the most pairs of a range that may be asked for
abbrev pub most_pairs : ℕ
most_pairs = 4096

-- the most bytes of them
abbrev pub most_bytes : ℕ
most_bytes = 2097152

-- a number from 1 to a limit
abbrev pub from_one_to : ℕ → Option ℕ → Option ℕ
from_one_to limit None = None
from_one_to limit (Some n) = if nat_le 1 n && nat_le n limit then Some n else None

-- how many of something are asked for, one at least
abbrev pub count_word : ℕ → List ℕ → Option ℕ
count_word limit word = from_one_to limit (number_word word)

-- the range between two bounds, unless the end is below the start
abbrev pub range_between : Option (List ℕ) → Option (List ℕ) → Option Range
range_between start end = if are_in_order start end then Some (record { start = start; end = end }) else None
