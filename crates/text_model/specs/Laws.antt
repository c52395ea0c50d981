-- Laws of lines: which are good, what they make, which of them is the first bad one, and which of them are read of a long input.
use Rattle.std.specs.Prelude.{◌≢◌, Bool, true, false, ◌≡◌, ◌↔◌, ℕ, ◌+◌, ◌<◌, ◌≤◌, ◌^◌, List, ◌∷◌, ◌++◌, length, Option, Some, None, IfSome, Result, Ok, IsTrue, decimal}
use Rattle.std.specs.List.{AllByRecursion}
use Rattle.std.specs.FinMap.{get}
use Rattle.std.specs.Str.Lines.{lines}
use Rattle.base_model.specs.Bytes.{AreBytes}
use Rattle.trie_model.specs.Hashing.{hash_length}
use Rattle.trie_model.specs.Maps.{Map, IsMap, key_limit, limits, root}
use Rattle.range_model.specs.Ranges.{Range, IsRange}
use Rattle.text_model.specs.Lines.{is_overlong, lines_within}
use Rattle.text_model.specs.LineKind.{LineKind}
use Rattle.text_model.specs.ReadLine.{InputKind, Batch, Script, Verify, Line, Put, Del, Point, RangeOf, ChangesOf, VerifyRange, VerifyChanges, read_line, is_line}
use Rattle.text_model.specs.FirstBad.{first_bad}
use Rattle.text_model.specs.MapOfLines.{map_of_lines}
use Rattle.text_model.specs.Words.{RootWord, hex_word, number_word, most_pairs, most_bytes}
use Rattle.text_model.specs.Texts.{root_text, numbered_text, word_of_bytes, value_text}

-- what lines make is a map of byte strings within the limits of keys and values
abbrev pub LinesMakeMaps : Type 0
LinesMakeMaps = (lines : List (List ℕ)) → IsMap limits (map_of_lines lines)

-- a line, as it is read, says nothing of a key
abbrev pub IsSilentOn : List ℕ → Result Line LineKind → Type 0
IsSilentOn k (Ok (Put key value)) = key ≢ k
IsSilentOn k (Ok (Del key)) = key ≢ k
IsSilentOn k other = Unit {0}

abbrev pub AreSilentOn : List ℕ → List (List ℕ) → Type 0
AreSilentOn k = AllByRecursion (λ line. IsSilentOn k (read_line Batch line))

-- the last line on a key tells what the map has there, whatever lines stand before it; where no line is on it the map has nothing there
pub record LastLineCounts : Type 0 where
  pub put : (k v : List ℕ) (before after : List (List ℕ)) (line : List ℕ) → read_line Batch line ≡ Ok (Put k v) → AreSilentOn k after → get (map_of_lines (before ++ line ∷ after)) k ≡ Some v
  pub del : (k : List ℕ) (before after : List (List ℕ)) (line : List ℕ) → read_line Batch line ≡ Ok (Del k) → AreSilentOn k after → get (map_of_lines (before ++ line ∷ after)) k ≡ None
  pub none : (k : List ℕ) (lines : List (List ℕ)) → AreSilentOn k lines → get (map_of_lines lines) k ≡ None

-- every line passes a test
abbrev pub AreGood : (List ℕ → Bool) → List (List ℕ) → Type 0
AreGood good = AllByRecursion (λ line. IsTrue (good line))

-- a line that fails a test stands at this place, counted from 1, and every line before it passes
pub record IsFirstBad (good : List ℕ → Bool) (lines : List (List ℕ)) (n : ℕ) : Type 0 where
  pub before : List (List ℕ)
  pub line : List ℕ
  pub after : List (List ℕ)
  pub parts : lines ≡ before ++ line ∷ after
  pub place : n ≡ length before + 1
  pub passed : AreGood good before
  pub bad : good line ≡ false

-- by any test, the number of a bad line is that of the first one, and there is none exactly where every line passes
abbrev pub FirstBadLine : Type 0
FirstBadLine = (good : List ℕ → Bool) (lines : List (List ℕ)) → ((n : ℕ) → (first_bad good 1 lines ≡ Some n) ↔ IsFirstBad good lines n) × ((first_bad good 1 lines ≡ None) ↔ AreGood good lines)

-- one byte past the limit, what follows makes no difference to the lines within it; and an input within its limit has all its lines
abbrev pub CutLines : Type 0
CutLines =
    ((limit : ℕ) (front x y : List ℕ) → length front ≡ limit + 1 → lines_within limit (front ++ x) ≡ lines_within limit (front ++ y))
    × ((limit : ℕ) (bytes : List ℕ) → length bytes ≤ limit → lines_within limit bytes ≡ lines bytes)

-- a test that no line of too many bytes passes
abbrev pub RefusesOverlong : (List ℕ → Bool) → Type 0
RefusesOverlong good = (line : List ℕ) → is_overlong line ≡ true → good line ≡ false

-- of a line of too many bytes always the same is told, by its number
abbrev pub TellsOverlong : {X : Type 0} → (ℕ → List ℕ → Option X) → (ℕ → X) → Type 0
TellsOverlong tells long = (n : ℕ) (line : List ℕ) → is_overlong line ≡ true → tells n line ≡ Some (long n)

-- by a test that refuses lines of too many bytes, a bad line within the limit is the first bad line of the whole input, however long that is
abbrev pub BadLineStays : Type 0
BadLineStays = (good : List ℕ → Bool) → RefusesOverlong good → (limit : ℕ) (bytes : List ℕ) (n : ℕ) → first_bad good 1 (lines_within limit bytes) ≡ Some n → first_bad good 1 (lines bytes) ≡ Some n

-- whether a line is understood is such a test
abbrev pub OverlongLinesAreBad : Type 0
OverlongLinesAreBad = (kind : InputKind) → RefusesOverlong (is_line kind)

-- the line of a root has 64 digits between `root ` and its end, and the lines of two roots differ where the roots do
pub record RootLines : Type 0 where
  pub size : (w : ℕ) (m : Map) → length (root_text (root w m)) ≡ 5 + 64 + 1
  pub tells : (x y : List ℕ) → AreBytes x → AreBytes y → root_text x ≡ root_text y → x ≡ y

-- lines of one sort that tell a root behind a number differ where the numbers or the roots do
abbrev pub NumberedLines : Type 0
NumberedLines =
    (sort : List ℕ) (m n : ℕ) (x y : List ℕ) → m < 2 ^ 64 → n < 2 ^ 64 → AreBytes x → AreBytes y → length x ≡ length y → numbered_text sort m x ≡ numbered_text sort n y → (m ≡ n) × (x ≡ y)

-- the word that is printed of bytes is read as these bytes, and the lines of what is at a key differ where that does
pub record ValueLines : Type 0 where
  pub reads : (bytes : List ℕ) → AreBytes bytes → hex_word (word_of_bytes bytes) ≡ Some bytes
  pub tells : (x y : Option (List ℕ)) → IfSome x AreBytes → IfSome y AreBytes → value_text x ≡ value_text y → x ≡ y

-- a number of 64 bits, as it is printed, is a word that is read as that number, and no other word is
pub record NumbersAreDecimal : Type 0 where
  pub reads : (n : ℕ) → n < 2 ^ 64 → number_word (decimal n) ≡ Some n
  pub only : (word : List ℕ) (n : ℕ) → number_word word ≡ Some n → (n < 2 ^ 64) × (word ≡ decimal n)

-- what a line says of a proof: the bytes of a root, of a key within its limit, and of the proof
pub record IsPointLine (root key proof : List ℕ) : Type 0 where
  pub root_bytes : AreBytes root
  pub root_length : length root ≡ hash_length
  pub key_bytes : AreBytes key
  pub key_short : length key ≤ key_limit
  pub proof_bytes : AreBytes proof

abbrev pub PointLinesAreWithin : Type 0
PointLinesAreWithin = (line root key proof : List ℕ) → read_line Verify line ≡ Ok (Point root key proof) → IsPointLine root key proof

-- what a line says of a range proof, or of a change proof: the bytes of a root, a range of keys, and the bytes of the proof
pub record IsRangeLine (root : List ℕ) (asked : Range) (proof : List ℕ) : Type 0 where
  pub root_bytes : AreBytes root
  pub root_length : length root ≡ hash_length
  pub range : IsRange limits asked
  pub proof_bytes : AreBytes proof

abbrev pub RangeLinesAreWithin : Type 0
RangeLinesAreWithin =
    ((line root : List ℕ) (asked : Range) (proof : List ℕ) → read_line Verify line ≡ Ok (VerifyRange root asked proof) → IsRangeLine root asked proof)
    × ((line root : List ℕ) (asked : Range) (proof : List ℕ) → read_line Verify line ≡ Ok (VerifyChanges root asked proof) → IsRangeLine root asked proof)

-- what a line asks for of a range, or of changes in one: a range of keys, and one pair and one byte at least, none of them more
-- than may be asked for
pub record IsAskedRange (asked : Range) (pairs bytes : ℕ) : Type 0 where
  pub range : IsRange limits asked
  pub some_pairs : 1 ≤ pairs
  pub few_pairs : pairs ≤ most_pairs
  pub some_bytes : 1 ≤ bytes
  pub few_bytes : bytes ≤ most_bytes

abbrev pub AskedRangesAreWithin : Type 0
AskedRangesAreWithin =
    ((line : List ℕ) (root : RootWord) (asked : Range) (pairs bytes : ℕ) → read_line Script line ≡ Ok (RangeOf root asked pairs bytes) → IsAskedRange asked pairs bytes)
    × ((line : List ℕ) (from to : RootWord) (asked : Range) (pairs bytes : ℕ) → read_line Script line ≡ Ok (ChangesOf from to asked pairs bytes) → IsAskedRange asked pairs bytes)
