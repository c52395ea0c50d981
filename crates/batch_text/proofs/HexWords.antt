-- What digits are read as, against what a word stands for.
use Rattle.std.proofs.Common.{◌≡◌, ℕ, ◌+◌, ◌*◌, ◌%◌, ◌<◌, ◌≤◌, ◌==◌, nat_le, true, false, codes, List, [], length, take, drop, slice_index, Option, Some, None, Result, Ok, Err, refl, ◌∙◌, ap, arith}
use Rattle.std.specs.Prelude.{IsErr}
use Rattle.std.specs.List.{AllPass}
use Rattle.std.specs.Option.{ok_or}
use Rattle.std.specs.Result.{result_ok}
use Rattle.std.specs.Str.{bytes_eq}
use Rattle.std.proofs.lemmas.Bool.{le-leb, lt-leb}
use Rattle.std.proofs.lemmas.Bool.Decides.{nat_tests}
use Rattle.hex.specs.Hex.{decode_of, decode_pairs, pair_value, is_hex_digit}
use Rattle.hex.specs.declared.error.FromHexError.{FromHexError}
use Rattle.hex.proofs.Pairs.{prepend, decode_err}
use Rattle.hex.proofs.HexLemmas.{decode_of-even, decode_of-odd, decode_of-ok, decode_of-digits}
use Rattle.text_model.specs.Words.{hex_word}
use Rattle.text_model.specs.LineKind.{LineKind, Hex}
use Rattle.text_model.specs.ReadLine.{at_most}
use Rattle.batch_text.specs.declared.line_kind.LineKind.{LineKind as ReadKind}
use Rattle.batch_text.specs.declared.line_kind.LineKind.TheVariants as read_kind
use Rattle.batch_text.specs.SeenLine.{seen_kind, IsFaultOf}

pair_refused : (digits bytes : List ℕ) (i : ℕ) (pair : Result ℕ FromHexError) → length digits % 2 ≡ 0 → 2 * i + 1 < length digits
    → pair_value (slice_index digits (2 * i)) (slice_index digits (2 * i + 1)) (2 * i) ≡ pair → IsErr pair
    → decode_pairs 0 digits ≡ prepend (take i bytes) (decode_pairs (2 * i) (drop (2 * i) digits))
    → IsErr (decode_of digits)
pair_refused digits bytes i (Err e) even fits is bad read = rw (decode_of-even digits even ∙ decode_err digits bytes i e fits is read) refl
pair_refused digits bytes i (Ok byte) even fits is bad read = let no : ⊥ = cc bad in absurd no

-- digits of which one pair stands for no byte
pub refused : (digits bytes : List ℕ) (i : ℕ) → length digits % 2 ≡ 0 → 2 * i + 1 < length digits
    → IsErr (pair_value (slice_index digits (2 * i)) (slice_index digits (2 * i + 1)) (2 * i))
    → decode_pairs 0 digits ≡ prepend (take i bytes) (decode_pairs (2 * i) (drop (2 * i) digits))
    → IsErr (decode_of digits)
refused digits bytes i even fits bad read = pair_refused digits bytes i (pair_value (slice_index digits (2 * i)) (slice_index digits (2 * i + 1)) (2 * i)) even fits refl bad read

-- ---- the digits of a word
-- a dash has none
pub dash_spelled : (word : List ℕ) → bytes_eq word (codes "-") ≡ true → hex_word word ≡ result_ok (decode_of [])
unfolding decode_pairs
dash_spelled word dash = rw dash refl

-- another word that has bytes is its digits
pub word_spelled : (word : List ℕ) → bytes_eq word (codes "-") ≡ false → 0 < length word → hex_word word ≡ result_ok (decode_of word)
word_spelled word other some = let filled : (length word == 0) ≡ false = grind (arith, nat_tests) in rw (other, filled) refl

-- a word of no bytes, and one of an odd number of them, stands for nothing
pub none_spelled : (word : List ℕ) → bytes_eq word (codes "-") ≡ false → length word ≡ 0 → hex_word word ≡ None
none_spelled word other none = let empty : (length word == 0) ≡ true = grind (arith, nat_tests) in rw (other, empty) refl

pub odd_spelled : (word : List ℕ) → bytes_eq word (codes "-") ≡ false → length word % 2 ≡ 1 → hex_word word ≡ None
odd_spelled word other odd = word_spelled word other (omega arith) ∙ ap result_ok (decode_of-odd word odd)

-- ---- the bytes of a word within a limit
-- digits that are decoded within the limit
pub within_read : (limit : ℕ) (long : LineKind) (spelled : Option (List ℕ)) (digits bytes : List ℕ) → spelled ≡ result_ok (decode_of digits) → decode_of digits ≡ Ok bytes → length digits ≤ 2 * limit → at_most limit long spelled ≡ Ok bytes
within_read limit long spelled digits bytes is decoded fits =
    let twice = (decode_of-ok digits bytes decoded).2 in
    let fit : nat_le (length bytes) limit ≡ true = le-leb (length bytes) limit (omega arith) in
    rw (is, decoded, fit) refl

-- digits of which one is none
pub not_read : (limit : ℕ) (long : LineKind) (spelled : Option (List ℕ)) (digits : List ℕ) → spelled ≡ result_ok (decode_of digits) → IsErr (decode_of digits) → at_most limit long spelled ≡ Err Hex
not_read limit long spelled digits is bad = go (decode_of digits) is bad
  where
    go : (r : Result (List ℕ) FromHexError) → spelled ≡ result_ok r → IsErr r → at_most limit long spelled ≡ Err Hex
    go (Ok bytes) same bad = let no : ⊥ = cc bad in absurd no
    go (Err e) same bad = rw same refl

-- what is told of digits of more bytes than the limit
pub long_told : (limit : ℕ) (long : LineKind) (named told : ReadKind) (spelled : Option (List ℕ)) (digits : List ℕ) → seen_kind named ≡ Some long → spelled ≡ result_ok (decode_of digits) → length digits % 2 ≡ 0 → 2 * limit < length digits
    → (AllPass is_hex_digit digits → told ≡ named) → (¬ (AllPass is_hex_digit digits) → told ≡ read_kind.Hex) → IsFaultOf told (at_most limit long spelled)
long_told limit long named told spelled digits seen is even over hex other = go (decode_of digits) refl is
  where
    go : (r : Result (List ℕ) FromHexError) → decode_of digits ≡ r → spelled ≡ result_ok r → IsFaultOf told (at_most limit long spelled)
    go (Ok bytes) decoded same =
        let ok = decode_of-ok digits bytes decoded in
        let twice = ok.2 in
        let beyond : nat_le (length bytes) limit ≡ false = lt-leb (length bytes) limit (omega arith) in
        rw (hex ok.1, seen, same, beyond) refl
    go (Err e) decoded same =
        let refuses : ¬ (AllPass is_hex_digit digits) = λ all. let read = decode_of-digits digits even all in cc (decoded, read.1) in
        rw (other refuses, same) refl

-- no more digits than the limit allows are read as if there were none
pub fits_told : (limit : ℕ) (long : LineKind) (spelled : Option (List ℕ)) (digits : List ℕ) → spelled ≡ result_ok (decode_of digits) → length digits ≤ 2 * limit → at_most limit long spelled ≡ ok_or (result_ok (decode_of digits)) Hex
fits_told limit long spelled digits is fits = go (decode_of digits) refl
  where
    go : (r : Result (List ℕ) FromHexError) → decode_of digits ≡ r → at_most limit long spelled ≡ ok_or (result_ok r) Hex
    go (Ok bytes) read = within_read limit long spelled digits bytes is read fits
    go (Err e) read = not_read limit long spelled digits is (rw read refl)
