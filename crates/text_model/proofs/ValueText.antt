-- The line of what is at a key.
use Rattle.std.proofs.Common.{◌≡◌, ℕ, ◌*◌, ◌<◌, ◌==◌, true, false, Bool, List, [], ◌∷◌, ◌++◌, length, refl, sym, ap, ◌∙◌, Option, Some, None, arith}
use Rattle.std.specs.Prelude.{codes, IfSome}
use Rattle.std.specs.Bool.{Decides}
use Rattle.std.specs.Str.{bytes_eq}
use Rattle.std.proofs.lemmas.Bool.Decides.{nat_tests}
use Rattle.std.proofs.lemmas.List.{append_cancel_left, append_cancel_right}
use Rattle.std.proofs.lemmas.Slice.Eq.{bytes_eq-Decides}
use Rattle.hex.specs.Hex.{encode_lower, lower_digits}
use Rattle.hex.proofs.HexLemmas.{length-encode_with, decode_of-encode_lower}
use Rattle.base_model.specs.Bytes.{AreBytes}
use Rattle.text_model.specs.Words.{hex_word}
use Rattle.text_model.specs.Texts.{word_of_bytes, value_text}
use Rattle.text_model.specs.Laws.{ValueLines}
use Rattle.text_model.proofs.PrintedBytes.{byte_at}

-- a word of two bytes or more is no dash
no_dash : (word : List ℕ) → 1 < length word → bytes_eq word (codes "-") ≡ false
no_dash word some = go (bytes_eq word (codes "-")) (bytes_eq-Decides word (codes "-"))
  where
    go : (b : Bool) → Decides b (word ≡ codes "-") → b ≡ false
    go false h = refl
    go true h = absurd (omega (arith, ap length (h.0 refl)))

-- digits are read as the bytes that they were printed of
digits_read : (b : ℕ) (bytes : List ℕ) → AreBytes (b ∷ bytes) → hex_word (encode_lower (b ∷ bytes)) ≡ Some (b ∷ bytes)
digits_read b bytes h =
    let word = encode_lower (b ∷ bytes) in
    let size : length word ≡ 2 * length (b ∷ bytes) = length-encode_with lower_digits (b ∷ bytes) in
    let other : bytes_eq word (codes "-") ≡ false = no_dash word (omega arith) in
    let filled : (length word == 0) ≡ false = grind (arith, nat_tests) in
    rw (other, filled, decode_of-encode_lower (b ∷ bytes) (byte_at (b ∷ bytes) h)) refl

read_back : (bytes : List ℕ) → AreBytes bytes → hex_word (word_of_bytes bytes) ≡ Some bytes
read_back [] h = refl
read_back (b ∷ bytes) h = digits_read b bytes h

-- equal lines of values have one word
told : (x y : List ℕ) → AreBytes x → AreBytes y → value_text (Some x) ≡ value_text (Some y) → Some x ≡ Some y
told x y hx hy e =
    let word : word_of_bytes x ≡ word_of_bytes y =
    append_cancel_right (word_of_bytes x) (word_of_bytes y) (10 ∷ []) (append_cancel_left (codes "value ") (word_of_bytes x ++ 10 ∷ []) (word_of_bytes y ++ 10 ∷ []) e) in
    sym (read_back x hx) ∙ ap hex_word word ∙ read_back y hy

tells : (x y : Option (List ℕ)) → IfSome x AreBytes → IfSome y AreBytes → value_text x ≡ value_text y → x ≡ y
tells None None hx hy e = refl
tells None (Some y) hx hy e = absurd (let no : ⊥ = cc e in no)
tells (Some x) None hx hy e = absurd (let no : ⊥ = cc e in no)
tells (Some x) (Some y) hx hy e = told x y hx hy e

pub value_lines : ValueLines
value_lines = record { reads = read_back; tells = tells }
