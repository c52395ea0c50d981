-- Words that stand for bytes: what they stand for.
use Rattle.std.proofs.Common.{◌≡◌, ℕ, suc, ◌≤◌, ◌==◌, Bool, true, false, nat_le, cond, List, [], ◌∷◌, length, refl, Option, Some, None, Result, Ok, Err}
use Rattle.std.specs.Prelude.{codes, IfOk}
use Rattle.std.specs.Result.{result_ok}
use Rattle.std.specs.Str.{bytes_eq}
use Rattle.std.proofs.lemmas.Bool.{leb-true}
use Rattle.hex.specs.Hex.{decode_of, IsBytes}
use Rattle.hex.specs.declared.error.FromHexError.{FromHexError}
use Rattle.hex.proofs.HexLemmas.{decode_of-ok}
use Rattle.base_model.specs.Bytes.{AreBytes}
use Rattle.trie_model.specs.Maps.{key_limit, value_limit}
use Rattle.text_model.specs.Words.{hex_word}
use Rattle.text_model.specs.LineKind.{LineKind, LongKey, LongValue}
use Rattle.text_model.specs.ReadLine.{at_most, key_word, value_word}

each_byte : (bytes : List ℕ) → IsBytes bytes → AreBytes bytes
each_byte [] h = tt
each_byte (b ∷ bytes) h = (h 0, each_byte bytes (λ i. h (suc i)))

-- what an option has
abbrev pub Has : (List ℕ → Type 0) → Option (List ℕ) → Type 0
Has P None = Unit {0}
Has P (Some x) = P x

pub decoded_bytes : (word : List ℕ) (r : Result (List ℕ) FromHexError) → decode_of word ≡ r → Has AreBytes (result_ok r)
decoded_bytes word (Ok bytes) h = each_byte bytes (decode_of-ok word bytes h).3
decoded_bytes word (Err e) h = tt

by_tests : (P : List ℕ → Type 0) (a b : Bool) (o : Option (List ℕ)) → P [] → Has P o → Has P (cond a (Some []) (cond b None o))
by_tests P true b o none h = none
by_tests P false true o none h = tt
by_tests P false false o none h = h

pub hex_word_bytes : (word : List ℕ) → Has AreBytes (hex_word word)
hex_word_bytes word = by_tests AreBytes (bytes_eq word (codes "-")) (length word == 0) (result_ok (decode_of word)) tt (decoded_bytes word (decode_of word) refl)

-- bytes, no more than a limit
abbrev pub AreBytesWithin : ℕ → List ℕ → Type 0
AreBytesWithin limit bytes = AreBytes bytes × (length bytes ≤ limit)

pub within : (limit : ℕ) (long : LineKind) (o : Option (List ℕ)) → Has AreBytes o → IfOk (at_most limit long o) (AreBytesWithin limit)
within limit long None h = tt
within limit long (Some bytes) h = go (nat_le (length bytes) limit) refl
  where
    go : (b : Bool) → nat_le (length bytes) limit ≡ b → IfOk (cond b (Ok bytes) (Err long)) (AreBytesWithin limit)
    go true e = (h, leb-true (length bytes) limit e)
    go false e = tt

pub key_within : (word : List ℕ) → IfOk (key_word word) (AreBytesWithin key_limit)
key_within word = within key_limit LongKey (hex_word word) (hex_word_bytes word)

pub value_within : (word : List ℕ) → IfOk (value_word word) (AreBytesWithin value_limit)
value_within word = within value_limit LongValue (hex_word word) (hex_word_bytes word)
