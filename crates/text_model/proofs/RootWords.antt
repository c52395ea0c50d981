-- Words that stand for a root: what they stand for.
use Rattle.std.proofs.Common.{◌≡◌, ℕ, zero, suc, ◌*◌, ◌==◌, Bool, true, false, cond, List, length, refl, Option, Some, None, Result, Ok, Err, arith}
use Rattle.std.specs.Prelude.{codes, replicate}
use Rattle.std.specs.Result.{result_ok}
use Rattle.std.specs.Str.{bytes_eq}
use Rattle.std.proofs.lemmas.Bool.Decides.{nat_tests}
use Rattle.hex.specs.Hex.{decode_of}
use Rattle.hex.specs.declared.error.FromHexError.{FromHexError}
use Rattle.hex.proofs.HexLemmas.{decode_of-ok}
use Rattle.base_model.specs.Bytes.{AreBytes}
use Rattle.trie_model.specs.Hashing.{hash_length, zero_id}
use Rattle.text_model.specs.Words.{id_word, plain_root_word}
use Rattle.text_model.proofs.WordBytes.{Has, decoded_bytes}

-- 32 bytes
abbrev pub IsId : List ℕ → Type 0
IsId bytes = AreBytes bytes × (length bytes ≡ hash_length)

of_digits : (word : List ℕ) (r : Result (List ℕ) FromHexError) → decode_of word ≡ r → length word ≡ 2 * hash_length → Has IsId (result_ok r)
of_digits word (Ok bytes) h e =
    let d = decode_of-ok word bytes h in
    let size : length bytes ≡ hash_length = omega (arith, d.0, e) in
    (decoded_bytes word (Ok bytes) h, size)
of_digits word (Err why) h e = tt

id_word_id : (word : List ℕ) → Has IsId (id_word word)
id_word_id word = go (length word == 2 * hash_length) refl
  where
    go : (b : Bool) → (length word == 2 * hash_length) ≡ b → Has IsId (cond b (result_ok (decode_of word)) None)
    go true is = of_digits word (decode_of word) refl (grind (arith, nat_tests, is))
    go false is = tt

zeros_are_bytes : (n : ℕ) → AreBytes (replicate n 0)
zeros_are_bytes zero = tt
zeros_are_bytes (suc n) = (omega arith, zeros_are_bytes n)

empty_id : IsId zero_id
unfolding zero_id
empty_id = (zeros_are_bytes hash_length, refl)

pub root_id : (word : List ℕ) → Has IsId (plain_root_word word)
root_id word = go (bytes_eq word (codes "empty")) (id_word word) (id_word_id word)
  where
    go : (b : Bool) (o : Option (List ℕ)) → Has IsId o → Has IsId (cond b (Some zero_id) o)
    go true o h = empty_id
    go false o h = h
