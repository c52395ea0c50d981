-- The line of a root.
use Rattle.std.proofs.Common.{◌≡◌, ℕ, ◌+◌, ◌*◌, List, [], ◌∷◌, ◌++◌, length, refl, arith, length-append}
use Rattle.std.specs.Prelude.{codes}
use Rattle.std.proofs.lemmas.List.{append_cancel_left, append_cancel_right}
use Rattle.sha2.proofs.Facts256.{length-sha256}
use Rattle.hex.specs.Hex.{encode_lower, lower_digits}
use Rattle.hex.proofs.HexLemmas.{length-encode_with}
use Rattle.base_model.specs.Bytes.{AreBytes}
use Rattle.trie_model.specs.Hashing.{zero_id, hashed_string}
use Rattle.trie_model.specs.Items.{Item}
use Rattle.trie_model.specs.Ids.{id, id_within, node_key, digest_at, children}
use Rattle.trie_model.specs.Maps.{map_items, root}
use Rattle.text_model.specs.Texts.{root_text}
use Rattle.text_model.specs.Laws.{RootLines}
use Rattle.text_model.proofs.PrintedBytes.{same_digits}

-- an ID has 32 bytes
length-id : (w : ℕ) (is : List Item) → length (id w is) ≡ 32
unfolding id id_within zero_id
length-id w [] = refl
length-id w (i ∷ is) = length-sha256 (hashed_string (node_key w (i ∷ is)) (digest_at (node_key w (i ∷ is)) (i ∷ is)) (children (id_within (length is) w) w (node_key w (i ∷ is)) (i ∷ is)))

-- and its line as many digits as there are in twice as many bytes
length-line : (x : List ℕ) → length x ≡ 32 → length (root_text x) ≡ 5 + 64 + 1
length-line x h =
    let e : length (encode_lower x) ≡ 2 * length x = length-encode_with lower_digits x in
    let l : length (encode_lower x ++ 10 ∷ []) ≡ length (encode_lower x) + 1 = length-append (encode_lower x) (10 ∷ []) in
    omega arith

-- equal lines have equal digits
told : (x y : List ℕ) → AreBytes x → AreBytes y → root_text x ≡ root_text y → x ≡ y
told x y hx hy e =
    let digits : encode_lower x ≡ encode_lower y =
    append_cancel_right (encode_lower x) (encode_lower y) (10 ∷ []) (append_cancel_left (codes "root ") (encode_lower x ++ 10 ∷ []) (encode_lower y ++ 10 ∷ []) e) in
    same_digits x y hx hy digits

pub root_lines : RootLines
root_lines = record { size = λ w m. length-line (root w m) (length-id w (map_items m)); tells = told }
