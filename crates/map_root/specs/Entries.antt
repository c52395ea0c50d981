-- The entries that a builder keeps, and the parts of them that a node is made of.
use Rattle.std.specs.Prelude.{◌≡◌, ℕ, Bool, List, length, map, ◌*◌, ◌≤◌}
use Rattle.std.specs.List.{AllByRecursion}
use Rattle.base_model.specs.Bytes.{AreBytes}
use Rattle.trie_model.specs.Bits.{bits_of_bytes, packed}
use Rattle.trie_model.specs.Hashing.{hash_length}
use Rattle.trie_model.specs.Items.{Item, Val}
use Rattle.map_root.specs.declared.entry.Entry.{Entry}

abbrev pub key_of : Entry → List Bool
key_of e = e.key

abbrev pub keys_of : List Entry → List (List Bool)
keys_of = map key_of

abbrev pub item_of : Entry → Item
item_of e = Val e.key e.digest

abbrev pub items_of : List Entry → List Item
items_of = map item_of

-- the bytes of the key, and the digest
abbrev pub pair_of : Entry → List ℕ × List ℕ
pair_of e = (packed e.key, e.digest)

abbrev pub pairs_of : List Entry → List (List ℕ × List ℕ)
pairs_of = map pair_of

-- keys that were made of bytes
abbrev pub AreOfBytes : List Entry → Type 0
AreOfBytes es = AllByRecursion (λ (e : Entry). (bs : List ℕ) × AreBytes bs × (e.key ≡ bits_of_bytes bs)) es

-- digests that are no longer than a hash
abbrev pub AreShortDigests : List Entry → Type 0
AreShortDigests es = AllByRecursion (λ (e : Entry). length e.digest ≤ hash_length) es

-- keys of whole tokens
abbrev pub AreWhole : ℕ → List Entry → Type 0
AreWhole w es = AllByRecursion (λ (e : Entry). (n : ℕ) × (length e.key ≡ w * n)) es
