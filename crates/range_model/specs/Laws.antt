-- What the words on ranges say of each other.
use Rattle.std.specs.Prelude.{◌≡◌, ℕ, Bool, true, List, IfSome}
use Rattle.base_model.specs.Bytes.{AreBytes}
use Rattle.trie_model.specs.Bits.{bits_of_bytes, is_prefix}
use Rattle.trie_model.specs.Maps.{Limits}
use Rattle.range_model.specs.Ranges.{Range, Place, Straddles, IsRange, holds, key_place, slot_place, is_inside}

-- each key that a slot begins lies there
abbrev pub AllLie : Range → List Bool → Place → Type 0
AllLie r s p = (k : List Bool) → is_prefix s k ≡ true → key_place r k ≡ p

-- what the place of a slot says of the keys that it begins: they all lie there, or there is no place where they all lie
abbrev pub Says : Range → List Bool → Place → Type 0
Says r s Straddles = (p : Place) → AllLie r s p → ⊥
Says r s p = AllLie r s p

-- the place of a slot is that of all keys that it begins, where they have one
abbrev pub SlotsLieAsTheirKeys : Type 0
SlotsLieAsTheirKeys = (l : Limits) (r : Range) (s : List Bool) → IsRange l r → Says r s (slot_place r s)

-- a byte string lies in a range exactly where its bits do
abbrev pub BytesLieAsTheirBits : Type 0
BytesLieAsTheirBits = (r : Range) (key : List ℕ) → IfSome r.start AreBytes → IfSome r.end AreBytes → AreBytes key → holds r key ≡ is_inside (key_place r (bits_of_bytes key))
