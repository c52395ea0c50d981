-- What a run of items tells of one slot.
use Rattle.std.specs.Prelude.{ℕ, ◌+◌, ◌==◌, if◌then◌else◌, Bool, List, [], ◌∷◌, length, Option, Some, None}
use Rattle.trie_model.specs.Bits.{token_at, same_key}
use Rattle.trie_model.specs.Ids.{id}
use Rattle.trie_model.specs.Items.{Item, Val, Stub, place_of}
use Rattle.trie_model.specs.Strings.{descend, strings}

-- the ID of a stub that is alone, and has a slot of n bits
abbrev pub lone : ℕ → List Item → Option (List ℕ)
lone n [] = None
lone n (Val k d ∷ is) = None
lone n (Stub p x ∷ []) = if length p == n then Some x else None
lone n (Stub p x ∷ i ∷ is) = None

abbrev pub or_id : ℕ → Option (List ℕ) → List Item → List ℕ
or_id w None is = id w is
or_id w (Some x) is = x

-- the ID of what lies in a slot of n bits: that of its stub, or of the items that lie there
abbrev pub slot_id : ℕ → ℕ → List Item → List ℕ
slot_id w n is = or_id w (lone n is) is

-- the strings that are hashed for it
abbrev pub slot_strings : ℕ → ℕ → List Item → List (List ℕ)
slot_strings w n is = descend (strings w) (lone n is) is

-- an item has this token behind n bits
abbrev pub has_token : ℕ → ℕ → ℕ → Item → Bool
has_token w n t i = token_at w n (place_of i) == t

-- how many items in front stand at the node with the key k itself: a value, or none
abbrev pub own_count : List Bool → List Item → ℕ
own_count k [] = 0
own_count k (Val q d ∷ is) = if same_key k q then 1 else 0
own_count k (Stub p x ∷ is) = 0

-- the digest of the item in front, where it is the value at the node
abbrev pub own_digest : List Bool → List Item → Option (List ℕ)
own_digest k [] = None
own_digest k (Val q d ∷ is) = if same_key k q then Some d else None
own_digest k (Stub p x ∷ is) = None

abbrev pub one_unless : Option (List ℕ) → ℕ
one_unless None = 1
one_unless (Some x) = 0

-- how deep the items of a slot of n bits may go: no deeper than they are many, and no deeper at all where they are its stub
abbrev pub depth : ℕ → List Item → ℕ
depth n is = length is + one_unless (lone n is)
