-- Pairs in memory, in the order of their keys.
use Rattle.std.specs.Prelude.{◌≡◌, ℕ, ◌≤◌, Bool, true, ◌&&◌, nat_le, List, [], ◌∷◌, length, map, Option, Some, None, Vec}
use Rattle.std.specs.Coded.{×_prop, Unit-prop, le_prop}
use Rattle.std.specs.List.{AllByRecursion, AllByRecursion-prop}
use Rattle.std.specs.Ordering.{Ordering-set, is_lt}
use Rattle.std.specs.declared.cmp.Ordering.TheVariants.{Less}
use Rattle.base_model.specs.Bytes.{bytes_cmp}
use Rattle.std.specs.declared.alloc.Global.{Global}
use Rattle.trie_model.specs.Maps.{key_limit}
use Rattle.trie_items.specs.Sources.{AreAscending}

-- a key and its value, as they are kept
abbrev pub KeptPair : Type 0
KeptPair = Vec ℕ Global × Vec ℕ Global

abbrev pub key_of : KeptPair → List ℕ
key_of p = p.0.items

abbrev pub pair_of : KeptPair → List ℕ × List ℕ
pair_of p = (p.0.items, p.1.items)

abbrev pub keys_of : List KeptPair → List (List ℕ)
keys_of = map key_of

abbrev pub pairs_of : List KeptPair → List (List ℕ × List ℕ)
pairs_of = map pair_of

-- keys within the limit
abbrev pub AreShort : List (List ℕ) → Type 0
AreShort ks = AllByRecursion (λ k. length k ≤ key_limit) ks

-- a key is above the last one, where there is one
abbrev pub is_above : Option (List ℕ) → List ℕ → Bool
is_above None k = true
is_above (Some last) k = is_lt (bytes_cmp last k)

-- each key is above the one before it, and within the limit
abbrev pub are_good : Option (List ℕ) → List (List ℕ) → Bool
are_good last [] = true
are_good last (k ∷ ks) = (is_above last k && nat_le (length k) key_limit) && are_good (Some k) ks

-- each of these facts has one proof at most
pub AreShort-prop : (ks : List (List ℕ)) → IsProp (AreShort ks)
AreShort-prop ks = AllByRecursion-prop (λ k. length k ≤ key_limit) (λ k. le_prop) ks

pub AreAscending-prop : (ks : List (List ℕ)) → IsProp (AreAscending ks)
AreAscending-prop [] = Unit-prop
AreAscending-prop (k ∷ ks) = ×_prop (AllByRecursion-prop (λ l. bytes_cmp k l ≡ Less) (λ l. Ordering-set (bytes_cmp k l) Less) ks) (AreAscending-prop ks)
