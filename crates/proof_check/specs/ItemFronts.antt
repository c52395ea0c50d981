-- The first items of two lists, and those in front of a key.
use Rattle.std.specs.Prelude.{Bool, false, List, [], ◌∷◌, ◌++◌, take, drop}
use Rattle.std.specs.List.{prefix_len}
use Rattle.std.specs.declared.cmp.Ordering.{Ordering}
use Rattle.std.specs.declared.cmp.Ordering.TheVariants.{Less, Greater}
use Rattle.std.specs.Ordering.{is_lt}
use Rattle.trie_model.specs.Bits.{key_cmp}
use Rattle.trie_model.specs.Items.{Item, place_of}

-- how the first items compare; one that is not there stands behind all others
abbrev pub fronts_cmp : List Item → List Item → Ordering
fronts_cmp [] [] = Less
fronts_cmp [] (j ∷ js) = Greater
fronts_cmp (i ∷ is) [] = Less
fronts_cmp (i ∷ is) (j ∷ js) = key_cmp (place_of i) (place_of j)

-- an item stands in front of a key
abbrev pub is_before : List Bool → Item → Bool
is_before k i = is_lt (key_cmp (place_of i) k)

-- the first item stands in front of a key
abbrev pub begins_before : List Bool → List Item → Bool
begins_before k [] = false
begins_before k (i ∷ is) = is_before k i

-- items in among others, behind those in front of a key
abbrev pub put_before : List Bool → List Item → List Item → List Item
put_before k is js = take (prefix_len (is_before k) js) js ++ (is ++ drop (prefix_len (is_before k) js) js)
