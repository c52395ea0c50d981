-- Items as the model sees them.
use Rattle.std.specs.Prelude.{ℕ, List, [], ◌∷◌}
use Rattle.trie_model.specs.Items as words
use Rattle.trie_model.specs.Items.{Follows}
use Rattle.trie_items.specs.declared.items.Item.{Item}
use Rattle.trie_items.specs.declared.items.Item.TheVariants.{Val, Stub}

abbrev pub item_of : Item → words.Item
item_of (Val k d) = words.Val k d
item_of (Stub p x) = words.Stub p x

-- a list of items, for tokens of so many bits
pub record ListedItems : Type 0 where
  pub width : ℕ
  pub items : List words.Item

-- an item may stand behind the last of others
abbrev pub LastFollows : List words.Item → words.Item → Type 0
LastFollows [] i = Unit {0}
LastFollows (j ∷ []) i = Follows j i
LastFollows (j ∷ k ∷ js) i = LastFollows (k ∷ js) i
