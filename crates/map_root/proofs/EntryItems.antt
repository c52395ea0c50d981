-- The items of entries: plain values, which rise and are of whole tokens as the entries' keys are.
use Rattle.std.proofs.Common.{◌≡◌, ℕ, ◌<◌, List, [], ◌∷◌, ◌++◌, length, refl, ap, arith, subst, inl, inr}
use Rattle.std.specs.Prelude.{replicate}
use Rattle.trie_model.specs.Bits.{IsRising}
use Rattle.trie_model.specs.Hashing.{zero_id}
use Rattle.trie_model.specs.Ids.{id, id_within}
use Rattle.trie_model.specs.Table.{items_table}
use Rattle.trie_model.proofs.NodeKeys.{AreTokens}
use Rattle.trie_model.proofs.Tables.{no_table}
use Rattle.trie_model.specs.Items.{NoStubs, AreValues, places}
use Rattle.bit_keys.proofs.KeyFacts.{width_pos}
use Rattle.bit_keys.specs.declared.branch.Branch.{Branch}
use Rattle.bit_keys.specs.Branch.{width_of}
use Rattle.map_root.specs.declared.entry.Entry.{Entry}
use Rattle.map_root.specs.Entries.{keys_of, items_of, AreWhole}

-- all items of entries are values
no_stubs : (es : List Entry) → NoStubs (items_of es)
no_stubs [] p x m = m
no_stubs (e ∷ es) p x (inl m) = cc
no_stubs (e ∷ es) p x (inr m) = no_stubs es p x m

-- the keys of entries are those of their values
keys_places : (es : List Entry) → keys_of es ≡ places (items_of es)
keys_places [] = refl
keys_places (e ∷ es) = ap (λ r. e.key ∷ r) (keys_places es)

-- they are of whole tokens
whole_places : (w : ℕ) (es : List Entry) → AreWhole w es → AreTokens w (places (items_of es))
whole_places w [] h = tt
whole_places w (e ∷ es) h = (h.0, whole_places w es h.1)

-- rising entries of whole tokens are plain values
pub plain_entries : (b : Branch) (es : List Entry) → IsRising (keys_of es) → AreWhole (width_of b) es → AreValues (width_of b) (items_of es)
plain_entries b es r h = record { pos = width_pos b; values = no_stubs es; whole = whole_places (width_of b) es h; rises = subst IsRising (keys_places es) r }

-- entries behind the first ones rise
pub rising_behind : (xs ys : List Entry) → IsRising (keys_of (xs ++ ys)) → IsRising (keys_of ys)
rising_behind [] ys h = h
rising_behind (x ∷ xs) ys h = rising_behind xs ys h.1

-- ---- no entries
-- without entries the ID is zero
pub empty_root : (w : ℕ) (es : List Entry) → length es < 1 → replicate 32 0 ≡ id w (items_of es)
unfolding id id_within zero_id
empty_root w [] h = refl
empty_root w (e ∷ es) h = absurd (omega arith)

-- and there is no node
pub no_rows : (w : ℕ) (es : List Entry) → length es < 1 → items_table w (items_of es) ≡ []
no_rows w [] h = no_table w
no_rows w (e ∷ es) h = absurd (omega arith)
