-- The keys of a map, and those of its digests.
use Rattle.std.specs.Prelude.{◌≡◌, ℕ, List, [], ◌∷◌, map}
use Rattle.std.proofs.Common.{refl, sym, ap, ◌∙◌, Less}
use Rattle.std.specs.List.{AllByRecursion}
use Rattle.std.specs.FinMap.{empty, entries, len-entries, len-empty}
use Rattle.std.proofs.lemmas.List.{nil_from_length}
use Rattle.base_model.specs.Bytes.{bytes_cmp}
use Rattle.trie_model.specs.Maps.{Map, digest_entry, map_digests}
use Rattle.trie_model.proofs.Entries.{IsAscending, entries-IsAscending}
use Rattle.trie_items.specs.Sources.{AreAscending, map_keys}
use Rattle.history_model.specs.Held.{no_map}
use Rattle.mdb_core.specs.Stores.{keys_of}

below : (k : List ℕ) (es : List (List ℕ × List ℕ)) → AllByRecursion (λ (f : List ℕ × List ℕ). bytes_cmp k f.0 ≡ Less) es → AllByRecursion (λ l. bytes_cmp k l ≡ Less) (map (λ (e : List ℕ × List ℕ). e.0) es)
below k [] h = tt
below k (e ∷ es) h = (h.0, below k es h.1)

keys_ascend : (es : List (List ℕ × List ℕ)) → IsAscending es → AreAscending (map (λ (e : List ℕ × List ℕ). e.0) es)
keys_ascend [] h = tt
keys_ascend (e ∷ es) h = (below e.0 es h.0, keys_ascend es h.1)

pub map_keys-AreAscending : (m : Map) → AreAscending (map_keys m)
map_keys-AreAscending m = keys_ascend (entries m) (entries-IsAscending m)

same_keys : (es : List (List ℕ × List ℕ)) → keys_of (map digest_entry es) ≡ map (λ (e : List ℕ × List ℕ). e.0) es
same_keys [] = refl
same_keys (e ∷ es) = ap (λ r. e.0 ∷ r) (same_keys es)

pub map_keys-digests : (m : Map) → keys_of (map_digests m) ≡ map_keys m
map_keys-digests m = same_keys (entries m)

pub map_keys-none : map_keys no_map ≡ []
map_keys-none = ap (map (λ (e : List ℕ × List ℕ). e.0)) (nil_from_length (entries empty) (sym (len-entries empty) ∙ len-empty bytes_cmp (List ℕ)))
