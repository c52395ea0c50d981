-- The table of the map of no pairs, and the keys of digests.
use Rattle.std.proofs.Common.{◌≡◌, ℕ, List, [], map, sym, ap, ◌∙◌, subst}
use Rattle.std.specs.FinMap.{empty, entries, len-entries, len-empty}
use Rattle.std.proofs.lemmas.List.{nil_from_length}
use Rattle.base_model.specs.Bytes.{bytes_cmp}
use Rattle.trie_model.specs.Maps.{Map, entry_item}
use Rattle.trie_model.specs.Table.{node_keys, items_table, table}
use Rattle.history_model.specs.Held.{no_map}
use Rattle.trie_items.specs.Sources.{AreAscending}
use Rattle.mdb_core.specs.Stores.{DbState, AreDigests, keys_of}
use Rattle.mdb_core.specs.MapKeys.{map_keys-AreAscending, map_keys-digests}
use Rattle.mdb_core.specs.TidyKeys.{tidy, tidy-is}
use Rattle.mdb_core.specs.Spots.{IsSpotOf}
use Rattle.mdb_core.specs.declared.spot.Spot.{Spot}
use Rattle.mdb_core.specs.declared.spot.Spot.TheVariants.{Empty}

table-none : (w : ℕ) → table w no_map ≡ []
unfolding items_table node_keys
table-none w = ap (λ (es : List (List ℕ × List ℕ)). items_table w (map entry_item es)) (nil_from_length (entries empty) (sym (len-entries empty) ∙ len-empty bytes_cmp (List ℕ)))

-- the spot of no pairs names the map of none
pub names_none : (s : DbState) (m : Map) (spot : Spot) (n : Map) → spot ≡ Empty → IsSpotOf s m spot n → n ≡ no_map
names_none s m spot n is h = subst (λ (x : Spot). IsSpotOf s m x n) is h

pub empty_table : (s : DbState) (m : Map) (spot : Spot) (n : Map) (w : ℕ) → spot ≡ Empty → IsSpotOf s m spot n → table w n ≡ []
empty_table s m spot n w is h = ap (table w) (names_none s m spot n is h) ∙ table-none w

-- the keys of digests of a map are in their order and within the limit
pub tidy-digests : (ds : List (List ℕ × List ℕ)) → AreDigests ds → tidy (keys_of ds) ≡ keys_of ds
tidy-digests ds h = tidy-is (keys_of ds) (subst AreAscending (sym (ap keys_of h.1 ∙ map_keys-digests h.0)) (map_keys-AreAscending h.0)) h.2
