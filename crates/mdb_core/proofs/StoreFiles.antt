-- What a store knows of its files, for whoever calls it.
use Rattle.std.proofs.Common.{◌≡◌, ℕ, ◌≤◌, List, sym, ◌∙◌, subst}
use Rattle.std.specs.FinMap as map_of
use Rattle.disk_model.specs.Files.{Files}
use Rattle.trie_model.specs.Maps.{Map, limits, root}
use Rattle.batch_model.specs.Batch.{Change, after_batch}
use Rattle.store_model.specs.Journal.{Stands}
use Rattle.store_model.proofs.Journals.{files_stand_for_one_map}
use Rattle.value_store.specs.Values.{HasKeys}
use Rattle.value_store.specs.Writes.{KeysAfter}
use Rattle.value_store.proofs.KeptMaps.{keeps_stands, keeps_keys, keeps_as_read}
use Rattle.mdb_core.specs.Stores.{DbState, Keeps}
use Rattle.mdb_core.specs.Places.{Speaks}
use Rattle.mdb_core.specs.declared.store.At.{At}
use Rattle.mdb_core.specs.declared.store.At.TheVariants.{Store, View, Root}
use Rattle.mdb_core.specs.StoreOpenings.{Opened}
use Rattle.mdb_core.proofs.CountedKeys.{same_number_after}

-- ---- maps

-- the files stand for the map of the store
pub kept_stands : (s : DbState) (m : Map) (files : Files) → Keeps s m files → Stands limits files m
kept_stands s m files k = keeps_stands s.values m files k.values

-- the root that is told is the root of the map
pub kept_root : (s : DbState) (m : Map) (files : Files) → Keeps s m files → s.root ≡ root s.width m
kept_root s m files k = k.roots.map

-- what is said of any place may be said of it
pub kept_speaks : (s : DbState) (m : Map) (files : Files) (at : At) → Keeps s m files → Speaks s m at
kept_speaks s m files Store k = record { digests = k.digests; past = tt }
kept_speaks s m files (View id) k = record { digests = k.digests; past = tt }
kept_speaks s m files (Root id) k = record { digests = k.digests; past = k.history }

-- files that are the same are kept too
pub kept_same : (s : DbState) (m : Map) (files now : Files) → now ≡ files → Keeps s m files → Keeps s m now
kept_same s m files now same k = subst (λ (f : Files). Keeps s m f) (sym same) k

-- and so are those whose first two are the same
pub kept_as_read : (s : DbState) (m : Map) (files now : Files) → ((file : ℕ) → file ≤ 1 → now file ≡ files file) → Keeps s m files → Keeps s m now
kept_as_read s m files now same k = record { values = keeps_as_read s.values m files now same k.values; digests = k.digests; short = k.short; roots = k.roots; history = k.history }

-- the map that was found is the one for which the files stood
pub opened_keeps : (width : ℕ) (was is : Files) (s : DbState) (m : Map) → Opened width was is s → Stands limits was m → Keeps s m is
opened_keeps width was is s m o stands = subst (λ (n : Map). Keeps s n is) (files_stand_for_one_map limits was o.map m o.stands stands) o.keeps

-- ---- numbers of keys

-- the values have just the keys of the map
pub kept_keys : (s : DbState) (m : Map) (files : Files) → Keeps s m files → HasKeys s.values m
kept_keys s m files k = keeps_keys s.values m files k.values

-- what holds of the number of keys after a batch, by the keys of the values and by the map
pub number_after : (s : DbState) (m : Map) (files : Files) (batch : List Change) (P : ℕ → Type 0) → Keeps s m files → KeysAfter s.values batch P → P (map_of.len (after_batch m batch))
number_after s m files batch P k after = after m (kept_keys s m files k)

pub keys_after : (s : DbState) (m : Map) (files : Files) (batch : List Change) (P : ℕ → Type 0) → Keeps s m files → P (map_of.len (after_batch m batch)) → KeysAfter s.values batch P
keys_after s m files batch P k after = λ n has. subst P (same_number_after m n batch (kept_keys s m files k ∙ sym has)) after
