-- What a value store keeps of a map: key by key, and of the files.
use Rattle.std.proofs.Common.{◌≡◌, ℕ, ◌≤◌, Bool, true, false, cond, List, [], ◌∷◌, map, refl, sym, ap, ◌∙◌, subst, Some, Ok, option_map, is_some, arith}
use Rattle.std.specs.Ordering.{eq_by_cmp}
use Rattle.std.specs.FinMap.{find, get, entries, get-entries, contains_key, contains_key-keys}
use Rattle.std.specs.List.{list_any}
use Rattle.base_model.specs.Bytes.{bytes_cmp}
use Rattle.disk_model.specs.Files.{Files}
use Rattle.base_model.specs.Fields.{◌>>=◌}
use Rattle.trie_model.specs.Maps.{Map, limits}
use Rattle.store_model.specs.Header.{header_of}
use Rattle.store_model.specs.Journal.{IsJournal, Stands, active, later}
use Rattle.store_model.proofs.Journals.{active_header, files_stand_for_one_map}
use Rattle.mdb_journal.proofs.OpenedFiles.{known_hold}
use Rattle.value_store.specs.Values.{Place, ValueState, Keeps, HasKeys, pair_in, value_in}
use Rattle.value_store.specs.Index.{Places}
use Rattle.value_store.specs.StoreOpenings.{Opened}

pub find-pairs : (bytes : List ℕ) (es : List (List ℕ × Place)) (q : List ℕ) → find bytes_cmp q (map (pair_in bytes) es) ≡ option_map (value_in bytes) (find bytes_cmp q es)
find-pairs bytes [] q = refl
find-pairs bytes (e ∷ es) q = go (eq_by_cmp bytes_cmp q e.0) (find-pairs bytes es q)
  where
    go : (b : Bool) → find bytes_cmp q (map (pair_in bytes) es) ≡ option_map (value_in bytes) (find bytes_cmp q es)
        → cond b (Some (value_in bytes e.1)) (find bytes_cmp q (map (pair_in bytes) es)) ≡ option_map (value_in bytes) (cond b (Some e.1) (find bytes_cmp q es))
    go true ih = refl
    go false ih = ih

-- the value of a key is that at its place
pub kept_value : (s : ValueState) (m : Map) (files : Files) (index : Places) → s.index ≡ entries index → Keeps s m files → (q : List ℕ) → get m q ≡ option_map (value_in (files s.journal.file)) (get index q)
kept_value s m files index is keeps q =
    get-entries m q
    ∙ ap (find bytes_cmp q) keeps.pairs
    ∙ ap (λ es. find bytes_cmp q (map (pair_in (files s.journal.file)) es)) is
    ∙ find-pairs (files s.journal.file) (entries index) q
    ∙ ap (option_map (value_in (files s.journal.file))) (sym (get-entries index q))

-- the keys of the map are those that have a place
pub kept_key : (s : ValueState) (m : Map) (index : Places) → s.index ≡ entries index → HasKeys s m → (q : List ℕ) → is_some (get index q) ≡ contains_key m q
kept_key s m index is has q =
    contains_key-keys index q
    ∙ ap (λ (es : List (List ℕ × Place)). list_any (eq_by_cmp bytes_cmp q) (map (λ e. e.0) es)) (sym is)
    ∙ ap (list_any (eq_by_cmp bytes_cmp q)) (sym has)
    ∙ sym (contains_key-keys m q)

-- ---- for callers

-- the files stand for the map
pub keeps_stands : (s : ValueState) (m : Map) (files : Files) → Keeps s m files → Stands limits files m
keeps_stands s m files keeps = record { records = keeps.records; hold = known_hold s.journal keeps.records files keeps.knows; is = keeps.map_is }

-- the map has the keys of the index
pub keeps_keys : (s : ValueState) (m : Map) (files : Files) → Keeps s m files → HasKeys s m
keeps_keys s m files keeps = ap (map (λ (e : List ℕ × List ℕ). e.0)) keeps.pairs ∙ keys (files s.journal.file) s.index
  where
    keys : (bytes : List ℕ) (es : List (List ℕ × Place)) → map (λ (e : List ℕ × List ℕ). e.0) (map (pair_in bytes) es) ≡ map (λ (e : List ℕ × Place). e.0) es
    keys bytes [] = refl
    keys bytes (e ∷ es) = ap (λ ks. e.0 ∷ ks) (keys bytes es)

-- the same files are kept
pub keeps_same : (s : ValueState) (m : Map) (files now : Files) → now ≡ files → Keeps s m files → Keeps s m now
keeps_same s m files now same = subst (λ (x : Files). Keeps s m x) (sym same)

-- files whose first two are the same are kept
pub keeps_as_read : (s : ValueState) (m : Map) (files now : Files) → ((file : ℕ) → file ≤ 1 → now file ≡ files file) → Keeps s m files → Keeps s m now
keeps_as_read s m files now same keeps =
    let k = keeps.knows in
    let file = sym (same s.journal.file (active_header files s.journal.file k.header k.active).0) in
    record {
      records = keeps.records;
      knows = record {
        header = k.header;
        active =
            ap (λ x. header_of 0 x >>= λ first. header_of 1 (now 1) >>= λ second. Ok (later first second)) (same 0 (omega arith))
            ∙ ap (λ x. header_of 0 (files 0) >>= λ first. header_of 1 x >>= λ second. Ok (later first second)) (same 1 (omega arith))
            ∙ k.active;
        generation = k.generation;
        journal = subst (λ x. IsJournal k.header keeps.records x) file k.journal;
        place = k.place;
      };
      map_is = keeps.map_is;
      pairs = keeps.pairs ∙ ap (λ x. map (pair_in x) s.index) file;
      before = keeps.before;
    }

-- the map that was opened is the one that the files stood for
pub opened_map : (width : ℕ) (was is : Files) (s : ValueState) (m : Map) → Opened width was is s → Stands limits was m → Keeps s m is
opened_map width was is s m o stands = subst (λ (x : Map). Keeps s x is) (files_stand_for_one_map limits was o.map m o.stands stands) o.keeps
