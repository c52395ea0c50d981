-- What a change makes of a map is what it makes of the digests of the map.
use Rattle.std.proofs.Common.{◌≡◌, ℕ, Bool, true, false, not, cond, List, [], ◌∷◌, map, refl, sym, ap, ◌∙◌, subst, Ordering, Less, Equal, Greater}
use Rattle.std.specs.Ordering.{is_eq}
use Rattle.std.specs.List.{AllByRecursion}
use Rattle.std.specs.FinMap.{empty, insert, remove, entries, entries-insert, len-entries, len-empty}
use Rattle.std.proofs.lemmas.List.{nil_from_length}
use Rattle.std.specs.FinMap.Entries.{put, by_order, where_key}
use Rattle.std.specs.Map.{remove_entry}
use Rattle.std.specs.BTreeMap.{is_at}
use Rattle.std.proofs.lemmas.Cmp.{nat_list_cmp_total}
use Rattle.smallvec.specs.SmallVec.{SmallVec}
use Rattle.base_model.specs.Bytes.{bytes_cmp}
use Rattle.trie_model.proofs.Lists.{filter-all}
use Rattle.trie_model.proofs.Entries.{tied_equal, IsAscending, entries-IsAscending}
use Rattle.trie_model.proofs.EntriesRemoved.{other_key, entries-remove}
use Rattle.trie_model.specs.Hashing.{value_digest}
use Rattle.trie_model.specs.Maps.{Map, digest_entry, map_digests}
use Rattle.value_store.specs.Index.{IsShort}
use Rattle.mdb_core.specs.Stores.{AreDigests}
use Rattle.mdb_core.proofs.ShortKeys.{short-put}

-- the bytes of a key
abbrev pub key_items : SmallVec ℕ → List ℕ
key_items k = k.items

digests-put : (es : List (List ℕ × List ℕ)) (k v : List ℕ) → map digest_entry (put bytes_cmp k v es) ≡ put bytes_cmp k (value_digest v) (map digest_entry es)
digests-put [] k v = refl
digests-put (e ∷ es) k v = go (bytes_cmp k e.0) (digests-put es k v)
  where
    go : (o : Ordering) → map digest_entry (put bytes_cmp k v es) ≡ put bytes_cmp k (value_digest v) (map digest_entry es)
        → map digest_entry (by_order o ((k, v) ∷ e ∷ es) ((e.0, v) ∷ es) (e ∷ put bytes_cmp k v es)) ≡ by_order o ((k, value_digest v) ∷ digest_entry e ∷ map digest_entry es) ((e.0, value_digest v) ∷ map digest_entry es) (digest_entry e ∷ put bytes_cmp k (value_digest v) (map digest_entry es))
    go Less ih = refl
    go Equal ih = refl
    go Greater ih = ap (λ r. digest_entry e ∷ r) ih

-- the digests of a map in which a value was put
pub map_digests-insert : (m : Map) (k v : List ℕ) → map_digests (insert m k v) ≡ put bytes_cmp k (value_digest v) (map_digests m)
map_digests-insert m k v = ap (map digest_entry) (entries-insert nat_list_cmp_total m k v) ∙ digests-put (entries m) k v

digests-remove_entry : (es : List (List ℕ × List ℕ)) (k : List ℕ) → map digest_entry (remove_entry (is_at (bytes_cmp k)) es) ≡ remove_entry (is_at (bytes_cmp k)) (map digest_entry es)
digests-remove_entry [] k = refl
digests-remove_entry (e ∷ es) k = go (is_at (bytes_cmp k) e.0) (digests-remove_entry es k)
  where
    go : (b : Bool) → map digest_entry (remove_entry (is_at (bytes_cmp k)) es) ≡ remove_entry (is_at (bytes_cmp k)) (map digest_entry es)
        → map digest_entry (cond b es (e ∷ remove_entry (is_at (bytes_cmp k)) es)) ≡ cond b (map digest_entry es) (digest_entry e ∷ remove_entry (is_at (bytes_cmp k)) (map digest_entry es))
    go true ih = refl
    go false ih = ap (λ r. digest_entry e ∷ r) ih

-- the keys after k are others
others : (k : List ℕ) (es : List (List ℕ × List ℕ)) → AllByRecursion (λ (f : List ℕ × List ℕ). bytes_cmp k f.0 ≡ Less) es → AllByRecursion (λ (f : List ℕ × List ℕ). other_key k f.0 ≡ true) es
others k [] h = tt
others k (e ∷ es) h = (ap (λ o. not (is_eq o)) h.0, others k es h.1)

-- in ascending order one entry at most has the key
where_other : (k : List ℕ) (es : List (List ℕ × List ℕ)) → IsAscending es → where_key bytes_cmp (other_key k) es ≡ remove_entry (is_at (bytes_cmp k)) es
where_other k [] h = refl
where_other k (e ∷ es) h = go (bytes_cmp k e.0) refl (where_other k es h.1)
  where
    go : (o : Ordering) → bytes_cmp k e.0 ≡ o → where_key bytes_cmp (other_key k) es ≡ remove_entry (is_at (bytes_cmp k)) es
        → cond (not (is_eq o)) (e ∷ where_key bytes_cmp (other_key k) es) (where_key bytes_cmp (other_key k) es) ≡ cond (is_eq o) es (e ∷ remove_entry (is_at (bytes_cmp k)) es)
    go Less p ih = ap (λ r. e ∷ r) ih
    go Greater p ih = ap (λ r. e ∷ r) ih
    go Equal p ih = filter-all (λ (f : List ℕ × List ℕ). other_key k f.0) es (others k es (subst (λ x. AllByRecursion (λ (f : List ℕ × List ℕ). bytes_cmp x f.0 ≡ Less) es) (sym (tied_equal k e.0 p)) h.0))

-- the digests of a map from which a key was deleted
pub map_digests-remove : (m : Map) (k : List ℕ) → map_digests (remove m k) ≡ remove_entry (is_at (bytes_cmp k)) (map_digests m)
map_digests-remove m k =
    ap (map digest_entry) (entries-remove m k ∙ where_other k (entries m) (entries-IsAscending m))
    ∙ digests-remove_entry (entries m) k

-- digests of a map stay so where one of a value is put
pub put-AreDigests : (ds : List (List ℕ × List ℕ)) (k v : List ℕ) → IsShort k → AreDigests ds → AreDigests (put bytes_cmp k (value_digest v) ds)
put-AreDigests ds k v fits some = (insert some.0 k v, ap (put bytes_cmp k (value_digest v)) some.1 ∙ sym (map_digests-insert some.0 k v), short-put ds k (value_digest v) some.2 fits)

-- those of the empty map are none
pub none-AreDigests : AreDigests []
none-AreDigests = (empty, sym (ap (map digest_entry) (nil_from_length (entries empty) (sym (len-entries empty) ∙ len-empty bytes_cmp (List ℕ)))), tt)
