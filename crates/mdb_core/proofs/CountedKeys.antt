-- How many keys a map has after a batch: which values the keys have is nothing to it.
use Rattle.std.proofs.Common.{◌≡◌, ℕ, Bool, true, false, cond, List, [], ◌∷◌, map, length, Option, Some, None, Ordering, Less, Equal, Greater, refl, sym, ap, ◌∙◌}
use Rattle.std.specs.List.{filter}
use Rattle.std.specs.FinMap as map_of
use Rattle.std.specs.FinMap.Entries.{put, by_order, where_key}
use Rattle.std.proofs.lemmas.Cmp.{nat_list_cmp_total}
use Rattle.std.proofs.lemmas.List.{length-map}
use Rattle.base_model.specs.Bytes.{bytes_cmp}
use Rattle.trie_model.specs.Maps.{Map}
use Rattle.trie_model.proofs.EntriesRemoved.{other_key, entries-remove}
use Rattle.batch_model.specs.Batch.{Change, put_or_removed, after_batch}

-- the key of an entry
abbrev key : List ℕ × List ℕ → List ℕ
key e = e.0

-- a key in its place
key_put : List ℕ → List (List ℕ) → List (List ℕ)
key_put k [] = k ∷ []
key_put k (x ∷ xs) = by_order (bytes_cmp k x) (k ∷ x ∷ xs) (x ∷ xs) (x ∷ key_put k xs)

keys_put : (es : List (List ℕ × List ℕ)) (k v : List ℕ) → map key (put bytes_cmp k v es) ≡ key_put k (map key es)
unfolding key_put
keys_put [] k v = refl
keys_put (e ∷ es) k v = go (bytes_cmp k e.0) (keys_put es k v)
  where
    go : (o : Ordering) → map key (put bytes_cmp k v es) ≡ key_put k (map key es)
        → map key (by_order o ((k, v) ∷ e ∷ es) ((e.0, v) ∷ es) (e ∷ put bytes_cmp k v es)) ≡ by_order o (k ∷ e.0 ∷ map key es) (e.0 ∷ map key es) (e.0 ∷ key_put k (map key es))
    go Less ih = refl
    go Equal ih = refl
    go Greater ih = ap (λ r. e.0 ∷ r) ih

keys_where : (p : List ℕ → Bool) (es : List (List ℕ × List ℕ)) → map key (where_key bytes_cmp p es) ≡ filter p (map key es)
keys_where p [] = refl
keys_where p (e ∷ es) = go (p e.0) (keys_where p es)
  where
    go : (b : Bool) → map key (where_key bytes_cmp p es) ≡ filter p (map key es)
        → map key (cond b (e ∷ where_key bytes_cmp p es) (where_key bytes_cmp p es)) ≡ cond b (e.0 ∷ filter p (map key es)) (filter p (map key es))
    go true ih = ap (λ r. e.0 ∷ r) ih
    go false ih = ih

same_after_change : (m n : Map) (k : List ℕ) (v : Option (List ℕ)) → map_of.keys m ≡ map_of.keys n → map_of.keys (put_or_removed m k v) ≡ map_of.keys (put_or_removed n k v)
same_after_change m n k None same =
    ap (map key) (entries-remove m k)
    ∙ keys_where (other_key k) (map_of.entries m)
    ∙ ap (filter (other_key k)) same
    ∙ sym (keys_where (other_key k) (map_of.entries n))
    ∙ sym (ap (map key) (entries-remove n k))
same_after_change m n k (Some v) same =
    ap (map key) (map_of.entries-insert nat_list_cmp_total m k v)
    ∙ keys_put (map_of.entries m) k v
    ∙ ap (key_put k) same
    ∙ sym (keys_put (map_of.entries n) k v)
    ∙ sym (ap (map key) (map_of.entries-insert nat_list_cmp_total n k v))

same_after : (m n : Map) (cs : List Change) → map_of.keys m ≡ map_of.keys n → map_of.keys (after_batch m cs) ≡ map_of.keys (after_batch n cs)
same_after m n [] same = same
same_after m n (c ∷ cs) same = same_after (put_or_removed m c.key c.value) (put_or_removed n c.key c.value) cs (same_after_change m n c.key c.value same)

len_of_keys : (m : Map) → map_of.len m ≡ length (map_of.keys m)
len_of_keys m = map_of.len-entries m ∙ sym (length-map (map_of.entries m) key)

-- maps with the same keys have as many of them after a batch
pub same_number_after : (m n : Map) (cs : List Change) → map_of.keys m ≡ map_of.keys n → map_of.len (after_batch m cs) ≡ map_of.len (after_batch n cs)
same_number_after m n cs same = len_of_keys (after_batch m cs) ∙ ap length (same_after m n cs same) ∙ sym (len_of_keys (after_batch n cs))
