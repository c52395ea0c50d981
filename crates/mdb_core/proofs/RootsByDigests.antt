-- What the digests of a map say: two maps with the same ones have the same root, also after the same batches.
use Rattle.std.proofs.Common.{◌≡◌, ℕ, List, [], ◌∷◌, map, refl, sym, ap, ◌∙◌, Option, Some, None}
use Rattle.std.specs.FinMap as map_of
use Rattle.std.specs.FinMap.Entries.{put}
use Rattle.std.specs.Map.{remove_entry}
use Rattle.std.specs.BTreeMap.{is_at}
use Rattle.base_model.specs.Bytes.{bytes_cmp}
use Rattle.trie_model.specs.Bits.{bits_of_bytes}
use Rattle.trie_model.specs.Hashing.{value_digest}
use Rattle.trie_model.specs.Items.{Item, Val}
use Rattle.trie_model.specs.Ids.{id}
use Rattle.trie_model.specs.Maps.{Map, entry_item, digest_entry, map_digests, root}
use Rattle.batch_model.specs.Batch.{Change, put_or_removed, after_batch}
use Rattle.view_model.specs.Forest.{Forest}
use Rattle.view_model.specs.Maps.{changes_of, laid}
use Rattle.mdb_core.proofs.MapDigests.{map_digests-insert, map_digests-remove}

digest_item : List ℕ × List ℕ → Item
digest_item d = Val (bits_of_bytes d.0) d.1

items_by_digests : (es : List (List ℕ × List ℕ)) → map entry_item es ≡ map digest_item (map digest_entry es)
unfolding digest_item
items_by_digests [] = refl
items_by_digests (e ∷ es) = ap (λ xs. entry_item e ∷ xs) (items_by_digests es)

pub root_by_digests : (w : ℕ) (m n : Map) → map_digests m ≡ map_digests n → root w m ≡ root w n
root_by_digests w m n same = ap (id w) (items_by_digests (map_of.entries m) ∙ ap (map digest_item) same ∙ sym (items_by_digests (map_of.entries n)))

digests_after_change : (m n : Map) (k : List ℕ) (v : Option (List ℕ)) → map_digests m ≡ map_digests n → map_digests (put_or_removed m k v) ≡ map_digests (put_or_removed n k v)
digests_after_change m n k None same = map_digests-remove m k ∙ ap (remove_entry (is_at (bytes_cmp k))) same ∙ sym (map_digests-remove n k)
digests_after_change m n k (Some v) same = map_digests-insert m k v ∙ ap (put bytes_cmp k (value_digest v)) same ∙ sym (map_digests-insert n k v)

pub digests_after : (m n : Map) (cs : List Change) → map_digests m ≡ map_digests n → map_digests (after_batch m cs) ≡ map_digests (after_batch n cs)
digests_after m n [] same = same
digests_after m n (c ∷ cs) same = digests_after (put_or_removed m c.key c.value) (put_or_removed n c.key c.value) cs (digests_after_change m n c.key c.value same)

pub laid_by_digests : (f : Forest) (m n : Map) (ns : List ℕ) → map_digests m ≡ map_digests n → map_digests (laid f m ns) ≡ map_digests (laid f n ns)
laid_by_digests f m n [] same = same
laid_by_digests f m n (k ∷ ns) same = laid_by_digests f (after_batch m (changes_of f k)) (after_batch n (changes_of f k)) ns (digests_after m n (changes_of f k) same)
