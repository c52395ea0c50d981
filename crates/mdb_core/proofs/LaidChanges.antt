-- What a change that is laid on a map makes of its digests.
use Rattle.std.proofs.Common.{◌≡◌, ℕ, List, Some, None, sym, ap, ◌∙◌}
use Rattle.std.specs.FinMap.Entries.{put}
use Rattle.std.specs.Map.{remove_entry}
use Rattle.std.specs.BTreeMap.{is_at}
use Rattle.base_model.specs.Bytes.{bytes_cmp}
use Rattle.trie_model.specs.Hashing.{value_digest}
use Rattle.trie_model.specs.Maps.{Map, map_digests}
use Rattle.batch_model.specs.Batch.{Change, put_or_removed}
use Rattle.mdb_core.proofs.MapDigests.{map_digests-insert, map_digests-remove}

pub laid_put : (m : Map) (ds : List (List ℕ × List ℕ)) (c : Change) (k v d : List ℕ) → ds ≡ map_digests m → k ≡ c.key → Some v ≡ c.value → d ≡ value_digest v → put bytes_cmp k d ds ≡ map_digests (put_or_removed m c.key c.value)
laid_put m ds c k v d is key value digest =
    ap (put bytes_cmp k d) is
    ∙ ap (λ d. put bytes_cmp k d (map_digests m)) digest
    ∙ sym (map_digests-insert m k v)
    ∙ ap (λ k. map_digests (put_or_removed m k (Some v))) key
    ∙ ap (λ v. map_digests (put_or_removed m c.key v)) value

pub laid_removal : (m : Map) (ds : List (List ℕ × List ℕ)) (c : Change) (k : List ℕ) → ds ≡ map_digests m → k ≡ c.key → None ≡ c.value → remove_entry (is_at (bytes_cmp k)) ds ≡ map_digests (put_or_removed m c.key c.value)
laid_removal m ds c k is key value =
    ap (remove_entry (is_at (bytes_cmp k))) is
    ∙ sym (map_digests-remove m k)
    ∙ ap (λ k. map_digests (put_or_removed m k None)) key
    ∙ ap (λ v. map_digests (put_or_removed m c.key v)) value
