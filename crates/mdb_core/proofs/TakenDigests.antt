-- The digests of pairs that are taken in the order of their keys.
use Rattle.std.proofs.Common.{◌≡◌, ℕ, List, [], ◌∷◌, ◌++◌, map, refl, sym, ap, ◌∙◌, subst, Less}
use Rattle.std.specs.List.{AllByRecursion}
use Rattle.std.specs.FinMap.{entries}
use Rattle.std.specs.FinMap.Entries.{put}
use Rattle.std.proofs.lemmas.List.{append-nil}
use Rattle.base_model.specs.Bytes.{bytes_cmp}
use Rattle.trie_model.specs.Hashing.{value_digest}
use Rattle.trie_model.specs.Maps.{Map, digest_entry, map_digests}
use Rattle.trie_model.proofs.Entries.{IsAscending, entries-IsAscending}
use Rattle.value_store.specs.Index.{IsShort}
use Rattle.value_store.specs.PairSinks.{TakesAll}
use Rattle.mdb_core.specs.Stores.{AreDigests}
use Rattle.mdb_core.proofs.LastPuts.{put_next}
use Rattle.mdb_core.proofs.MapDigests.{put-AreDigests}

abbrev Entry : Type 0
Entry = List ℕ × List ℕ

below_digests : (k : List ℕ) (es : List Entry) → AllByRecursion (λ (f : Entry). bytes_cmp k f.0 ≡ Less) es → AllByRecursion (λ (f : Entry). bytes_cmp k f.0 ≡ Less) (map digest_entry es)
below_digests k [] h = tt
below_digests k (e ∷ es) h = (h.0, below_digests k es h.1)

digests-IsAscending : (es : List Entry) → IsAscending es → IsAscending (map digest_entry es)
digests-IsAscending [] h = tt
digests-IsAscending (e ∷ es) h = (below_digests e.0 es h.0, digests-IsAscending es h.1)

-- a digest is put at the key
abbrev pub puts_digest : List Entry → List ℕ → List ℕ → List Entry → Type 0
puts_digest old key value new = new ≡ put bytes_cmp key (value_digest value) old

along : (es ds new whole : List Entry) → IsAscending whole → ds ++ map digest_entry es ≡ whole → TakesAll puts_digest ds es new → new ≡ whole
along [] ds new whole ascends is taken = taken ∙ sym (append-nil ds) ∙ is
along (e ∷ es) ds new whole ascends is taken =
    along es taken.0 new whole ascends
    (ap (λ (r : List Entry). r ++ map digest_entry es) taken.1 ∙ put_next ds (map digest_entry es) whole e.0 (value_digest e.1) ascends is)
    taken.2

pub taken_digests : (m : Map) (new : List Entry) → TakesAll puts_digest [] (entries m) new → new ≡ map_digests m
taken_digests m new taken = along (entries m) [] new (map_digests m) (digests-IsAscending (entries m) (entries-IsAscending m)) refl taken

-- whatever pairs are taken, the digests stay those of a map
pub some_digests : (es ds new : List Entry) → AllByRecursion (λ (e : Entry). IsShort e.0) es → AreDigests ds → TakesAll puts_digest ds es new → AreDigests new
some_digests [] ds new short some taken = subst AreDigests (sym taken) some
some_digests (e ∷ es) ds new short some taken = some_digests es taken.0 new short.1 (subst AreDigests (sym taken.1) (put-AreDigests ds e.0 e.1 short.0 some)) taken.2
