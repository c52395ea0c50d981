-- What is known of a source that lends a store and its disk.
use Rattle.std.specs.Prelude.{◌≡◌, ℕ, List}
use Rattle.std.proofs.Common.{refl, sym, ap, ◌∙◌, subst, inl, inr}
use Rattle.disk_model.specs.Files.{Files}
use Rattle.disk_model.specs.Words.{DiskWords, TellsContents}
use Rattle.trie_model.specs.Maps.{Map, map_digests}
use Rattle.trie_items.specs.Sources.{SourceWords, IsSource, map_keys, AreAscending}
use Rattle.node_table.specs.Pairs.{AreShort}
use Rattle.mdb_journal.specs.Opening.{Untouched}
use Rattle.mdb_core.specs.Stores.{DbState, Keeps, broken, is_failed, keys_of}
use Rattle.mdb_core.specs.TidyKeys.{tidy, tidy-AreAscending, tidy-AreShort, tidy-is}
use Rattle.mdb_core.specs.SourceReads.{Reads}
use Rattle.mdb_core.specs.Spots.{IsSpotOf, keys_at}
use Rattle.mdb_core.specs.MapKeys.{map_keys-AreAscending, map_keys-digests, map_keys-none}
use Rattle.mdb_core.specs.declared.spot.Spot.{Spot}
use Rattle.mdb_core.specs.declared.spot.Spot.TheVariants.{Store, View, Past, Empty}
use Rattle.mdb_core.specs.declared.source.DbSource.{DbSource}

-- the files are those of the store, and the spot names this map
pub record TellsMap {D : Type 0} (w : DiskWords D) (s : DbSource D) (n : Map) : Type 0 where
  pub tells : TellsContents w.tells
  pub stored : Map
  pub keeps : Keeps s.db.now stored (w.seen s.disk.now)
  pub spot : IsSpotOf s.db.now stored s.spot.now n

-- the same store, disk and spot are lent. The store is as it was, unless the disk failed, and nothing was written
pub record IsCalm {D : Type 0} (w : DiskWords D) (a b : DbSource D) : Type 0 where
  pub same_store : b.db.ghost_name ≡ a.db.ghost_name
  pub same_disk : b.disk.ghost_name ≡ a.disk.ghost_name
  pub same_spot : b.spot ≡ a.spot
  pub store : Reads a.db.now b.db.now
  pub disk : Untouched (w.seen a.disk.now) (w.seen b.disk.now) (w.moments a.disk.now) (w.moments b.disk.now)

abbrev pub lending : {D : Type 0} → DiskWords D → SourceWords (DbSource D)
lending w = record {
  told = TellsMap w;
  keys = λ s. keys_at s.db.now s.spot.now;
  width = λ s. s.db.now.width;
  faults = λ s. w.faults s.disk.now;
  failed = λ s. is_failed s.db.now;
  calm = IsCalm w;
}

-- ---- keys

ascending : (s : DbState) (spot : Spot) → AreAscending (keys_at s spot)
ascending s Store = tidy-AreAscending (keys_of s.digests)
ascending s (View p) = tidy-AreAscending (keys_of p.digests)
ascending s (Past p) = tidy-AreAscending (keys_of p.digests)
ascending s Empty = tt

short : (s : DbState) (spot : Spot) → AreShort (keys_at s spot)
short s Store = tidy-AreShort (keys_of s.digests)
short s (View p) = tidy-AreShort (keys_of p.digests)
short s (Past p) = tidy-AreShort (keys_of p.digests)
short s Empty = tt

-- digests of a map have its keys
tidy_keys : (ds : List (List ℕ × List ℕ)) (m : Map) → ds ≡ map_digests m → AreShort (keys_of ds) → tidy (keys_of ds) ≡ map_keys m
tidy_keys ds m is fits =
    let keys : keys_of ds ≡ map_keys m = ap keys_of is ∙ map_keys-digests m in
    ap tidy keys ∙ tidy-is (map_keys m) (map_keys-AreAscending m) (subst AreShort keys fits)

told_keys : (s : DbState) (m : Map) (files : Files) (spot : Spot) (n : Map) → Keeps s m files → IsSpotOf s m spot n → keys_at s spot ≡ map_keys n
told_keys s m files Store n k is = tidy_keys s.digests m k.digests k.short ∙ ap map_keys (sym is)
told_keys s m files (View p) n k is = tidy_keys p.digests n is.digests is.short
told_keys s m files (Past p) n k is = tidy_keys p.digests n is.digests is.short
told_keys s m files Empty n k is = sym map_keys-none ∙ ap map_keys (sym is)

-- ---- after reads

broken_keeps : (s : DbState) (m : Map) (files : Files) → Keeps s m files → Keeps (broken s) m files
broken_keeps s m files k = record {
  values = record {
    records = k.values.records;
    knows = record { header = k.values.knows.header; active = k.values.knows.active; generation = k.values.knows.generation; journal = k.values.knows.journal; place = k.values.knows.place };
    map_is = k.values.map_is;
    pairs = k.values.pairs;
    before = k.values.before;
  };
  digests = k.digests;
  short = k.short;
  roots = record { map = k.roots.map; views = k.roots.views };
  history = k.history;
}

reads_keep : (s t : DbState) (m : Map) (files : Files) → Reads s t → Keeps s m files → Keeps t m files
reads_keep s t m files (inl same) k = subst (λ (x : DbState). Keeps x m files) (sym same) k
reads_keep s t m files (inr failed) k = subst (λ (x : DbState). Keeps x m files) (sym failed) (broken_keeps s m files k)

broken_spot : (s : DbState) (m : Map) (spot : Spot) (n : Map) → IsSpotOf s m spot n → IsSpotOf (broken s) m spot n
broken_spot s m Store n is = is
broken_spot s m (View p) n is = record { live = is.live; map = is.map; digests = is.digests; short = is.short; nodes = is.nodes }
broken_spot s m (Past p) n is = record { map = is.map; digests = is.digests; short = is.short; nodes = is.nodes }
broken_spot s m Empty n is = is

reads_spot : (s t : DbState) (m : Map) (spot : Spot) (n : Map) → Reads s t → IsSpotOf s m spot n → IsSpotOf t m spot n
reads_spot s t m spot n (inl same) is = subst (λ (x : DbState). IsSpotOf x m spot n) (sym same) is
reads_spot s t m spot n (inr failed) is = subst (λ (x : DbState). IsSpotOf x m spot n) (sym failed) (broken_spot s m spot n is)

broken_keys : (s : DbState) (spot : Spot) → keys_at (broken s) spot ≡ keys_at s spot
broken_keys s Store = refl
broken_keys s (View p) = refl
broken_keys s (Past p) = refl
broken_keys s Empty = refl

reads_keys : (s t : DbState) (spot : Spot) → Reads s t → keys_at t spot ≡ keys_at s spot
reads_keys s t spot (inl same) = ap (λ (x : DbState). keys_at x spot) same
reads_keys s t spot (inr failed) = ap (λ (x : DbState). keys_at x spot) failed ∙ broken_keys s spot

reads_width : (s t : DbState) → Reads s t → t.width ≡ s.width
reads_width s t (inl same) = ap (λ (x : DbState). x.width) same
reads_width s t (inr failed) = ap (λ (x : DbState). x.width) failed

reads_through : (a b c : DbState) → Reads a b → Reads b c → Reads a c
reads_through a b c p (inl same) = subst (λ (x : DbState). Reads a x) (sym same) p
reads_through a b c (inl same) (inr failed) = inr (failed ∙ ap broken same)
reads_through a b c (inr was) (inr failed) = inr (failed ∙ ap broken was)

-- ---- the laws

pub lending-IsSource : {D : Type 0} (w : DiskWords D) → IsSource (lending w)
lending-IsSource w = record {
  told_keys = λ s m t. told_keys s.db.now t.stored (w.seen s.disk.now) s.spot.now m t.keeps t.spot;
  ascending = λ s. ascending s.db.now s.spot.now;
  short = λ s. short s.db.now s.spot.now;
  calm_itself = λ s. record { same_store = refl; same_disk = refl; same_spot = refl; store = inl refl; disk = record { seen = refl; images = refl } };
  calm_through = λ a b c p q. record {
    same_store = q.same_store ∙ p.same_store;
    same_disk = q.same_disk ∙ p.same_disk;
    same_spot = q.same_spot ∙ p.same_spot;
    store = reads_through a.db.now b.db.now c.db.now p.store q.store;
    disk = record { seen = q.disk.seen ∙ p.disk.seen; images = q.disk.images ∙ p.disk.images };
  };
  calm_told = λ a b m p t. record {
    tells = t.tells;
    stored = t.stored;
    keeps = subst (λ (f : Files). Keeps b.db.now t.stored f) (sym p.disk.seen) (reads_keep a.db.now b.db.now t.stored (w.seen a.disk.now) p.store t.keeps);
    spot = subst (λ r. IsSpotOf b.db.now t.stored r.now m) (sym p.same_spot) (reads_spot a.db.now b.db.now t.stored a.spot.now m p.store t.spot);
  };
  calm_keys = λ a b p. ap (λ r. keys_at b.db.now r.now) p.same_spot ∙ reads_keys a.db.now b.db.now a.spot.now p.store;
  calm_width = λ a b p. reads_width a.db.now b.db.now p.store;
}
