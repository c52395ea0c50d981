-- The map for which the files of a store stand: each of its pairs was read by the grammar of batches, out of bytes.
use Rattle.std.proofs.Common.{◌≡◌, ℕ, ◌≤◌, Bool, true, false, cond, List, [], ◌∷◌, ◌++◌, length, refl, sym, ◌∙◌, subst, eqb, Option, Some, None, Result, Ok, Err, Ordering, Less, Equal, Greater}
use Rattle.std.specs.Prelude.{IfSome}
use Rattle.std.specs.FinMap.{get, empty, entries, get-empty}
use Rattle.std.specs.Int.{w32, to_be_bytes}
use Rattle.std.specs.List.{AllByRecursion, flat_map}
use Rattle.std.specs.Ordering.{is_eq}
use Rattle.std.proofs.lemmas.List.Concat.{flat_map-cons}
use Rattle.base_model.specs.Bytes.{AreBytes, bytes_cmp}
use Rattle.base_model.specs.Fields.{◌>>=◌}
use Rattle.base_model.specs.Uvarint.{uvarint}
use Rattle.base_model.proofs.Results.{ok_is, bind_ok}
use Rattle.disk_model.specs.Files.{Files, IsFile}
use Rattle.disk_model.specs.Words.{DiskWords, IsDisk}
use Rattle.trie_model.specs.Maps.{Map, Limits, IsPair, IsMap, limits}
use Rattle.trie_model.proofs.Entries.{tied_equal, get_of_member}
use Rattle.trie_model.proofs.KeySets.{All-of}
use Rattle.trie_model.proofs.Lists.{All-weaker}
use Rattle.range_model.specs.Ranges.{Range}
use Rattle.batch_model.specs.Batch.{Change, IsChange, change_form, value_form, put_or_removed, after_batch, batch_of}
use Rattle.batch_model.specs.Laws.{ReadBatchesAreSpelled}
use Rattle.batch_model.specs.Sized.{sized_form}
use Rattle.batch_model.proofs.SetChanges.{get_changed}
use Rattle.store_model.specs.Header.{Header, StoreFault, header_form}
use Rattle.store_model.specs.Record.{Record, record_form, records_form, batch_kind}
use Rattle.store_model.specs.Journal.{RecordsOf, Hold, active, after_record, after_records}
use Rattle.proof_model.specs.CheckedBytes.{change_checked}
use Rattle.run_model.specs.Laws.{StoredMapsAreWithin}
use Rattle.run_model.specs.OutsideThings.{disk_seen}
use Rattle.run_model.specs.Store.{OnMap}
use Rattle.run_model.specs.Verify.{IsTrueOfChanges, ShowsTrueChanges, ShowsChanges, IsTrueLine, IsTrueOfStore}
use Rattle.run_model.proofs.ReadRanges.{front, back}

-- ---- maps by what they answer

-- what a map answers is a pair within the limits
abbrev Answers : Limits → Map → Type 0
Answers l m = (k v : List ℕ) → get m k ≡ Some v → IsPair l (k, v)

by_answers : (l : Limits) (m : Map) → Answers l m → IsMap l m
by_answers l m h = All-of (IsPair l) (entries m) (λ e n. h e.0 e.1 (get_of_member m e.0 e.1 n))

nothing : (l : Limits) → Answers l empty
nothing l k v g = let no : ⊥ = cc (g, get-empty {X = List ℕ} bytes_cmp k) in absurd no

-- ---- a batch

-- a change of byte strings within the limits
record IsWithin (l : Limits) (c : Change) : Type 0 where
  key : AreBytes c.key
  value : IfSome c.value AreBytes
  fits : IsChange l c

value_bytes : (v : Option (List ℕ)) → AreBytes (value_form v) → IfSome v AreBytes
value_bytes None h = tt
value_bytes (Some v) h = back (uvarint (length v)) v h.1

-- changes within the limits that are spelled by bytes
spelled_within : (l : Limits) (cs : List Change) → AreBytes (flat_map change_form cs) → AllByRecursion (IsChange l) cs → AllByRecursion (IsWithin l) cs
spelled_within l [] h fits = tt
spelled_within l (c ∷ cs) h fits =
    let all : AreBytes (change_form c ++ flat_map change_form cs) = subst AreBytes (flat_map-cons change_form c cs) h in
    let one = front (change_form c) (flat_map change_form cs) all in
    let key = front (sized_form c.key) (value_form c.value) one in
    let value = back (sized_form c.key) (value_form c.value) one in
    (record { key = back (uvarint (length c.key)) c.key key; value = value_bytes c.value value; fits = fits.0 }, spelled_within l cs (back (change_form c) (flat_map change_form cs) all) fits.1)

-- the value that a change gives to its key makes a pair within the limits
pair_of : (l : Limits) (c : Change) → IsWithin l c → (v : List ℕ) → c.value ≡ Some v → IsPair l (c.key, v)
pair_of l c h v e = record {
  key_bytes = h.key;
  value_bytes = subst (λ o. IfSome o AreBytes) e h.value;
  key_short = h.fits.key;
  value_short = subst (λ o. IfSome o (λ v. length v ≤ l.value)) e h.fits.value;
}

after_change : (l : Limits) (m : Map) (c : Change) → IsWithin l c → Answers l m → Answers l (put_or_removed m c.key c.value)
after_change l m c h a q v g = go (bytes_cmp q c.key) refl (sym (get_changed m c.key c.value q) ∙ g)
  where
    go : (o : Ordering) → bytes_cmp q c.key ≡ o → cond (is_eq o) c.value (get m q) ≡ Some v → IsPair l (q, v)
    go Less e f = a q v f
    go Equal e f = subst (λ k. IsPair l (k, v)) (sym (tied_equal q c.key e)) (pair_of l c h v f)
    go Greater e f = a q v f

after_changes : (l : Limits) (m : Map) (cs : List Change) → AllByRecursion (IsWithin l) cs → Answers l m → Answers l (after_batch m cs)
after_changes l m [] h a = a
after_changes l m (c ∷ cs) h a = after_changes l (put_or_removed m c.key c.value) cs h.1 (after_change l m c h.0 a)

-- ---- records

abbrev HasBytes : Record → Type 0
HasBytes r = AreBytes r.payload

-- records that are spelled by bytes have bytes
payloads : (rs : List Record) → AreBytes (records_form rs) → AllByRecursion HasBytes rs
payloads [] h = tt
payloads (r ∷ rs) h =
    let one = front (record_form r) (records_form rs) h.1 in
    (back (to_be_bytes w32 (length r.payload)) r.payload one.1, payloads rs (back (record_form r) (records_form rs) h.1))

-- so have those that files hold
held_bytes : (files : Files) (rs : List Record) → ((file : ℕ) → IsFile (files file)) → Hold files rs → AllByRecursion HasBytes rs
held_bytes files rs are h = go (active files) h
  where
    go : (x : Result (Option (ℕ × Header)) StoreFault) → RecordsOf files rs x → AllByRecursion HasBytes rs
    go (Ok None) h = subst (AllByRecursion HasBytes) (sym h) tt
    go (Ok (Some a)) h =
        let behind = back (header_form a.1) h.behind (subst AreBytes h.is (are a.0).bytes) in
        payloads rs (front (records_form rs) (h.begins.gate ∷ h.begins.junk) (subst AreBytes h.begins.is behind))
    go (Err fault) h = absurd h

module _ (spelled : ReadBatchesAreSpelled) (l : Limits) where
  after_one : (m n : Map) (r : Record) → HasBytes r → after_record l m r ≡ Ok n → Answers l m → Answers l n
  after_one m n r bytes e a = go (eqb r.kind batch_kind) e
    where
      go : (b : Bool) → cond b (batch_of l r.payload >>= λ cs. Ok (after_batch m cs)) (Ok m) ≡ Ok n → Answers l n
      go false e = subst (Answers l) (ok_is m n e) a
      go true e =
          let s = bind_ok (batch_of l r.payload) (λ cs. Ok (after_batch m cs)) n e in
          let read = spelled l r.payload s.0 bytes s.1 in
          let changes = back (uvarint (length s.0)) (flat_map change_form s.0) (subst AreBytes read.1 bytes) in
          subst (Answers l) (ok_is (after_batch m s.0) n s.2) (after_changes l m s.0 (spelled_within l s.0 changes read.0.changes) a)

  after_all : (m n : Map) (rs : List Record) → AllByRecursion HasBytes rs → after_records l m rs ≡ Ok n → Answers l m → Answers l n
  after_all m n [] h e a = subst (Answers l) (ok_is m n e) a
  after_all m n (r ∷ rs) h e a =
      let s = bind_ok (after_record l m r) (λ next. after_records l next rs) n e in
      after_all s.0 n rs h.1 s.2 (after_one m s.0 r h.0 s.1 a)

pub stored_maps_are_within : ReadBatchesAreSpelled → StoredMapsAreWithin
stored_maps_are_within spelled l files m are s = by_answers l m (after_all spelled l empty m s.records (held_bytes files s.records are s.hold) s.is (nothing l))

-- ---- a run

-- the map of the store of a disk
pub map_on_disk : {D : Type 0} (words : DiskWords D) → IsDisk words → StoredMapsAreWithin → (w : ℕ) (disk : D) → OnMap w (disk_seen words disk) (λ m. IsMap limits m)
map_on_disk words lawful stored w disk m found = stored limits (words.seen disk) m (λ file. lawful.reads_files found.0 disk file) found.1.0

-- what a line shows of changes to a map that the store is found to have, it shows of the map of the store
shows : (w : ℕ) (m : Map) (want : List ℕ) (asked : Range) (bytes : List ℕ) → IsMap limits m → ShowsTrueChanges w (Ok m) want asked bytes → ShowsChanges w m want asked bytes
shows w m want asked bytes within s =
    let same : s.local ≡ m = sym (ok_is m s.local s.is_there) in
    record {
      proof = s.proof;
      accepted = subst (λ local. change_checked limits w want asked local bytes ≡ Ok s.proof) same s.accepted;
      is_true = subst (λ local. IsTrueOfChanges w want asked local s.proof) same (s.is_true (subst (IsMap limits) (sym same) within));
    }

-- lines that are true whatever the store is found to be are true of its map
pub true_of_store : (w : ℕ) (m : Map) (lines : List (List ℕ)) → IsMap limits m → AllByRecursion (IsTrueLine w (Ok m)) lines → AllByRecursion (IsTrueOfStore w m) lines
true_of_store w m lines within h = All-weaker (IsTrueLine w (Ok m)) (IsTrueOfStore w m) lines (λ line is want asked bytes read. shows w m want asked bytes within (is.changes want asked bytes read)) h
