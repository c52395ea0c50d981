-- What a batch that was appended makes of a store.
use Rattle.std.proofs.Common.{◌≡◌, ◌⊎◌, inl, inr, ℕ, ◌+◌, ◌-◌, ◌≤◌, List, [], ◌∷◌, ◌++◌, map, length, take, drop, Option, Some, None, option_map, Ok, refl, sym, ap, ◌∙◌, subst, arith, append_assoc, length-drop}
use Rattle.std.specs.Prelude.{IfSome}
use Rattle.std.specs.List.{flat_map}
use Rattle.std.specs.FinMap as map_of
use Rattle.std.specs.FinMap.{get, entries, keys, len}
use Rattle.std.proofs.lemmas.List.{drop_at, drop-drop, take-append-le, drop-append-le}
use Rattle.base_model.specs.Fields.{◌>>=◌}
use Rattle.base_model.specs.Uvarint.{uvarint}
use Rattle.disk_model.specs.Files.{Files}
use Rattle.disk_model.specs.Moments.{Moments, LeavesOnly, Meanwhile}
use Rattle.disk_model.proofs.Meanwhile.{weaker}
use Rattle.trie_model.specs.Maps.{Map, limits}
use Rattle.batch_model.specs.Batch.{Change, IsBatch, FitsNumbers, batch_of, batch_form, change_form, after_batch}
use Rattle.batch_model.proofs.Batches.{spelled_batches_are_read}
use Rattle.store_model.specs.Header.{Header, header_form, open_gate}
use Rattle.store_model.specs.Record.{Record, IsRecord, record_form, records_form}
use Rattle.store_model.specs.Journal.{IsJournal, Hold, Stands, end_of, after_record, after_records}
use Rattle.store_model.proofs.Records.{records_form-push}
use Rattle.store_model.proofs.Journals.{maps_follow_records}
use Rattle.mdb_journal.specs.Journal.{JournalState, Knows, payload_in, payload_limit, record_in}
use Rattle.mdb_journal.specs.DiskMoves.{HoldEither}
use Rattle.value_store.specs.Values.{Place, ValueState, Keeps, HasKeys, value_in}
use Rattle.value_store.specs.Index.{Places, AreInFile, IsInFile}
use Rattle.value_store.specs.BatchReading.{Shows}
use Rattle.value_store.specs.ValuePlaces.{laid_all}
use Rattle.value_store.specs.Writes.{StandEither}
use Rattle.value_store.proofs.KeptMaps.{kept_value, kept_key}
use Rattle.value_store.proofs.KeptPairs.{pairs_shown, all_before}
use Rattle.value_store.proofs.PlacedMaps.{SameKeys, same_keys-after, keys_alike, len_alike, shows-laid_all}
use Rattle.value_store.proofs.RecordGates.{stands_at}

-- ---- keys

same_keys : (s : ValueState) (m : Map) (index : Places) → s.index ≡ entries index → HasKeys s m → SameKeys m index
same_keys s m index is has = record { at = λ q. sym (kept_key s m index is has q) }

-- as many keys as were counted
pub keys_counted : (s : ValueState) (m : Map) (index : Places) (cs changes : List Change) (n : ℕ) → s.index ≡ entries index → changes ≡ cs → n ≡ len (laid_all 0 changes index) → HasKeys s m → len (after_batch m cs) ≡ n
keys_counted s m index cs changes n is same counted has =
    len_alike (after_batch m cs) (laid_all 0 cs index) (same_keys-after 0 cs m index (same_keys s m index is has)) ∙ ap (λ l. len (laid_all 0 l index)) (sym same) ∙ sym counted

-- the keys of the map after the batch
pub keys_written : (s : ValueState) (m : Map) (index new : Places) (at : ℕ) (cs : List Change) → s.index ≡ entries index → HasKeys s m → new ≡ laid_all at cs index → keys (after_batch m cs) ≡ map (λ (e : List ℕ × Place). e.0) (entries new)
keys_written s m index new at cs is has made =
    keys_alike (after_batch m cs) (laid_all at cs index) (same_keys-after at cs m index (same_keys s m index is has)) ∙ ap (λ (x : Places). map (λ (e : List ℕ × Place). e.0) (entries x)) (sym made)

-- ---- the file

-- behind its header a journal has its records
behind_header : (h : Header) (rs : List Record) (bytes : List ℕ) (j : IsJournal h rs bytes) → drop 24 bytes ≡ records_form rs ++ (j.begins.gate ∷ j.begins.junk)
behind_header h rs bytes j = ap (drop 24) (j.is ∙ ap (λ x. header_form h ++ x) j.begins.is) ∙ drop_at (header_form h) (records_form rs ++ (j.begins.gate ∷ j.begins.junk)) 24 refl

-- a value that stands among the records
value_among : (bytes front rest : List ℕ) (p : Place) → drop 24 bytes ≡ front ++ rest → 24 ≤ p.start → p.start + p.count ≤ 24 + length front → value_in bytes p ≡ take p.count (drop (p.start - 24) front)
value_among bytes front rest p e low high =
    let at : 24 + (p.start - 24) ≡ p.start = omega arith in
    ap (λ n. take p.count (drop n bytes)) (sym at)
    ∙ ap (take p.count) (sym (drop-drop (p.start - 24) 24 bytes) ∙ ap (drop (p.start - 24)) e ∙ drop-append-le (p.start - 24) front rest (omega arith))
    ∙ take-append-le p.count (drop (p.start - 24) front) rest (omega (arith, length-drop (p.start - 24) front))

-- with one record more, values stand where they stood
pub values_stay : (h i : Header) (rs : List Record) (r : Record) (was is : List ℕ) (m : Map) (index : Places) → IsJournal h rs was → IsJournal i (rs ++ r ∷ []) is → AreInFile (end_of rs) index → Shows was m index → Shows is m index
values_stay h i rs r was is m index j k all s = record { at = λ q. s.at q ∙ go (get index q) (all q) }
  where
    more : List ℕ
    more = (open_gate ∷ record_form r) ++ (k.begins.gate ∷ k.begins.junk)

    now : drop 24 is ≡ records_form rs ++ more
    now = behind_header i (rs ++ r ∷ []) is k ∙ ap (λ x. x ++ (k.begins.gate ∷ k.begins.junk)) (records_form-push rs r) ∙ append_assoc (records_form rs) (open_gate ∷ record_form r) (k.begins.gate ∷ k.begins.junk)

    go : (x : Option Place) → IfSome x (IsInFile (end_of rs)) → option_map (value_in was) x ≡ option_map (value_in is) x
    go None h = refl
    go (Some p) inside = ap (λ v. Some v) (value_among was (records_form rs) (j.begins.gate ∷ j.begins.junk) p (behind_header h rs was j) inside.0 inside.1 ∙ sym (value_among is (records_form rs) more p now inside.0 inside.1))

-- ---- the record

fits_numbers : FitsNumbers limits
fits_numbers = record { key = omega arith; value = omega arith }

module _ (cs : List Change) (batch : IsBatch limits cs) (room : List ℕ) (payload : payload_in room ≡ batch_form cs) where
  abbrev r : Record
  r = record_in 1 room

  pub is_record : length (batch_form cs) ≤ payload_limit → IsRecord r
  is_record fits = record { known = refl; short = omega (arith, fits, ap length payload) }

  made : (m : Map) → after_record limits m r ≡ Ok (after_batch m cs)
  made m = ap (λ p. batch_of limits p >>= λ cs. Ok (after_batch m cs)) payload ∙ ap (λ x. x >>= λ cs. Ok (after_batch m cs)) (spelled_batches_are_read limits cs fits_numbers batch)

  module _ (s : ValueState) (m : Map) (files : Files) (keeps : Keeps s m files) where
    map_is : after_records limits map_of.empty (keeps.records ++ r ∷ []) ≡ Ok (after_batch m cs)
    map_is = maps_follow_records limits map_of.empty m keeps.records r keeps.map_is ∙ made m

    -- the store keeps the map after the batch
    pub written_keeps : (now : Files) (j : JournalState) (index new : Places) (start : ℕ) → s.index ≡ entries index → AreInFile s.journal.end index → Knows j (keeps.records ++ r ∷ []) now → AreInFile j.end new
        → start ≡ s.journal.end + 6 + length (uvarint (length cs)) → new ≡ laid_all start cs index → Keeps (record { journal = j; index = entries new }) (after_batch m cs) now
    written_keeps now j index new start is all knows all_new place made_of =
        let t = stands_at knows.header keeps.records r [] (now j.file) knows.journal in
        let from : end_of keeps.records + 6 + length (uvarint (length cs)) ≡ start = omega (arith, place, keeps.knows.place) in
        let payload_there : drop (end_of keeps.records + 6) (now j.file) ≡ uvarint (length cs) ++ (flat_map change_form cs ++ t.behind) =
        t.payload ∙ ap (λ x. x ++ t.behind) payload ∙ append_assoc (uvarint (length cs)) (flat_map change_form cs) t.behind in
        let changes_there : drop start (now j.file) ≡ flat_map change_form cs ++ t.behind =
        ap (λ n. drop n (now j.file)) (sym from)
        ∙ sym (drop-drop (length (uvarint (length cs))) (end_of keeps.records + 6) (now j.file))
        ∙ ap (drop (length (uvarint (length cs)))) payload_there
        ∙ drop_at (uvarint (length cs)) (flat_map change_form cs ++ t.behind) (length (uvarint (length cs))) refl in
        let was : Shows (files s.journal.file) m index = record { at = kept_value s m files index is keeps } in
        let stays = values_stay keeps.knows.header knows.header keeps.records r (files s.journal.file) (now j.file) m index keeps.knows.journal knows.journal (subst (λ n. AreInFile n index) keeps.knows.place all) was in
        let shows = subst (λ (x : Places). Shows (now j.file) (after_batch m cs) x) (sym made_of) (shows-laid_all (now j.file) start cs t.behind m index changes_there stays) in
        record {
          records = keeps.records ++ r ∷ [];
          knows = knows;
          map_is = map_is;
          pairs = pairs_shown (now j.file) (after_batch m cs) new shows;
          before = all_before j.end new all_new;
        }

    -- what a crash leaves
    stands_after : (image : Files) → Hold image (keeps.records ++ r ∷ []) → Stands limits image (after_batch m cs)
    stands_after image hold = record { records = keeps.records ++ r ∷ []; hold = hold; is = map_is }

    pub leaves_after : (now : Moments) → LeavesOnly (λ image. Hold image (keeps.records ++ r ∷ [])) now.now → LeavesOnly (λ image. Stands limits image (after_batch m cs)) now.now
    leaves_after now left = λ image is. stands_after image (left image is)

    pub either_meanwhile : (old now : Moments) (file : ℕ) → Meanwhile (HoldEither old file keeps.records (keeps.records ++ r ∷ [])) old now → Meanwhile (StandEither old file m (after_batch m cs)) old now
    either_meanwhile old now file run = weaker run (λ image e. record { stands = either image e.hold; others = e.others })
      where
        either : (image : Files) → Hold image keeps.records ⊎ Hold image (keeps.records ++ r ∷ []) → Stands limits image m ⊎ Stands limits image (after_batch m cs)
        either image (inl hold) = inl (record { records = keeps.records; hold = hold; is = keeps.map_is })
        either image (inr hold) = inr (stands_after image hold)
