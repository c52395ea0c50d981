-- What a crash leaves while a record is appended.
use Rattle.std.proofs.Common.{◌≡◌, ◌≢◌, inl, inr, ⊎_elim, ℕ, ◌+◌, ◌≤◌, List, [], ◌∷◌, ◌++◌, length, sym, ◌∙◌, ap, subst, arith, length-append}
use Rattle.disk_model.specs.Files.{Files, Torn, first_touched, written}
use Rattle.disk_model.specs.Crash.{Unsynced, IsImage}
use Rattle.disk_model.specs.Moments.{Moments}
use Rattle.disk_model.proofs.RestImages.{rest_image}
use Rattle.store_model.specs.Header.{Header}
use Rattle.store_model.specs.Record.{Record, IsRecord, record_form, records_form}
use Rattle.store_model.specs.Journal.{IsJournal, end_of}
use Rattle.store_model.specs.Laws.{gated, staged, appended}
use Rattle.store_model.proofs.Appends.{torn_staging, torn_opening, appends_add}
use Rattle.store_model.proofs.Journals.{active_file_counts, active_stays}
use Rattle.store_model.proofs.Records.{records_form-push}
use Rattle.mdb_journal.specs.Journal.{JournalState, Knows}
use Rattle.mdb_journal.specs.DiskMoves.{AreSynced, OthersStay, TornAlone, HoldEither}
use Rattle.mdb_journal.specs.Appends.{WithOrWithout}

module _ (old : Moments) (file : ℕ) (h : Header) (rs : List Record) (r : Record) (bytes : List ℕ) (end : ℕ) (place : end ≡ end_of rs) (j : IsJournal h rs bytes) where
  -- while all but the gate is written
  pub staging : (to : ℕ) (image : Files) → TornAlone old file (first_touched bytes (end + 1)) to bytes image → WithOrWithout old file h rs r image
  staging to image torn = record {
    here = inl (torn_staging h rs r bytes (image file) to j (subst (λ e. Torn (first_touched bytes (e + 1)) to bytes (image file)) place torn.here));
    others = torn.others;
  }

  -- what was written by then
  pub staged_is : (mid room : List ℕ) → mid ≡ written bytes (end + 1) room → room ≡ gated r → mid ≡ staged bytes rs r
  staged_is mid room is form = is ∙ ap (λ e. written bytes (e + 1) room) place ∙ ap (written bytes (end_of rs + 1)) form

  -- while the gate is opened
  pub opening : (mid : Moments) (now : List ℕ) → now ≡ staged bytes rs r → IsRecord r → OthersStay file old.now mid.now → (image : Files) → TornAlone mid file (first_touched now end) (end + 1) now image → WithOrWithout old file h rs r image
  opening mid now is fits stay image torn =
      let t : Torn (first_touched (staged bytes rs r) (end_of rs)) (end_of rs + 1) (staged bytes rs r) (image file) =
      subst (λ e. Torn (first_touched (staged bytes rs r) e) (e + 1) (staged bytes rs r) (image file)) place (subst (λ b. Torn (first_touched b end) (end + 1) b (image file)) is torn.here) in
      record {
        here = torn_opening h rs r bytes (image file) fits j t;
        others = λ other ne. subst (λ (u : Unsynced). IsImage u (image other)) (stay other ne) (torn.others other ne);
      }

-- the record is added, or it is not
pub holds_either : (old : Moments) (seen : Files) (j : JournalState) (rs : List Record) (r : Record) → (k : Knows j rs seen) → AreSynced seen old → (image : Files) → WithOrWithout old j.file k.header rs r image → HoldEither old j.file rs (rs ++ r ∷ []) image
holds_either old seen j rs r k synced image w = record {
  hold = ⊎_elim (λ (a : IsJournal k.header rs (image j.file)). inl (active_file_counts seen image j.file k.header rs k.active a stays)) (λ (a : IsJournal k.header (rs ++ r ∷ []) (image j.file)). inr (active_file_counts seen image j.file k.header (rs ++ r ∷ []) k.active a stays)) w.here;
  others = w.others;
}
  where
    stays : (other : ℕ) → other ≤ 1 → other ≢ j.file → image other ≡ seen other
    stays other le ne = rest_image (seen other) (image other) (subst (λ (u : Unsynced). IsImage u (image other)) (synced other le) (w.others other ne))

-- the value knows of the record that was added
pub known : (j : JournalState) (rs : List Record) (r : Record) (seen new : Files) (room : List ℕ) → Knows j rs seen → IsRecord r → OthersStay j.file seen new → new j.file ≡ written (written (seen j.file) (j.end + 1) room) j.end (1 ∷ []) → room ≡ gated r → Knows (record j { end = j.end + length room }) (rs ++ r ∷ []) new
known j rs r seen new room k fits stay is form =
    let bytes = seen j.file in
    let whole : new j.file ≡ appended bytes rs r =
    is ∙ ap (λ e. written (written bytes (e + 1) room) e (1 ∷ [])) k.place ∙ ap (λ x. written (written bytes (end_of rs + 1) x) (end_of rs) (1 ∷ [])) form in
    let journal : IsJournal k.header (rs ++ r ∷ []) (new j.file) = subst (λ b. IsJournal k.header (rs ++ r ∷ []) b) (sym whole) (appends_add k.header rs r bytes fits k.journal).1 in
    record {
      header = k.header;
      active = active_stays seen new j.file k.header (rs ++ r ∷ []) k.active journal (λ other le ne. stay other ne);
      generation = k.generation;
      journal = journal;
      place = omega (arith, k.place, ap length form, ap length (records_form-push rs r), length-append (records_form rs) (1 ∷ record_form r), length-append (record_form r) (0 ∷ []));
    }
