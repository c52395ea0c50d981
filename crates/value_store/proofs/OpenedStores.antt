-- What opening a store finds, and what a crash leaves meanwhile.
use Rattle.std.proofs.Common.{◌≡◌, ◌⊎◌, inl, inr, ℕ, List, [], ◌∷◌, ◌++◌, None, Ok, refl, sym, subst}
use Rattle.std.specs.FinMap as map_of
use Rattle.disk_model.specs.Files.{Files}
use Rattle.disk_model.specs.Moments.{Moments, LeavesOnly}
use Rattle.disk_model.proofs.Meanwhile.{weaker, quiet}
use Rattle.trie_model.specs.Maps.{Map, limits}
use Rattle.store_model.specs.Record.{Record}
use Rattle.store_model.specs.Journal.{Hold, Stands, RecordsOf, active}
use Rattle.store_model.specs.Refusals.{HasWidth, DamagedBatch}
use Rattle.mdb_journal.specs.Journal.{JournalState, Knows}
use Rattle.mdb_journal.specs.Opening.{IsOpened, Refuses, Opens as journal_opens}
use Rattle.mdb_journal.specs.declared.fault.JournalFault.{JournalFault}
use Rattle.mdb_journal.specs.declared.fault.JournalFault.TheVariants.{Disk as journal_disk, NotAStore as journal_not, BranchDiffers as journal_differs, Damaged as journal_damaged, TooLarge as journal_too_large, Failed as journal_failed, NoMemory as journal_no_memory}
use Rattle.mdb_journal.proofs.OpenedFiles.{known_hold}
use Rattle.value_store.specs.Index.{Places, AreInFile}
use Rattle.value_store.specs.BatchReading.{store_fault, Found, WrongBatch, RecordsFail}
use Rattle.store_model.specs.Openings.{Opens}
use Rattle.value_store.specs.StoreOpenings.{Opened, OpenFails}
use Rattle.value_store.specs.declared.fault.ValueFault.{ValueFault}
use Rattle.value_store.specs.declared.fault.ValueFault.TheVariants.{Disk, NotAStore, BranchDiffers, Damaged, TooLarge, Full, Failed, NoMemory}
use Rattle.value_store.proofs.KeptPairs.{pairs_shown, all_before}

module _ (width : ℕ) (was : Files) (j : JournalState) where
  -- the records that were there
  pub record WereHeld : Type 0 where
    pub records : List Record
    pub hold : Hold was records
    pub width_was : HasWidth width (active was)

  pub were_held : IsOpened width was j ⊎ (active was ≡ Ok None) → WereHeld
  were_held (inl o) = record {
    records = o.records;
    hold = known_hold j o.records was o.knows;
    width_was = subst (HasWidth width) (sym o.knows.active) o.width_is;
  }
  were_held (inr none) = record { records = []; hold = subst (RecordsOf was []) (sym none) refl; width_was = subst (HasWidth width) (sym none) tt }

  -- all of them were read
  pub opened_store : (is : Files) (held : WereHeld) (now : JournalState) (index : Places) → Knows now held.records is → AreInFile now.end index → Found (is now.file) held.records index
      → Opened width was is (record { journal = now; index = map_of.entries index })
  opened_store is held now index knows all found = record {
    map = found.map;
    stands = record { records = held.records; hold = held.hold; is = found.is };
    width_was = held.width_was;
    keeps = record {
      records = held.records;
      knows = knows;
      map_is = found.is;
      pairs = pairs_shown (is now.file) found.map index found.shows;
      before = all_before now.end index all;
    };
  }

  -- one of them is no batch
  wrong_batch : (o : IsOpened width was j ⊎ (active was ≡ Ok None)) (at : ℕ) → WrongBatch (were_held o).records at → DamagedBatch limits width was j.file at
  unfolding were_held
  wrong_batch (inl o) at w = record {
    header = o.knows.header;
    is = o.knows.active;
    width_is = o.width_is;
    before = w.before;
    wrong = w.wrong;
    after = w.after;
    hold = subst (λ rs. Hold was rs) w.split (known_hold j o.records was o.knows);
    map = w.map;
    good = w.good;
    kind = w.kind;
    outside = w.outside;
    place = w.place;
  }
  wrong_batch (inr none) at w = absurd (no_record w.before w.split)
    where
      no_record : (before : List Record) → [] ≡ before ++ w.wrong ∷ w.after → ⊥
      no_record [] e = absurd cc
      no_record (r ∷ before) e = absurd cc

  pub records_refused : (o : IsOpened width was j ⊎ (active was ≡ Ok None)) (fault : ValueFault) → RecordsFail j.file (were_held o).records fault → OpenFails width was fault
  records_refused o (Damaged f at) h = subst (λ file. OpenFails width was (Damaged file at)) (sym h.0) (inr (inr (wrong_batch o at h.1)))
  records_refused o Disk h = tt
  records_refused o NoMemory h = tt
  records_refused o (NotAStore f) h = absurd h
  records_refused o (BranchDiffers kept asked) h = absurd h
  records_refused o (TooLarge n) h = absurd h
  records_refused o Full h = absurd h
  records_refused o Failed h = absurd h

-- ---- want of memory

-- the opening of a journal takes none
pub no_memory_refused : (width : ℕ) (was : Files) (fault : JournalFault) → Refuses width was fault → store_fault fault ≡ NoMemory → ⊥
no_memory_refused width was journal_disk h e = absurd cc
no_memory_refused width was (journal_not file) h e = absurd cc
no_memory_refused width was (journal_differs kept asked) h e = absurd cc
no_memory_refused width was (journal_damaged file at) h e = absurd cc
no_memory_refused width was (journal_too_large n) h e = absurd cc
no_memory_refused width was journal_failed h e = absurd cc
no_memory_refused width was journal_no_memory h e = h

-- the files hold what they held
pub still_stands : (was mid is : Files) (m : Map) (s : Stands limits was m) (j : JournalState) → Knows j s.records mid → is ≡ mid → Stands limits is m
still_stands was mid is m s j knows same = record { records = s.records; hold = subst (λ (f : Files). Hold f s.records) (sym same) (known_hold j s.records mid knows); is = s.is }

-- ---- crashes

module _ (was : Files) (m : Map) (s : Stands limits was m) where
  held_stands : (image : Files) → Hold image s.records → Stands limits image m
  held_stands image hold = record { records = s.records; hold = hold; is = s.is }

  pub left_stands : (now : Moments) → LeavesOnly (λ image. Hold image s.records) now.now → LeavesOnly (λ image. Stands limits image m) now.now
  left_stands now left = λ image is. held_stands image (left image is)

  pub opens_store : (old mid new : Moments) → new ≡ mid → journal_opens s.records old mid → Opens limits m old new
  opens_store old mid new same (inl before) = inl (quiet before same)
  opens_store old mid new same (inr synced) = inr (record {
    at = synced.at;
    before = synced.before;
    there = λ image is. held_stands image (synced.there image is);
    after = quiet (weaker synced.after held_stands) same;
  })
