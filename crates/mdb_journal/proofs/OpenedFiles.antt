-- What stands after an opening.
use Rattle.std.proofs.Common.{◌≡◌, inl, inr, ℕ, false, List, [], Some, None, Ok, refl, sym, ap, ◌∙◌, subst}
use Rattle.std.proofs.lemmas.Bool.{cases_eq}
use Rattle.disk_model.specs.Files.{Files}
use Rattle.disk_model.specs.Crash.{Unsynced, IsImage, IsImageOf, at_rest}
use Rattle.disk_model.specs.Moments.{Moments, LeavesOnly, Meanwhile}
use Rattle.disk_model.proofs.Meanwhile.{joined, weaker, none_yet}
use Rattle.disk_model.proofs.RestImages.{rest_image}
use Rattle.store_model.specs.Header.{header_of}
use Rattle.store_model.specs.Record.{Record}
use Rattle.store_model.specs.Journal.{Hold, IsJournal, RecordsOf, active}
use Rattle.store_model.proofs.Journals.{hold_as_read, files_hold_one_list, none_active, active_is, journal_header}
use Rattle.mdb_journal.specs.Journal.{JournalState, Knows}
use Rattle.mdb_journal.specs.DiskMoves.{IsSynced, AreSynced, OthersStay}
use Rattle.mdb_journal.specs.FirstHeader.{BothClosed, HoldNone, first_header}
use Rattle.mdb_journal.specs.Opening.{Opens, IsOpened}

-- files that are synced leave what they hold
pub synced_leave : (seen : Files) (m : Moments) (rs : List Record) → AreSynced seen m → Hold seen rs → LeavesOnly (λ image. Hold image rs) m.now
synced_leave seen m rs synced hold image is = hold_as_read seen image rs (λ file le. rest_image (seen file) (image file) (subst (λ (u : Unsynced). IsImage u (image file)) (synced file le) (is file))) hold

-- what a value knows, the files hold
pub known_hold : (j : JournalState) (rs : List Record) (seen : Files) → Knows j rs seen → Hold seen rs
known_hold j rs seen k = subst (RecordsOf seen rs) (sym k.active) k.journal

-- and it knows all that they hold
pub known_records : (w : ℕ) (seen : Files) (j : JournalState) (rs : List Record) → IsOpened w seen j → Hold seen rs → Knows j rs seen
known_records w seen j rs o hold = subst (λ rs. Knows j rs seen) (files_hold_one_list seen o.records rs (known_hold j o.records seen o.knows) hold) o.knows

-- where no header is open
pub no_records : (seen : Files) (rs : List Record) → active seen ≡ Ok None → Hold seen rs → rs ≡ []
no_records seen rs none hold = subst (RecordsOf seen rs) none hold

pub both_closed : (seen : Files) → active seen ≡ Ok None → BothClosed seen
both_closed seen none = let p = none_active seen none in record { first = p.0; second = p.1 }

-- the first header was made
pub first_known : (w : ℕ) (was new : Files) → BothClosed was → IsJournal (first_header w) [] (new 0) → new 1 ≡ was 1 → Knows (record { file = 0; generation = 1; end = 24; failed = false }) [] new
first_known w was new closed j other = record {
  header = first_header w;
  active = active_is new (Some (first_header w)) None (journal_header 0 (first_header w) [] (new 0) j) (ap (header_of 1) other ∙ closed.second);
  generation = refl;
  journal = j;
  place = refl;
}

pub first_opened : (w : ℕ) (was new : Files) → BothClosed was → IsJournal (first_header w) [] (new 0) → new 1 ≡ was 1 → IsOpened w new (record { file = 0; generation = 1; end = 24; failed = false })
unfolding first_known
first_opened w was new closed j other = record { records = []; knows = first_known w was new closed j other; width_is = refl; works = refl }

-- while it is made
pub first_opens : (old mid now new : Moments) (seen : Files) (rs : List Record) → Meanwhile (IsImageOf old.now) old mid → AreSynced seen mid → Hold seen rs → rs ≡ [] → now ≡ mid → Meanwhile HoldNone now new → Opens rs old new
first_opens old mid now new seen rs first synced hold none same second = inr (record {
  at = mid;
  before = first;
  there = synced_leave seen mid rs synced hold;
  after = joined (none_yet (λ image. Hold image rs) mid now same) (weaker second (λ image held. subst (λ rs. Hold image rs) (sym none) held));
})

-- nothing was written since the files were synced
pub still_synced : (seen now : Files) (m n : Moments) → now ≡ seen → n ≡ m → AreSynced seen m → AreSynced now n
still_synced seen now m n same same' synced = λ file le. ap (λ (m : Moments). m.now file) same' ∙ synced file le ∙ ap (λ (s : Files). at_rest (s file)) (sym same)

-- a file was synced, and the other stayed so
pub all_synced : (file : ℕ) (seen new : Files) (m n : Moments) → AreSynced seen m → OthersStay file seen new → OthersStay file m.now n.now → IsSynced file new n → AreSynced new n
all_synced file seen new m n synced reads stays here = λ other le. elim (cases_eq other file) [
  | inl same ↦ subst (λ k. IsSynced k new n) (sym same) here
  | inr ne ↦ stays other ne ∙ synced other le ∙ ap at_rest (sym (reads other ne))
]
