-- What a run promises that reads the map of a store, by how its reading and its writing ended.
use Rattle.std.proofs.Common.{◌≡◌, ◌≢◌, ℕ, Bool, true, false, List, Option, Some, None, Ok, refl, sym, ap, ◌∙◌, subst, inl, inr}
use Rattle.std.specs.Io.KnownBytes.{Appends}
use Rattle.base_model.specs.Faults.{Rose}
use Rattle.base_model.specs.Streams.{AppendsPrefix}
use Rattle.disk_model.specs.Words.{TellsContents}
use Rattle.trie_model.specs.Maps.{Map, limits}
use Rattle.std.specs.Prelude.{option_map}
use Rattle.text_model.specs.Texts.{value_text, proof_text, range_text, changes_text}
use Rattle.store_model.specs.Journal.{Stands}
use Rattle.store_model.proofs.Journals.{files_stand_for_one_map}
use Rattle.mdb_journal.specs.Opening.{Untouched}
use Rattle.mdb_core.specs.Stores.{DbState, Keeps}
use Rattle.run_model.specs.OutsideThings.{DiskSeen, Outside}
use Rattle.run_model.specs.Command.{Get, Prove, Range, Changes}
use Rattle.run_model.specs.End.{End, Done, BadWords, BadLine, NotOpened, VerifyRefused, NotHeld, Limit, Read, Write, Disk, NoMemory}
use Rattle.run_model.specs.Outcome.{Outcome, PrintsNothing, CameTo}
use Rattle.run_model.specs.Store.{IsFound}
use Rattle.run_model.specs.Get.{get_outcome}
use Rattle.run_model.specs.Prove.{proof_outcome, prove_outcome}
use Rattle.run_model.specs.Range.{range_proof_outcome, range_outcome}
use Rattle.run_model.specs.Changes.{changes_proof_outcome, changes_outcome}
use Rattle.run_model.specs.ReadCommands.{IsAnswer, ReadRuns}
use Rattle.run_model.specs.Runs.{SharedRuns}
use Rattle.range_model.specs.Ranges.{Range as Bounds}
use Rattle.text_model.specs.Words.{RootWord}
use Rattle.store_opening.specs.Opening.{KeepsMaps, IsOpen, FailsBy}
use Rattle.mdb_tool.specs.MapReads.{Finds, IsValueAt, IsLineOf, line_outcome}
use Rattle.run_model.proofs.ToldThings.{always, whole}
use Rattle.store_opening.proofs.Openings.{open_keeps, open_stands, untouched_stands}
use Rattle.mdb_tool.proofs.StoreRuns.{StoreRuns, own_of, not_refused, came_to, cut_off, finished, failed, not_held}

-- all that a run promises that has this outcome on a map
pub record ReadPromises (names : Bool) (outcome : Map → Outcome) (w : ℕ) (before after : Outside) (end : End) : Type 0 where
  pub store : StoreRuns names w (λ m bytes. outcome m) before after end
  pub read : ReadRuns outcome w before after end

-- ---- what was read
-- what was read in an opened store
pub found_in : (Holds : Map → Type 0) (w : ℕ) (before mid after : DiskSeen) (s : DbState) → IsOpen w before mid s → Untouched mid.files after.files mid.moments after.moments
    → (TellsContents before.tells → (m : Map) → Keeps s m mid.files → Holds m) → Finds Holds w before after
found_in Holds w before mid after s o u read = record {
  there = λ told. let found = o.opened told in (found.map, (told, (found.stands, found.width_was)));
  is = λ m found. read found.0 m (open_keeps w before mid s o found.0 m found.1.0);
  files = λ m found. untouched_stands mid.files after.files mid.moments after.moments m u (open_stands w before mid s o found.0 m found.1.0);
}

-- where there is no memory for its line
pub found_lost : (Holds : Map → Type 0) (w : ℕ) (before after : DiskSeen) → Finds Holds w before after → FailsBy w before after NoMemory
found_lost Holds w before after f = λ told m stands.
    let there = f.there told in
    subst (λ n. Stands limits after.files n) (files_stand_for_one_map limits before.files there.0 m there.1.1.0 stands) (f.files there.0 there.1)

-- the line of a value
pub line_of_value : (key : List ℕ) (w : ℕ) (before after : DiskSeen) (value : Option (List ℕ)) (text : List ℕ) → Finds (IsValueAt key value) w before after → text ≡ value_text value → Finds (IsLineOf (get_outcome key) (Some text)) w before after
line_of_value key w before after value text f spelled = record {
  there = f.there;
  is = λ m found. ap (λ t. line_outcome (Some t)) (spelled ∙ ap value_text (f.is m found));
  files = f.files;
}

-- the line of a proof
pub line_of_proof : (found line : Option (List ℕ)) → line ≡ option_map proof_text found → line_outcome line ≡ proof_outcome found
line_of_proof None line is = ap line_outcome is
line_of_proof (Some bytes) line is = ap line_outcome is

-- so that of a range proof
pub line_of_range : (found line : Option (List ℕ)) → line ≡ option_map range_text found → line_outcome line ≡ range_proof_outcome found
line_of_range None line is = ap line_outcome is
line_of_range (Some bytes) line is = ap line_outcome is

-- and that of a change proof
pub line_of_changes : (found line : Option (List ℕ)) → line ≡ option_map changes_text found → line_outcome line ≡ changes_proof_outcome found
line_of_changes None line is = ap line_outcome is
line_of_changes (Some bytes) line is = ap line_outcome is

-- ---- the ends of a run
pub get_shared : {key : List ℕ} {w : ℕ} {before after : Outside} {end : End} → ReadPromises false (get_outcome key) w before after end → SharedRuns (Get key) w before after end
get_shared {key = key} p = let r = p.store in record { words = r.words; read = r.read; write = r.write; disk = r.disk; store = r.store; own = own_of (Get key) r; limit = r.limit; complete = r.complete }

pub prove_shared : {root : RootWord} {key : List ℕ} {w : ℕ} {before after : Outside} {end : End} → ReadPromises true (prove_outcome w root key) w before after end → SharedRuns (Prove root key) w before after end
prove_shared {root = root} {key = key} p = let r = p.store in record { words = r.words; read = r.read; write = r.write; disk = r.disk; store = r.store; own = own_of (Prove root key) r; limit = r.limit; complete = r.complete }

pub range_shared : {root : RootWord} {asked : Bounds} {pairs bytes : ℕ} {w : ℕ} {before after : Outside} {end : End} → ReadPromises true (range_outcome w root asked pairs bytes) w before after end → SharedRuns (Range root asked pairs bytes) w before after end
range_shared {root = root} {asked = asked} {pairs = pairs} {bytes = bytes} p = let r = p.store in record { words = r.words; read = r.read; write = r.write; disk = r.disk; store = r.store; own = own_of (Range root asked pairs bytes) r; limit = r.limit; complete = r.complete }

pub changes_shared : {from to : RootWord} {asked : Bounds} {pairs bytes : ℕ} {w : ℕ} {before after : Outside} {end : End} → ReadPromises true (changes_outcome w from to asked pairs bytes) w before after end → SharedRuns (Changes from to asked pairs bytes) w before after end
changes_shared {from = from} {to = to} {asked = asked} {pairs = pairs} {bytes = bytes} p = let r = p.store in record { words = r.words; read = r.read; write = r.write; disk = r.disk; store = r.store; own = own_of (Changes from to asked pairs bytes) r; limit = r.limit; complete = r.complete }

-- an end that no reading comes to is none of a run that failed
no_answer : {A : Type 0} (end : End) → (end ≢ Done) → (end ≢ NotHeld) → IsAnswer end → A
no_answer end not_done held (inl is) = absurd (not_done is)
no_answer end not_done held (inr is) = absurd (held is)

-- no store was opened, or it was not read
not_opened : (outcome : Map → Outcome) (w : ℕ) (before after : Outside) (end : End) → after.input ≡ before.input → PrintsNothing before after → FailsBy w before.disk after.disk end → KeepsMaps before.disk after.disk → ReadRuns outcome w before after end
not_opened outcome w before after (NotOpened why) unread printed fails keeps = record {
  came = no_answer (NotOpened why) (λ is. cc is) (λ is. cc is);
  prefix = λ m found. (0, printed);
  files = λ _ m found. not_refused w before.disk m why found (found.0, fails found.0);
  opens = λ told m found. keeps told m found.1.0;
  input = unread;
  no_line = λ number is. let no : ⊥ = cc is in no;
  no_limit = λ kind is. let no : ⊥ = cc is in no;
  no_read = λ is. let no : ⊥ = cc is in no;
  refused = λ other is. printed;
}
not_opened outcome w before after Disk unread printed fails keeps = record {
  came = no_answer Disk (λ is. cc is) (λ is. cc is);
  prefix = λ m found. (0, printed);
  files = λ differs. absurd (differs refl);
  opens = λ told m found. keeps told m found.1.0;
  input = unread;
  no_line = λ number is. let no : ⊥ = cc is in no;
  no_limit = λ kind is. let no : ⊥ = cc is in no;
  no_read = λ is. let no : ⊥ = cc is in no;
  refused = λ other is. printed;
}
not_opened outcome w before after NoMemory unread printed fails keeps = record {
  came = no_answer NoMemory (λ is. cc is) (λ is. cc is);
  prefix = λ m found. (0, printed);
  files = λ _ m found. fails found.0 m found.1.0;
  opens = λ told m found. keeps told m found.1.0;
  input = unread;
  no_line = λ number is. let no : ⊥ = cc is in no;
  no_limit = λ kind is. let no : ⊥ = cc is in no;
  no_read = λ is. let no : ⊥ = cc is in no;
  refused = λ other is. printed;
}
not_opened outcome w before after Done unread printed fails keeps = absurd fails
not_opened outcome w before after (BadWords place) unread printed fails keeps = absurd fails
not_opened outcome w before after (BadLine number) unread printed fails keeps = absurd fails
not_opened outcome w before after (VerifyRefused number cause) unread printed fails keeps = absurd fails
not_opened outcome w before after NotHeld unread printed fails keeps = absurd fails
not_opened outcome w before after (Limit kind) unread printed fails keeps = absurd fails
not_opened outcome w before after Read unread printed fails keeps = absurd fails
not_opened outcome w before after Write unread printed fails keeps = absurd fails

pub read_failed : {names : Bool} (outcome : Map → Outcome) (w : ℕ) (before after : Outside) (end : End) → after.input ≡ before.input → PrintsNothing before after → FailsBy w before.disk after.disk end → KeepsMaps before.disk after.disk → ReadPromises names outcome w before after end
read_failed outcome w before after end unread printed fails keeps = record {
  store = failed w (λ m bytes. outcome m) before after end printed fails;
  read = not_opened outcome w before after end unread printed fails keeps;
}

-- the run came to its outcome
answers : (outcome : Map → Outcome) (w : ℕ) (before after : Outside) (end : End) → after.input ≡ before.input → end ≢ Disk → IsAnswer end → ((number : ℕ) → end ≢ BadLine number) → KeepsMaps before.disk after.disk
    → Finds (λ m. (outcome m).end ≡ end × Appends before.output.taken after.output.taken (outcome m).text) w before.disk after.disk → ReadRuns outcome w before after end
answers outcome w before after end unread works answer no_line keeps f = record {
  came = λ _ m found. let is = f.is m found in record { ends = sym is.0; text = is.1 };
  prefix = λ m found. whole before.output.taken after.output.taken (outcome m).text (f.is m found).1;
  files = λ _ m found. f.files m found;
  opens = λ told m found. keeps told m found.1.0;
  input = unread;
  no_line = no_line;
  no_limit = λ kind is. none answer is (λ h. cc h) (λ h. cc h);
  no_read = λ is. none answer is (λ h. cc h) (λ h. cc h);
  refused = λ why is. absurd (none answer is (λ h. cc h) (λ h. cc h));
}
  where
    none : {other : End} → IsAnswer end → end ≡ other → (Done ≢ other) → (NotHeld ≢ other) → ⊥
    none (inl h) is done held = done (sym h ∙ is)
    none (inr h) is done held = held (sym h ∙ is)

-- its line was printed
pub read_printed : {names : Bool} (outcome : Map → Outcome) (w : ℕ) (before after : Outside) (text : List ℕ) → after.input ≡ before.input → Finds (IsLineOf outcome (Some text)) w before.disk after.disk → KeepsMaps before.disk after.disk
    → Appends before.output.taken after.output.taken text → ReadPromises names outcome w before after Done
read_printed outcome w before after text unread f keeps printed = record {
  store = finished w (λ m bytes. outcome m) before after (came_to w (λ m bytes. outcome m) before after Done f.there
      (λ m found. always (λ bytes. CameTo (outcome m) before after Done) before.input.left (λ bytes. let is = told m found in inr (sym is.0, is.1))));
  read = answers outcome w before after Done unread (λ is. cc is) (inl refl) (λ number is. cc is) keeps (record { there = f.there; is = told; files = f.files });
}
  where
    told : (m : Map) → IsFound w before.disk (Ok m) → (outcome m).end ≡ Done × Appends before.output.taken after.output.taken (outcome m).text
    told m found = let is = f.is m found in (sym (ap (λ (o : Outcome). o.end) is), subst (λ (o : Outcome). Appends before.output.taken after.output.taken o.text) is printed)

-- the store has no map that the root names
pub read_not_held : (outcome : Map → Outcome) (w : ℕ) (before after : Outside) → after.input ≡ before.input → Finds (IsLineOf outcome None) w before.disk after.disk → KeepsMaps before.disk after.disk
    → PrintsNothing before after → ReadPromises true outcome w before after NotHeld
read_not_held outcome w before after unread f keeps printed = record {
  store = not_held w (λ m bytes. outcome m) before after (came_to w (λ m bytes. outcome m) before after NotHeld f.there
      (λ m found. always (λ bytes. CameTo (outcome m) before after NotHeld) before.input.left (λ bytes. let is = told m found in inr (sym is.0, is.1))));
  read = answers outcome w before after NotHeld unread (λ is. cc is) (inr refl) (λ number is. cc is) keeps (record { there = f.there; is = told; files = f.files });
}
  where
    told : (m : Map) → IsFound w before.disk (Ok m) → (outcome m).end ≡ NotHeld × Appends before.output.taken after.output.taken (outcome m).text
    told m found = let is = f.is m found in (sym (ap (λ (o : Outcome). o.end) is), subst (λ (o : Outcome). Appends before.output.taken after.output.taken o.text) is printed)

-- its writing failed
pub read_part : {names : Bool} (outcome : Map → Outcome) (w : ℕ) (before after : Outside) (text : List ℕ) → after.input ≡ before.input → Finds (IsLineOf outcome (Some text)) w before.disk after.disk → KeepsMaps before.disk after.disk
    → Rose before.output.faults after.output.faults → AppendsPrefix before.output.taken after.output.taken text → ReadPromises names outcome w before after Write
read_part outcome w before after text unread f keeps rose printed = record {
  store = cut_off w (λ m bytes. outcome m) before after rose;
  read = record {
    came = no_answer Write (λ is. cc is) (λ is. cc is);
    prefix = λ m found. subst (λ (o : Outcome). AppendsPrefix before.output.taken after.output.taken o.text) (f.is m found) printed;
    files = λ _ m found. f.files m found;
    opens = λ told m found. keeps told m found.1.0;
    input = unread;
    no_line = λ number is. let no : ⊥ = cc is in no;
    no_limit = λ kind is. let no : ⊥ = cc is in no;
    no_read = λ is. let no : ⊥ = cc is in no;
    refused = λ why is. let no : ⊥ = cc is in absurd no;
  };
}
