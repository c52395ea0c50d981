-- How the store against whose map changes are checked is left, with its disk.
use Rattle.std.proofs.Common.{◌≡◌, ◌≢◌, ◌⊎◌, ℕ, ◌≤◌, true, false, List, length, Option, Some, None, Result, Ok, Err, refl, sym, ap, ◌∙◌, subst, inl, inr, arith}
use Rattle.std.specs.Option.{is_some}
use Rattle.base_model.specs.Faults.{Rose}
use Rattle.disk_model.specs.Words.{TellsContents}
use Rattle.disk_model.specs.Crash.{IsImageOf}
use Rattle.disk_model.proofs.Meanwhile.{none_yet}
use Rattle.trie_model.specs.Maps.{Map, limits}
use Rattle.store_model.specs.Journal.{Stands}
use Rattle.store_model.specs.Refusals.{Refusal}
use Rattle.store_model.proofs.Journals.{files_stand_for_one_map}
use Rattle.store_model.proofs.Refusals.{files_are_found_once}
use Rattle.mdb_journal.specs.Opening.{Untouched}
use Rattle.mdb_core.specs.Stores.{DbState, Keeps, is_failed}
use Rattle.mdb_core.specs.declared.fault.DbFault.{DbFault}
use Rattle.mdb_core.specs.declared.fault.DbFault.TheVariants as faults
use Rattle.mdb_core.proofs.StoreFiles.{kept_stands}
use Rattle.run_model.specs.OutsideThings.{DiskSeen}
use Rattle.run_model.specs.End.{End, BadLine, NotOpened, VerifyRefused, Disk, NoMemory}
use Rattle.run_model.specs.Store.{IsFound, OnMap}
use Rattle.store_opening.specs.Opening.{KeepsMaps, IsOpen, FailsBy, end_of_fault}
use Rattle.store_opening.proofs.Openings.{untouched_keeps}
use Rattle.std.specs.Prelude.{IfOk, IfErr, OnOk}
use Rattle.range_model.specs.Ranges.{Range}
use Rattle.text_model.specs.LineKind.{LineKind}
use Rattle.text_model.specs.ReadLine.{Line, VerifyChanges}
use Rattle.text_model.specs.Texts.{ok_text}
use Rattle.proof_model.specs.ChangeProofs.{ChangeProof}
use Rattle.proof_model.specs.CheckedBytes.{change_checked}
use Rattle.proof_check.specs.RefusalReasons.{seen_cause}
use Rattle.run_model.specs.Verify.{Fault, tells_changes, read_verdict, listed_verdict, changes_verdict}
use Rattle.verify_run.specs.declared.proof_fault.ProofFault.{ProofFault}
use Rattle.verify_run.specs.declared.proof_fault.ProofFault.TheVariants as proofs
use Rattle.verify_run.specs.declared.end.VerifyEnd.{VerifyEnd}
use Rattle.verify_run.specs.declared.end.VerifyEnd.TheVariants as ends
use Rattle.verify_run.specs.Checks.{IsUnread, IsRefusedOr, IsCounted, IsShown, TellsStore, IsNotShown, IsOfNoStore, end_at}
use Rattle.verify_run.specs.Ends.{end_of, Leaves, LineEnds, IsEarlyEnd}
use Rattle.verify_run.specs.LocalStores.{IsOpened, IsLocal, Opens, IsLeft, LeavesDisk, asked_by, Goes, Stops}
use Rattle.verify_run.proofs.ProofFaults.{not_understood}

-- files are found to be one thing
pub found_once : (w : ℕ) (disk : DiskSeen) (a b : Result Map Refusal) → IsFound w disk a → IsFound w disk b → a ≡ b
found_once w disk a b fa fb = files_are_found_once limits w disk.files a b fa.1 fb.1

-- a disk on which nothing was done
pub same_keeps : (before now : DiskSeen) → now ≡ before → KeepsMaps before now
same_keeps before now same = λ tells m stands. inl (none_yet (IsImageOf before.moments.now) before.moments now.moments (ap (λ (d : DiskSeen). d.moments) same))

same_stands : (w : ℕ) (before now : DiskSeen) → now ≡ before → OnMap w before (λ m. Stands limits now.files m)
same_stands w before now same = λ m found. subst (λ (d : DiskSeen). Stands limits d.files m) (sym same) found.1.0

-- an opened store
opened_stands : (w : ℕ) (before now : DiskSeen) (s : DbState) → IsOpened w before now s → OnMap w before (λ m. Stands limits now.files m)
opened_stands w before now s o = λ m found.
    let there = o.there found.0 in
    let same : there.0 ≡ m = files_stand_for_one_map limits before.files there.0 m there.1.1.0 found.1.0 in
    subst (λ n. Stands limits now.files n) same (kept_stands s there.0 now.files there.2)

-- whichever it is, at an end that the disk did not come to
pub local_left : (w : ℕ) (before now : DiskSeen) (s : Option DbState) (end : End) → IsLocal w before now s → end ≢ Disk → ((why : Refusal) → end ≢ NotOpened why) → IsLeft w before now end
local_left w before now None end same disk opened = record {
  files = λ no. same_stands w before now same;
  opens = same_keeps before now same;
  rose = λ is. absurd (disk is);
  refused = λ why is. absurd (opened why is);
}
local_left w before now (Some s) end o disk opened = record {
  files = λ no. opened_stands w before now s o;
  opens = o.opens;
  rose = λ is. absurd (disk is);
  refused = λ why is. absurd (opened why is);
}

pub local_untouched : (w : ℕ) (before now : DiskSeen) (s : Option DbState) → IsLocal w before now s → is_some s ≡ false → now ≡ before
local_untouched w before now None same none = same
local_untouched w before now (Some s) o none = let no : ⊥ = cc none in absurd no

-- the ends that a store comes to which is not opened, or not read
pub store_end : (fault : DbFault) → ((why : Refusal) × (end_of_fault fault ≡ NotOpened why)) ⊎ (end_of_fault fault ≡ Disk) ⊎ (end_of_fault fault ≡ NoMemory)
store_end faults.Disk = inr (inl refl)
store_end (faults.NotAStore file) = inl (_, refl)
store_end (faults.BranchDiffers kept asked) = inl (_, refl)
store_end (faults.Damaged file at) = inl (_, refl)
store_end faults.Failed = inr (inr refl)
store_end faults.Unknown = inr (inr refl)
store_end (faults.NotLive state) = inr (inr refl)
store_end faults.NotHeld = inr (inr refl)
store_end faults.TooMany = inr (inr refl)
store_end faults.TooDeep = inr (inr refl)
store_end faults.TooHeavy = inr (inr refl)
store_end (faults.TooLarge n) = inr (inr refl)
store_end faults.NotParent = inr (inr refl)
store_end faults.Full = inr (inr refl)
store_end faults.NoMemory = inr (inr refl)

-- a store that was opened
pub opened_now : (w : ℕ) (before now : DiskSeen) (s : DbState) → IsOpen w before now s → now.tells ≡ before.tells → KeepsMaps before now → before.faults ≤ now.faults → IsOpened w before now s
opened_now w before now s o tells keeps later = record {
  there = λ told. let found = o.opened told in (found.map, (told, (found.stands, found.width_was)), found.keeps);
  tells = tells;
  works = o.works;
  opens = keeps;
  later = later;
}

-- and why none was: the map of the files stays in any case
pub failed_left : (w : ℕ) (before now : DiskSeen) (end : End) → KeepsMaps before now → FailsBy w before now end → IsLeft w before now end
failed_left w before now (NotOpened why) keeps fails = record {
  files = λ no m found. let same : ◌≡◌ {A = Result Map Refusal} (Ok m) (Err why) = found_once w before (Ok m) (Err why) found (found.0, fails found.0) in let no : ⊥ = cc same in absurd no;
  opens = keeps;
  rose = λ is. absurd (cc is);
  refused = λ other is tells. subst (λ r. FailsBy w before now (NotOpened r)) (cc is) fails tells;
}
failed_left w before now Disk keeps rose = record { files = λ no. absurd (no refl); opens = keeps; rose = λ is. rose; refused = λ why is. absurd (cc is) }
failed_left w before now NoMemory keeps stays = record { files = λ no m found. stays found.0 m found.1.0; opens = keeps; rose = λ is. absurd (cc is); refused = λ why is. absurd (cc is) }
failed_left w before now end keeps fails = absurd fails

-- after a store was read, whether that went well or not
pub read_left : (w : ℕ) (before mid now : DiskSeen) (s : DbState) (end : End) → IsOpened w before mid s → Untouched mid.files now.files mid.moments now.moments → (end ≡ Disk → Rose mid.faults now.faults) → ((why : Refusal) → end ≢ NotOpened why) → IsLeft w before now end
read_left w before mid now s end o u rose opened = record {
  files = λ no m found. subst (λ f. Stands limits f m) (sym u.seen) (opened_stands w before mid s o m found);
  opens = untouched_keeps before mid now o.opens u;
  rose = λ is. risen before.faults mid.faults now.faults o.later (rose is);
  refused = λ why is. absurd (opened why is);
}
  where
    risen : (a b c : ℕ) → a ≤ b → Rose b c → Rose a c
    risen a b c le h = grind arith

pub read_keeps : (w : ℕ) (before mid now : DiskSeen) (s t : DbState) → IsOpened w before mid s → t ≡ s → now.tells ≡ mid.tells → Untouched mid.files now.files mid.moments now.moments → mid.faults ≤ now.faults → IsOpened w before now t
read_keeps w before mid now s t o same tells u later = record {
  tells = tells ∙ o.tells;
  there = λ told. let there = o.there told in (there.0, there.1, subst (λ f. Keeps t there.0 f) (sym u.seen) (subst (λ x. Keeps x there.0 mid.files) (sym same) there.2));
  works = ap (λ (x : DbState). is_failed x) same ∙ o.works;
  opens = untouched_keeps before mid now o.opens u;
  later = omega (arith, o.later, later);
}

-- ---- lines

-- where the store was not asked for, none is there
pub none_asked : (s : Option DbState) (read : Result Line LineKind) → asked_by s read ≡ false → is_some s ≡ false
none_asked None read h = refl
none_asked (Some s) read h = h

-- what was asked for before a line was asked for behind it
pub asked_before : (s s' : Option DbState) (read : Result Line LineKind) → is_some s' ≡ asked_by s read → is_some s ≡ true → is_some s' ≡ true
asked_before None s' read same was = let no : ⊥ = cc was in absurd no
asked_before (Some x) s' read same was = same

-- a line that asks for the store
pub is_asked : (s : Option DbState) (read : Result Line LineKind) → tells_changes read ≡ true → asked_by s read ≡ true
is_asked None read h = h
is_asked (Some x) read h = refl

-- what is said of a verdict may be said otherwise
pub goes_as : {w : ℕ} {before now : DiskSeen} {s s' : Option DbState} {read : Result Line LineKind} {P Q : Result (List ℕ) Fault → Type 0} → Goes w before now s s' read P → ((v : Result (List ℕ) Fault) → P v → Q v) → Goes w before now s s' read Q
goes_as g so = record { local = g.local; asked = g.asked; says = λ found fits. so _ (g.says found fits) }

pub stops_as : {w : ℕ} {before now : DiskSeen} {s : Option DbState} {read : Result Line LineKind} {end : End} {P Q : Result (List ℕ) Fault → Type 0} → Stops w before now s read end P → ((v : Result (List ℕ) Fault) → P v → Q v) → Stops w before now s read end Q
stops_as g so = record { left = g.left; untouched = g.untouched; says = λ found fits. so _ (g.says found fits) }

-- a run that ends behind a line that went well
pub stops_behind : {w : ℕ} {before now : DiskSeen} {s s' : Option DbState} {read : Result Line LineKind} {P Q : Result (List ℕ) Fault → Type 0} → Goes w before now s s' read P → (end : End) → end ≢ Disk → ((why : Refusal) → end ≢ NotOpened why) → ((v : Result (List ℕ) Fault) → P v → Q v) → Stops w before now s read end Q
stops_behind {w} {before} {now} {s} {s'} {read} g end disk opened so = record {
  left = local_left w before now s' end g.local disk opened;
  untouched = λ none. (local_untouched w before now s' g.local (g.asked ∙ none), disk);
  says = λ found fits. so _ (g.says found fits);
}

-- a line that asks for no store
pub goes_alone : (w : ℕ) (before now : DiskSeen) (s : Option DbState) (read : Result Line LineKind) (P : Result (List ℕ) Fault → Type 0) → IsLocal w before now s → tells_changes read ≡ false → ((found : Result Map Refusal) → P (read_verdict w found read)) → Goes w before now s s read P
goes_alone w before now s read P local alone says = record { local = local; asked = same s; says = λ found fits. says found }
  where
    same : (o : Option DbState) → is_some o ≡ asked_by o read
    same None = sym alone
    same (Some x) = refl

pub stops_alone : (w : ℕ) (before now : DiskSeen) (s : Option DbState) (read : Result Line LineKind) (end : End) (P : Result (List ℕ) Fault → Type 0) → IsLocal w before now s → end ≢ Disk → ((why : Refusal) → end ≢ NotOpened why) → ((found : Result Map Refusal) → P (read_verdict w found read)) → Stops w before now s read end P
stops_alone w before now s read end P local disk opened says = record {
  left = local_left w before now s end local disk opened;
  untouched = λ none. (local_untouched w before now s local (none_asked s read none), disk);
  says = λ found fits. says found;
}

-- the end of a proof that tells of no store is not of one
pub no_store_end : (number : ℕ) (fault : ProofFault) → IsOfNoStore fault → (end_of (end_at number fault) ≢ Disk) × ((why : Refusal) → end_of (end_at number fault) ≢ NotOpened why)
no_store_end number (proofs.Refused cause) h = (λ is. cc is, λ why is. cc is)
no_store_end number (proofs.Store fault) h = absurd h
no_store_end number proofs.NoMemory h = (λ is. cc is, λ why is. cc is)

-- a line that is not read
pub unread_stops : (w : ℕ) (before now : DiskSeen) (s : Option DbState) (read : Result Line LineKind) (number : ℕ) (end : VerifyEnd) → IsLocal w before now s → IsUnread number read end → Stops w before now s read (end_of end) (λ v. Leaves number v end)
unread_stops w before now s read number (ends.BadLine n) local bad = stops_alone w before now s read (BadLine n) (λ v. Leaves number v (ends.BadLine n)) local (λ is. cc is) (λ why is. cc is) (λ found. (bad.0, not_understood w found read bad.1))
unread_stops w before now s read number ends.NoMemory local bad = stops_alone w before now s read NoMemory (λ v. Leaves number v ends.NoMemory) local (λ is. cc is) (λ why is. cc is) (λ found. tt)
unread_stops w before now s read number end local bad = absurd bad

-- a line that ends the run before it prints
pub early_ends : (number : ℕ) (v : Result (List ℕ) Fault) (taken : Option (List ℕ)) (writes : ℕ) (end : VerifyEnd) → IsEarlyEnd end → Leaves number v end → LineEnds number v taken taken writes writes end
early_ends number v taken writes ends.Write early h = absurd early
early_ends number v taken writes ends.Done early h = absurd early
early_ends number v taken writes ends.Limit early h = absurd early
early_ends number v taken writes ends.Read early h = absurd early
early_ends number v taken writes ends.NoMemory early h = (h, refl)
early_ends number v taken writes (ends.BadLine n) early h = (h, refl)
early_ends number v taken writes (ends.Refused n cause) early h = (h, refl)
early_ends number v taken writes (ends.Store fault) early h = (h, refl)

-- how a proof that shows nothing ends the run at its line
pub proof_leaves : (number : ℕ) (v : Result (List ℕ) Fault) (fault : ProofFault) → IsNotShown fault v → Leaves number v (end_at number fault)
proof_leaves number v (proofs.Refused cause) h = (refl, h)
proof_leaves number v (proofs.Store fault) h = h
proof_leaves number v proofs.NoMemory h = tt

-- ---- the line of changes

-- a store that is not opened is told as such
pub unopened : (w : ℕ) (before now : DiskSeen) (want : List ℕ) (asked : Range) (bytes : List ℕ) (end : End) → FailsBy w before now end → (found : Result Map Refusal) → IsFound w before found → TellsStore end (changes_verdict w want asked bytes found)
unopened w before now want asked bytes (NotOpened why) fails found is =
    let same : found ≡ Err why = found_once w before found (Err why) is (is.0, fails is.0) in
    ap (changes_verdict w want asked bytes) same
unopened w before now want asked bytes end fails found is = tt

-- what is counted of a store that was opened
pub counted_in : (w : ℕ) (before now : DiskSeen) (s : DbState) (want : List ℕ) (asked : Range) (bytes : List ℕ) (r : Result ℕ ProofFault) → IsOpened w before now s
    → (TellsContents now.tells → (m : Map) → Keeps s m now.files → IfOk r (λ n. (p : ChangeProof) × (change_checked limits w want asked m bytes ≡ Ok p) × (n ≡ length p.changes)))
    → IfOk r (λ n. (found : Result Map Refusal) → IsFound w before found → IsCounted n (changes_verdict w want asked bytes found))
counted_in w before now s want asked bytes (Err fault) o told = tt
counted_in w before now s want asked bytes (Ok n) o told = λ found is.
    let there = o.there is.0 in
    let same : found ≡ Ok there.0 = found_once w before found (Ok there.0) is there.1 in
    let shown = told (subst TellsContents (sym o.tells) is.0) there.0 there.2 in
    ap (changes_verdict w want asked bytes) same ∙ ap listed_verdict shown.1 ∙ ap (λ k. Ok (ok_text k)) (sym shown.2)

-- and why nothing is
pub refused_in : (w : ℕ) (before now : DiskSeen) (s : DbState) (want : List ℕ) (asked : Range) (bytes : List ℕ) (r : Result ℕ ProofFault) (mid : DiskSeen) → IsOpened w before now s
    → (TellsContents now.tells → (m : Map) → Keeps s m now.files → IfErr r (IsRefusedOr (change_checked limits w want asked m bytes)))
    → IfErr r (λ fault. (f : DbFault) → fault ≡ proofs.Store f → (f ≡ faults.Disk) × Rose now.faults mid.faults)
    → IfErr r (λ fault. (found : Result Map Refusal) → IsFound w before found → IsNotShown fault (changes_verdict w want asked bytes found))
refused_in w before now s want asked bytes (Ok n) mid o told lost = tt
refused_in w before now s want asked bytes (Err (proofs.Refused cause)) mid o told lost = λ found is.
    let there = o.there is.0 in
    let same : found ≡ Ok there.0 = found_once w before found (Ok there.0) is there.1 in
    let why : change_checked limits w want asked there.0 bytes ≡ Err (seen_cause cause) = told (subst TellsContents (sym o.tells) is.0) there.0 there.2 in
    ap (changes_verdict w want asked bytes) same ∙ ap listed_verdict why
refused_in w before now s want asked bytes (Err (proofs.Store f)) mid o told lost = λ found is. subst (λ e. TellsStore (end_of_fault e) (changes_verdict w want asked bytes found)) (sym (lost f refl).0) tt
refused_in w before now s want asked bytes (Err proofs.NoMemory) mid o told lost = λ found is. tt

-- and how the disk is left then
pub lost_in : (w : ℕ) (before mid now : DiskSeen) (s : DbState) (r : Result ℕ ProofFault) → IsOpened w before mid s → Untouched mid.files now.files mid.moments now.moments
    → IfErr r (λ fault. (f : DbFault) → fault ≡ proofs.Store f → (f ≡ faults.Disk) × Rose mid.faults now.faults) → IfErr r (LeavesDisk w before now)
lost_in w before mid now s (Ok n) o u lost = tt
lost_in w before mid now s (Err (proofs.Refused cause)) o u lost = λ number. read_left w before mid now s (VerifyRefused number (seen_cause cause)) o u (λ is. absurd (cc is)) (λ why is. cc is)
lost_in w before mid now s (Err (proofs.Store f)) o u lost = λ number. subst (λ e. IsLeft w before now (end_of_fault e)) (sym (lost f refl).0) (read_left w before mid now s Disk o u (λ is. (lost f refl).1) (λ why is. cc is))
lost_in w before mid now s (Err proofs.NoMemory) o u lost = λ number. read_left w before mid now s NoMemory o u (λ is. absurd (cc is)) (λ why is. cc is)

-- and kept where something is
pub kept_in : (w : ℕ) (before mid now : DiskSeen) (s t : DbState) (r : Result ℕ ProofFault) → IsOpened w before mid s → OnOk r (t ≡ s) → now.tells ≡ mid.tells → Untouched mid.files now.files mid.moments now.moments → mid.faults ≤ now.faults → IfOk r (λ n. IsOpened w before now t)
kept_in w before mid now s t (Err fault) o same tells u later = tt
kept_in w before mid now s t (Ok n) o same tells u later = read_keeps w before mid now s t o same tells u later

-- what is opened where nothing was
pub all_opened : (w : ℕ) (before was now : DiskSeen) (r : Result DbState DbFault) → was ≡ before → IfOk r (IsOpen w was now) → now.tells ≡ was.tells → KeepsMaps was now → was.faults ≤ now.faults → IfOk r (IsOpened w before now)
all_opened w before was now (Err fault) same is tells keeps later = tt
all_opened w before was now (Ok s) same is tells keeps later = subst (λ d. IsOpened w d now s) same (opened_now w was now s is tells keeps later)

-- ---- from line to line

-- a line of changes
pub goes_changes : (w : ℕ) (before now : DiskSeen) (s s' : Option DbState) (want : List ℕ) (asked : Range) (bytes : List ℕ) (n : ℕ) → Opens w before now s' → ((found : Result Map Refusal) → IsFound w before found → IsCounted n (changes_verdict w want asked bytes found))
    → Goes w before now s s' (Ok (VerifyChanges want asked bytes)) (IsShown (Some n))
goes_changes w before now s None want asked bytes n o told = absurd o
goes_changes w before now s (Some t) want asked bytes n o told = record {
  local = o;
  asked = sym (is_asked s (Ok (VerifyChanges want asked bytes)) refl);
  says = λ found fits. told found (fits (is_asked s (Ok (VerifyChanges want asked bytes)) refl));
}

pub stops_changes : (w : ℕ) (before now : DiskSeen) (s : Option DbState) (want : List ℕ) (asked : Range) (bytes : List ℕ) (fault : ProofFault) → LeavesDisk w before now fault → ((found : Result Map Refusal) → IsFound w before found → IsNotShown fault (changes_verdict w want asked bytes found))
    → (number : ℕ) → Stops w before now s (Ok (VerifyChanges want asked bytes)) (end_of (end_at number fault)) (IsNotShown fault)
stops_changes w before now s want asked bytes fault left told number = record {
  left = left number;
  untouched = λ none. let no : ⊥ = cc (sym none ∙ is_asked s (Ok (VerifyChanges want asked bytes)) refl) in absurd no;
  says = λ found fits. told found (fits (is_asked s (Ok (VerifyChanges want asked bytes)) refl));
}

-- a line that asks for no store, by what was shown of it
pub alone_shown : (w : ℕ) (before now : DiskSeen) (s : Option DbState) (read : Result Line LineKind) (r : Result (Option ℕ) ProofFault) → IsLocal w before now s → tells_changes read ≡ false → ((found : Result Map Refusal) → IfOk r (λ pairs. IsShown pairs (read_verdict w found read)))
    → IfOk r (λ pairs. Goes w before now s s read (IsShown pairs))
alone_shown w before now s read (Err fault) local alone told = tt
alone_shown w before now s read (Ok pairs) local alone told = goes_alone w before now s read (IsShown pairs) local alone told

pub alone_not_shown : (w : ℕ) (before now : DiskSeen) (s : Option DbState) (read : Result Line LineKind) (r : Result (Option ℕ) ProofFault) → IsLocal w before now s → IfErr r IsOfNoStore → ((found : Result Map Refusal) → IfErr r (λ fault. IsNotShown fault (read_verdict w found read)))
    → IfErr r (λ fault. (number : ℕ) → Stops w before now s read (end_of (end_at number fault)) (IsNotShown fault))
alone_not_shown w before now s read (Ok pairs) local plain told = tt
alone_not_shown w before now s read (Err fault) local plain told = λ number.
    let other = no_store_end number fault plain in
    stops_alone w before now s read (end_of (end_at number fault)) (IsNotShown fault) local other.0 other.1 told

-- the text of a line that goes well, or want of memory
pub text_goes : {T : Type 0} (spelled : T → List ℕ) (w : ℕ) (before now : DiskSeen) (s s' : Option DbState) (read : Result Line LineKind) (pairs : Option ℕ) (r : Result T VerifyEnd) → Goes w before now s s' read (IsShown pairs)
    → IfOk r (λ text. (v : Result (List ℕ) Fault) → IsShown pairs v → v ≡ Ok (spelled text)) → IfOk r (λ text. Goes w before now s s' read (λ v. v ≡ Ok (spelled text)))
text_goes spelled w before now s s' read pairs (Err end) goes told = tt
text_goes spelled w before now s s' read pairs (Ok text) goes told = goes_as goes told

pub text_stops : {T : Type 0} (w : ℕ) (before now : DiskSeen) (s s' : Option DbState) (read : Result Line LineKind) (pairs : Option ℕ) (number : ℕ) (r : Result T VerifyEnd) → Goes w before now s s' read (IsShown pairs) → IfErr r (λ end. end ≡ ends.NoMemory)
    → IfErr r (λ end. Stops w before now s read (end_of end) (λ v. Leaves number v end))
text_stops w before now s s' read pairs number (Ok text) goes memory = tt
text_stops w before now s s' read pairs number (Err end) goes memory =
    subst (λ e. Stops w before now s read (end_of e) (λ v. Leaves number v e)) (sym memory) (stops_behind goes NoMemory (λ is. cc is) (λ why is. cc is) (λ v is. tt))
