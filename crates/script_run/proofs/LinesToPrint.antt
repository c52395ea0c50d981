-- Lines whose work is done, whose text is printed next.
use Rattle.std.proofs.Common.{◌≡◌, ◌⊎◌, ℕ, List, [], ◌∷◌, Option, Result, Ok, Err, refl, sym, ◌∙◌, ap, subst, inl, inr, arith}
use Rattle.std.specs.Prelude.{IfOk, IfErr, OnOk, OnErr, String, string_bytes}
use Rattle.std.specs.Global.{Global}
use Rattle.std.specs.Io.KnownBytes.{Appends}
use Rattle.std.proofs.lemmas.List.{append-nil}
use Rattle.base_model.specs.Streams.{AppendsPrefix}
use Rattle.disk_model.specs.Files.{Files}
use Rattle.disk_model.specs.Moments.{Moments, LeavesOnly}
use Rattle.disk_model.proofs.Meanwhile.{none_yet}
use Rattle.trie_model.specs.Maps.{Map, limits}
use Rattle.batch_model.specs.Batch.{Change}
use Rattle.store_model.specs.Journal.{Stands}
use Rattle.session_model.specs.Session.{Session, Step, Stop, Limit, prints}
use Rattle.session_model.specs.Script.{text_of, after_step}
use Rattle.session_model.proofs.MapsOfScripts.{Moves}
use Rattle.run_model.specs.End.{End, Limit as LimitEnd, Write, Disk, NoMemory}
use Rattle.run_model.specs.Script.{HasSteps, IsStop, Keeps as KeepsSteps}
use Rattle.mdb_core.specs.Stores.{DbState}
use Rattle.mdb_core.proofs.StoreFiles.{kept_stands}
use Rattle.mdb_core.specs.declared.fault.DbFault.{DbFault}
use Rattle.mdb_core.specs.declared.fault.DbFault.TheVariants.{Disk as DiskFault}
use Rattle.script_run.specs.declared.end.SessionEnd.{SessionEnd}
use Rattle.script_run.specs.declared.end.SessionEnd.TheVariants.{Done as done, BadLine as bad_line, Limit as limit, Damaged as damaged_at, Read as failed_read, Write as failed_write, Disk as failed_disk, NoMemory as no_memory}
use Rattle.script_run.specs.Ends.{end_of, limit_of, IsTextOf}
use Rattle.script_run.specs.ScriptSteps.{IsAt, IsDone, IsMade, IsQuiet, IsQuietEnd, PartRuns, RunsUnprinted, KeptUnprinted, KeptPrinting, played, session_of}
use Rattle.run_model.proofs.PrintedText.{nothing_yet, same_prefix}
use Rattle.script_run.proofs.KeptSteps.{all_done, fewer, idle, all_kept}
use Rattle.script_run.proofs.StoppedParts.{stopped_runs, refused_runs, memory_no_stop, write_no_stop, disk_no_stop}

-- the session at which the code is
pub session_is : (s : Session) (db : DbState) (pending : List Change) (files : Files) → IsAt s db pending files → session_of s.map db pending ≡ s
session_is s db pending files at =
    ap (λ holding. let t : Session = record { map = s.map; holding = holding; views = db.forest; pending = pending } in t) at.holding_is
    ∙ ap (λ views. let t : Session = record { map = s.map; holding = s.holding; views = views; pending = pending } in t) at.views_are
    ∙ ap (λ cs. let t : Session = record { map = s.map; holding = s.holding; views = s.views; pending = cs } in t) at.pending_is

-- ---- its text is printed
module _ (s : Session) (made : Result (Session × Step) Stop) (text : List ℕ) (db : DbState) (pending : List Change) (files : Files) (d : IsMade made text db pending files) where
  pub printed : (taken taken' : Option (List ℕ)) → Appends taken taken' text → IsDone made db pending files taken taken'
  printed taken taken' text = record { next = d.next; step = d.step; is = d.is; at = d.at; text = subst (λ (t : List ℕ). Appends taken taken' t) d.text_is text }

  text_is : text ≡ text_of (played s made).steps
  text_is = d.text_is ∙ sym (append-nil d.step.text) ∙ ap (λ made. text_of (played s made).steps) (sym d.is)

  -- a prefix of it is
  has_step : IfOk made (Moves s.map) → HasSteps s.map (played s made).steps 0 files
  has_step moves =
      let map_is : d.next.map ≡ after_step s.map d.step.committed = subst (λ made. IfOk made (Moves s.map)) d.is moves in
      subst (λ made. HasSteps s.map (played s made).steps 0 files) (sym d.is)
      (fewer s.map (d.step ∷ []) 0 1 (omega arith) files (all_done s.map (d.step ∷ []) files (subst (λ (m : Map). Stands limits files m) map_is (kept_stands db d.next.map files d.at.keeps_map))))

  pub printed_part : (taken taken' : Option (List ℕ)) (end : End) → (IsStop end → ⊥) → IfOk made (Moves s.map) → AppendsPrefix taken taken' text → PartRuns (played s made) s.map taken taken' files end
  printed_part taken taken' end no_stop moves part = record {
    came = λ stop. absurd (no_stop stop);
    prefix = same_prefix taken taken' text_is part;
    files_are = λ ne. has_step moves;
  }

  pub kept_part : (taken taken' : Option (List ℕ)) (old now : Moments) → AppendsPrefix taken taken' text → KeptPrinting s made old now → KeepsSteps s.map (played s made).steps taken taken' old now
  kept_part taken taken' old now part kept = kept taken taken' (same_prefix taken taken' text_is part)

  -- by what printing answers
  pub done_printed : (taken taken' : Option (List ℕ)) (r : Result (Unit {0}) SessionEnd) → OnOk r (Appends taken taken' text) → OnOk r (IsDone made db pending files taken taken')
  done_printed taken taken' (Ok x) text = printed taken taken' text
  done_printed taken taken' (Err end) text = tt

  pub stopped_printing : (taken taken' : Option (List ℕ)) (rose : Type 0) (r : Result (Unit {0}) SessionEnd) → IfErr r (λ end. (end ≡ failed_write) × rose) → IfOk made (Moves s.map) → AppendsPrefix taken taken' text → IfErr r (λ end. PartRuns (played s made) s.map taken taken' files (end_of end))
  stopped_printing taken taken' rose (Ok x) why moves part = tt
  stopped_printing taken taken' rose (Err end) why moves part = subst (λ (e : SessionEnd). PartRuns (played s made) s.map taken taken' files (end_of e)) (sym why.0) (printed_part taken taken' Write write_no_stop moves part)

-- ---- its text is made, or there is no memory for it
pub made_text : (made : Result (Session × Step) Stop) (next : Session) (step : Step) (text : List ℕ) (db : DbState) (pending : List Change) (files : Files) (r : Result (String Global) SessionEnd)
    → IsTextOf text r → made ≡ Ok (next, step) → text ≡ step.text → IsAt next db pending files → IfOk r (λ t. IsMade made (string_bytes t) db pending files)
made_text made next step text db pending files (Ok t) of is same at = record { next = next; step = step; is = is; text_is = of ∙ same; at = at }
made_text made next step text db pending files (Err end) of is same at = tt

pub unmade_text : (s : Session) (made : Result (Session × Step) Stop) (text : List ℕ) (files : Files) (r : Result (String Global) SessionEnd) → IsTextOf text r → HasSteps s.map (played s made).steps 0 files → IfErr r (λ end. RunsUnprinted s made files (end_of end))
unmade_text s made text files (Ok t) of has = tt
unmade_text s made text files (Err end) of has = λ taken. subst (λ (e : SessionEnd). PartRuns (played s made) s.map taken taken files (end_of e)) (sym of) (record {
  came = λ stop. absurd (memory_no_stop stop);
  prefix = nothing_yet taken _;
  files_are = λ ne. has;
})

pub kept_if_ok : (s : Session) (made : Result (Session × Step) Stop) (old now : Moments) (r : Result (String Global) SessionEnd) → KeptPrinting s made old now → OnOk r (KeptPrinting s made old now)
kept_if_ok s made old now (Ok t) kept = kept
kept_if_ok s made old now (Err end) kept = tt

pub kept_if_err : (s : Session) (made : Result (Session × Step) Stop) (old now : Moments) (r : Result (String Global) SessionEnd) → KeptPrinting s made old now → OnErr r (KeptUnprinted s made old now)
kept_if_err s made old now (Ok t) kept = tt
kept_if_err s made old now (Err end) kept = λ taken. kept taken taken (nothing_yet taken _)

-- ---- a line that commits nothing
module _ (s : Session) (made : Result (Session × Step) Stop) (r : Result (String Global) SessionEnd) (db : DbState) (pending : List Change) (files : Files) where
  pub quiet_done : IsQuiet made r db pending files → IfOk r (λ t. IsMade made (string_bytes t) db pending files)
  quiet_done = go r
    where
      go : (r : Result (String Global) SessionEnd) → IsQuiet made r db pending files → IfOk r (λ t. IsMade made (string_bytes t) db pending files)
      go (Ok t) q = record { next = q.next; step = prints (string_bytes t); is = q.is; text_is = refl; at = q.at }
      go (Err end) q = tt

  ends : (end : SessionEnd) → Stands limits files s.map → IsQuietEnd made end → RunsUnprinted s made files (end_of end)
  ends done stands q = absurd q
  ends (bad_line n) stands q = absurd q
  ends (limit kind) stands q = λ taken. subst (λ made. PartRuns (played s made) s.map taken taken files (LimitEnd (limit_of kind))) (sym q) (refused_runs s (Limit (limit_of kind)) taken files stands)
  ends (damaged_at file place) stands q = absurd q
  ends failed_read stands q = absurd q
  ends failed_write stands q = absurd q
  ends failed_disk stands q = absurd q
  ends no_memory stands q = λ taken. stopped_runs (played s made) s.map taken files NoMemory memory_no_stop (λ ne. stands)

  pub quiet_stopped : Stands limits files s.map → IsQuiet made r db pending files → IfErr r (λ end. RunsUnprinted s made files (end_of end))
  quiet_stopped stands = go r
    where
      go : (r : Result (String Global) SessionEnd) → IsQuiet made r db pending files → IfErr r (λ end. RunsUnprinted s made files (end_of end))
      go (Ok t) q = tt
      go (Err end) q = ends end stands q

  pub quiet_kept : (old now : Moments) → now ≡ old → LeavesOnly (λ image. Stands limits image s.map) old.now → OnErr r (KeptUnprinted s made old now)
  quiet_kept old now same left = go r
    where
      go : (r : Result (String Global) SessionEnd) → OnErr r (KeptUnprinted s made old now)
      go (Ok t) = tt
      go (Err end) = λ taken. subst (λ (n : Moments). KeepsSteps s.map (played s made).steps taken taken old n) (sym same) (idle s.map (played s made).steps taken old left)

  pub quiet_told : (old now : Moments) → now ≡ old → LeavesOnly (λ image. Stands limits image s.map) old.now → IsQuiet made r db pending files → OnOk r (KeptPrinting s made old now)
  quiet_told old now same left = go r
    where
      go : (r : Result (String Global) SessionEnd) → IsQuiet made r db pending files → OnOk r (KeptPrinting s made old now)
      go (Ok t) q = λ taken taken' part.
          let one = prints (string_bytes t) ∷ [] in
          let part' = same_prefix taken taken' (ap (λ made. text_of (played s made).steps) q.is) part in
          subst (λ made. KeepsSteps s.map (played s made).steps taken taken' old now) (sym q.is)
          (subst (λ (n : Moments). KeepsSteps s.map one taken taken' old n) (sym same) (all_kept s.map one taken taken' old old (none_yet (HasSteps s.map one 0) old old refl) left part'))
      go (Err end) q = tt

-- ---- a call that was refused
-- by its disk, or quietly: then all is as it was
pub record WentQuiet (m : Map) (made : Result (Session × Step) Stop) (r : Result (String Global) SessionEnd) (db : DbState) (pending : List Change) (files : Files) (old now : Moments) : Type 0 where
  pub quiet : IsQuiet made r db pending files
  pub stands : Stands limits files m
  pub still : now ≡ old

abbrev pub Went : Map → Result (Session × Step) Stop → DbFault → Result (String Global) SessionEnd → DbState → List Change → Files → Moments → Moments → Type 0
Went m made fault r db pending files old now = ((fault ≡ DiskFault) × (r ≡ Err failed_disk)) ⊎ WentQuiet m made r db pending files old now

module _ (s : Session) (made : Result (Session × Step) Stop) (fault : DbFault) (r : Result (String Global) SessionEnd) (db : DbState) (pending : List Change) (files : Files) (old now : Moments) (went : Went s.map made fault r db pending files old now) where
  pub went_done : IfOk r (λ t. IsMade made (string_bytes t) db pending files)
  went_done = elim went [
    | inl lost ↦ subst (λ r. IfOk r (λ t. IsMade made (string_bytes t) db pending files)) (sym lost.1) tt
    | inr q ↦ quiet_done s made r db pending files q.quiet
  ]

  pub went_stopped : IfErr r (λ end. RunsUnprinted s made files (end_of end))
  went_stopped = elim went [
    | inl lost ↦ subst (λ r. IfErr r (λ end. RunsUnprinted s made files (end_of end))) (sym lost.1) (λ taken. stopped_runs (played s made) s.map taken files Disk disk_no_stop (λ ne. absurd (ne refl)))
    | inr q ↦ quiet_stopped s made r db pending files q.stands q.quiet
  ]

  pub went_kept : LeavesOnly (λ image. Stands limits image s.map) old.now → (fault ≡ DiskFault → KeptUnprinted s made old now) → OnErr r (KeptUnprinted s made old now)
  went_kept left begun = elim went [
    | inl lost ↦ subst (λ r. OnErr r (KeptUnprinted s made old now)) (sym lost.1) (begun lost.0)
    | inr q ↦ quiet_kept s made r db pending files old now q.still left
  ]

  pub went_told : LeavesOnly (λ image. Stands limits image s.map) old.now → OnOk r (KeptPrinting s made old now)
  went_told left = elim went [
    | inl lost ↦ subst (λ r. OnOk r (KeptPrinting s made old now)) (sym lost.1) tt
    | inr q ↦ quiet_told s made r db pending files old now q.still left q.quiet
  ]
