-- A script whose lines were all done, and its last batch.
use Rattle.std.proofs.Common.{◌≡◌, ◌≢◌, ◌≤◌, ℕ, Bool, List, [], ◌∷◌, length, Option, Some, None, Result, Ok, Err, refl, sym, ◌∙◌, ap, subst}
use Rattle.std.specs.Prelude.{nat_le, IfSome}
use Rattle.std.proofs.lemmas.Bool.{le-leb}
use Rattle.std.proofs.lemmas.List.{append-nil}
use Rattle.disk_model.specs.Files.{Files}
use Rattle.disk_model.specs.Moments.{Moments, Meanwhile}
use Rattle.trie_model.specs.Maps.{Map}
use Rattle.batch_model.specs.Batch.{Change}
use Rattle.text_model.specs.Lines.{input_limit, lines_within}
use Rattle.text_model.specs.Texts.{LimitKind}
use Rattle.session_model.specs.Session.{Session, Step, Stop, start, commit}
use Rattle.session_model.specs.Script.{Played, and_then, at_end, ended, script}
use Rattle.session_model.proofs.MapsOfScripts.{play-map}
use Rattle.session_model.proofs.PlayedLines.{followed}
use Rattle.run_model.specs.OutsideThings.{DiskSeen, outside}
use Rattle.run_model.specs.End.{End, Read}
use Rattle.run_model.specs.Script.{HasSteps, Keeps as KeepsSteps, ScriptRuns}
use Rattle.mdb_core.specs.Stores.{DbState}
use Rattle.script_run.specs.declared.end.SessionEnd.{SessionEnd}
use Rattle.script_run.specs.declared.end.SessionEnd.TheVariants.{Done as done, BadLine as bad_line, Limit as limit, Damaged as damaged_at, Read as failed_read, Write as failed_write, Disk as failed_disk, NoMemory as no_memory}
use Rattle.script_run.specs.Ends.{end_of, StepCause}
use Rattle.script_run.specs.ScriptSteps.{IsAt, PartRuns, AllDone, all_lines, still}
use Rattle.script_run.proofs.ScriptParts.{runs_behind, keeps_behind}
use Rattle.script_run.proofs.ScriptSoFar.{script_runs}

-- ---- what the last batch adds
and_then_behind : (p : Played) (made : Result (Session × Step) LimitKind) → and_then p made ≡ followed None p (and_then (still p.session) made)
and_then_behind p (Ok next) = refl
and_then_behind p (Err kind) = ap (λ (xs : List Step). record (and_then p (Err kind)) { steps = xs }) (sym (append-nil p.steps))

at_end_behind : (w : ℕ) (p : Played) (cs : List Change) → p.stop ≡ None → at_end w p cs ≡ followed None p (at_end w (still p.session) cs)
at_end_behind w p [] none = ap (λ (o : Option Stop). record p { stop = o }) none ∙ ap (λ (xs : List Step). let q : Played = record { session = p.session; steps = xs; stop = None } in q) (sym (append-nil p.steps))
at_end_behind w p (c ∷ cs) none = and_then_behind p (commit w p.session)

script_is : (w : ℕ) (m : Map) (bytes : List ℕ) → (all_lines w m bytes).stop ≡ None → length bytes ≤ input_limit → script w m bytes ≡ followed None (all_lines w m bytes) (at_end w (still (all_lines w m bytes).session) (all_lines w m bytes).session.pending)
script_is w m bytes none within =
    let p = all_lines w m bytes in
    ap (λ (o : Option Stop). ended w p o (nat_le (length bytes) input_limit)) none
    ∙ ap (λ (b : Bool). ended w p None b) (le-leb (length bytes) input_limit within)
    ∙ at_end_behind w p p.session.pending none

-- ---- the end of it is no failed read
pub last_not_read : (writes writes' disks disks' : ℕ) (end : SessionEnd) → ((end ≡ done → ⊥) → StepCause writes writes' disks disks' end) → end_of end ≢ Read
last_not_read writes writes' disks disks' done why = λ is. cc is
last_not_read writes writes' disks disks' (bad_line n) why = λ is. cc is
last_not_read writes writes' disks disks' (limit kind) why = λ is. cc is
last_not_read writes writes' disks disks' (damaged_at file place) why = λ is. cc is
last_not_read writes writes' disks disks' failed_read why = λ is. why (λ same. let no : ⊥ = cc same in no)
last_not_read writes writes' disks disks' failed_write why = λ is. cc is
last_not_read writes writes' disks disks' failed_disk why = λ is. cc is
last_not_read writes writes' disks disks' no_memory why = λ is. cc is

-- ---- what the whole promises
module _ (w : ℕ) (m : Map) (first mid last : Option (List ℕ)) (db : DbState) (pending : List Change) (files : Files) where
  pub whole_runs : (told left' : Option (List ℕ)) (reads reads' writes writes' : ℕ) (before after : DiskSeen) (end : End)
      → IfSome told (λ bytes. AllDone w m bytes db pending files first mid) → end ≢ Read
      → ((s : Session) → IsAt s db pending files → PartRuns (at_end w (still s) s.pending) s.map mid last after.files end)
      → IfSome told (λ bytes. ScriptRuns w m bytes (outside told reads first writes before) (outside left' reads' last writes' after) end)
  whole_runs None left' reads reads' writes writes' before after end all not_read runs = tt
  whole_runs (Some bytes) left' reads reads' writes writes' before after end all not_read runs =
      let p = all_lines w m bytes in
      let q = at_end w (still p.session) p.session.pending in
      script_runs w m bytes (outside (Some bytes) reads first writes before) (outside left' reads' last writes' after) end
      (subst (λ (x : Played). PartRuns x m first last after.files end) (sym (script_is w m bytes all.done all.within))
      (runs_behind m p q first mid last after.files end (play-map w 1 (start m) (lines_within input_limit bytes)) all.text (runs p.session all.at)))
      (λ is. absurd (not_read is))

  pub whole_kept : (told : Option (List ℕ)) (old now new : Moments) → IfSome told (λ bytes. AllDone w m bytes db pending files first mid) → IfSome told (λ bytes. Meanwhile (HasSteps m (all_lines w m bytes).steps 0) old now)
      → ((s : Session) → IsAt s db pending files → KeepsSteps s.map (at_end w (still s) s.pending).steps mid last now new)
      → IfSome told (λ bytes. KeepsSteps m (script w m bytes).steps first last old new)
  whole_kept None old now new all run kept = tt
  whole_kept (Some bytes) old now new all run kept =
      let p = all_lines w m bytes in
      let q = at_end w (still p.session) p.session.pending in
      subst (λ (x : Played). KeepsSteps m x.steps first last old new) (sym (script_is w m bytes all.done all.within))
      (keeps_behind m p q first mid last old now new (play-map w 1 (start m) (lines_within input_limit bytes)) run all.text (kept p.session all.at))
