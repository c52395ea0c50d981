-- A script from line to line: where it is, and how it ends.
use Rattle.std.proofs.Common.{◌≡◌, ◌≢◌, ℕ, suc, ◌+◌, ◌<◌, ◌≤◌, Bool, true, List, [], ◌∷◌, ◌++◌, length, Option, Some, None, Result, Ok, Err, refl, sym, ◌∙◌, ap, subst, arith, append_assoc, length-append}
use Rattle.std.specs.Prelude.{nat_le, IfSome}
use Rattle.std.proofs.lemmas.Bool.{le-leb, lt-leb, leb-true}
use Rattle.std.proofs.lemmas.List.{append-nil}
use Rattle.std.specs.Io.KnownBytes.{Appends}
use Rattle.base_model.specs.Faults.{TellsAlike}
use Rattle.disk_model.specs.Moments.{Meanwhile}
use Rattle.disk_model.proofs.Meanwhile.{none_yet}
use Rattle.trie_model.specs.Maps.{Map, limits}
use Rattle.batch_model.specs.Batch.{Change}
use Rattle.text_model.specs.Lines.{input_limit, is_overlong, lines_within}
use Rattle.text_model.specs.Texts.{Input}
use Rattle.store_model.specs.Journal.{Stands}
use Rattle.session_model.specs.Session.{Session, Step, Stop, BadLine, Limit, start, step}
use Rattle.session_model.specs.Script.{Played, then_play, play, ended, script, text_of, after_steps}
use Rattle.session_model.proofs.MapsOfScripts.{play-map}
use Rattle.session_model.proofs.PlayedLines.{followed, play-done, play-more, text_of-append}
use Rattle.run_model.specs.OutsideThings.{Outside, DiskSeen, outside}
use Rattle.run_model.specs.End.{End, Done, BadLine as BadLineEnd, Limit as LimitEnd, Read, NoMemory}
use Rattle.run_model.specs.Script.{HasSteps, IsStop, Keeps as KeepsSteps, DecideNothing, ScriptRuns}
use Rattle.batch_text.specs.Stream.{Stream, Gives, TakesLine, NoMore, Past, FirstIsOverlong, BeginsOverlong, Pulls, SettlesNothing}
use Rattle.batch_text.specs.declared.reader.ReaderFault.{ReaderFault}
use Rattle.batch_text.specs.declared.reader.ReaderFault.TheVariants.{Read as ReadFault, Limit as LimitFault, Overlong, NoMemory as NoMemoryFault}
use Rattle.mdb_journal.specs.DiskMoves.{AreSynced}
use Rattle.mdb_core.specs.Stores.{DbState, Keeps}
use Rattle.script_run.specs.Ends.{end_of, reader_end}
use Rattle.store_opening.specs.Opening.{IsJustOpened}
use Rattle.script_run.specs.ScriptSteps.{IsAt, IsDone, PartRuns, AllDone, all_lines, played}
use Rattle.run_model.proofs.PrintedText.{nothing, and_then, same_text, whole}
use Rattle.mdb_core.proofs.StoreFiles.{kept_stands}
use Rattle.script_run.proofs.KeptFiles.{kept_leaves}
use Rattle.script_run.proofs.KeptSteps.{all_done, fewer, all_kept, meanwhile_on}
use Rattle.script_run.proofs.StoppedParts.{refused_runs, read_no_stop, memory_no_stop}
use Rattle.script_run.proofs.ScriptParts.{Begins, begins_both, begins_steps, begins_behind, begins_rest, begins_script, runs_behind, runs_of_more, keeps_behind, keeps_of_more}
use Rattle.script_run.proofs.UsedBytes.{Used, none_used, line_used, read_undecided}

-- what the code holds, and what is told of the output and of the disk
pub record Place : Type 0 where
  pub db : DbState
  pub pending : List Change
  pub taken : Option (List ℕ)
  pub disk : DiskSeen

-- what a whole script promises, as its part does
pub script_runs : (w : ℕ) (m : Map) (bytes : List ℕ) (before after : Outside) (end : End) → PartRuns (script w m bytes) m before.output.taken after.output.taken after.disk.files end → (end ≡ Read → DecideNothing w m bytes after.input.left) → ScriptRuns w m bytes before after end
script_runs w m bytes before after end runs undecided = record {
  came = λ is. let c = runs.came is in record { stops = c.stops; text = c.text; files = c.stands };
  prefix = runs.prefix;
  files = runs.files_are;
  undecided = undecided;
}

-- a line that is too long
overlong_step : (w n : ℕ) (s : Session) (line : List ℕ) → is_overlong line ≡ true → step w n s line ≡ Err (BadLine n)
overlong_step w n s line h = rw h refl

-- from a first place on, with tokens of w bits and a store of this map; images says that the disk tells them, and was synced
module _ (w : ℕ) (m : Map) (images : Type 0) (first : Place) where
  -- the lines in front were done, and the next has the number n
  pub record ComesTo (bytes : List ℕ) (n : ℕ) (here : Place) (ahead : Stream) (left : List ℕ) : Type 0 where
    pub front : List (List ℕ)
    pub goes : (play w 1 (start m) front).stop ≡ None
    pub count : n ≡ 1 + length front
    pub lines : lines_within input_limit bytes ≡ front ++ lines_within ahead.allowed (ahead.held ++ left)
    pub fits : nat_le (length (ahead.held ++ left)) ahead.allowed ≡ nat_le (length bytes) input_limit
    pub used : Used w m front bytes ahead left
    pub at : IsAt (play w 1 (start m) front).session here.db here.pending here.disk.files
    pub text : Appends first.taken here.taken (text_of (play w 1 (start m) front).steps)
    pub kept : images → Meanwhile (HasSteps m (play w 1 (start m) front).steps 0) first.disk.moments here.disk.moments

  -- before the first line
  started : (bytes : List ℕ) (pending : List Change) (ahead : Stream) → Keeps first.db m first.disk.files → IsJustOpened first.db → pending ≡ [] → ahead.held ≡ [] → ahead.allowed ≡ input_limit → ComesTo bytes 1 (record first { pending = pending }) ahead bytes
  started bytes pending ahead keeps given none held allowed = record {
    front = [];
    goes = refl;
    count = refl;
    lines = rw (held, allowed) refl;
    fits = rw (held, allowed) refl;
    used = none_used w m bytes ahead held allowed;
    at = record { keeps_map = keeps; holding_is = given.holding m; pending_is = none; views_are = given.views };
    text = nothing first.taken;
    kept = λ _. none_yet (HasSteps m [] 0) first.disk.moments first.disk.moments refl;
  }

  module _ (bytes : List ℕ) (n : ℕ) (here : Place) (ahead : Stream) (left : List ℕ) (c : ComesTo bytes n here ahead left) where
    -- what the lines in front came to
    abbrev fronts : Played
    fronts = play w 1 (start m) c.front

    abbrev made : List ℕ → Result (Session × Step) Stop
    made line = step w n fronts.session line

    map_is : fronts.session.map ≡ after_steps m fronts.steps
    map_is = play-map w 1 (start m) c.front

    -- ---- a line that is done
    module _ (line : List ℕ) (there : Place) (d : IsDone (made line) there.db there.pending there.disk.files here.taken there.taken) where
      numbered : step w (1 + length c.front) fronts.session line ≡ Ok (d.next, d.step)
      numbered = ap (λ (k : ℕ). step w k fronts.session line) (sym c.count) ∙ d.is

      more_is : play w 1 (start m) (c.front ++ line ∷ []) ≡ record { session = d.next; steps = fronts.steps ++ d.step ∷ []; stop = None }
      more_is = play-more w 1 (start m) c.front line (d.next, d.step) c.goes numbered

      more_text : Appends first.taken there.taken (text_of (fronts.steps ++ d.step ∷ []))
      more_text =
          let one = same_text here.taken there.taken (sym (append-nil d.step.text)) d.text in
          same_text first.taken there.taken (sym (text_of-append fronts.steps (d.step ∷ []))) (and_then (text_of fronts.steps) (text_of (d.step ∷ [])) first.taken here.taken there.taken c.text one)

      more_kept : images → KeepsSteps fronts.session.map (played fronts.session (made line)).steps here.taken there.taken here.disk.moments there.disk.moments → Meanwhile (HasSteps m (fronts.steps ++ d.step ∷ []) 0) first.disk.moments there.disk.moments
      more_kept told kept =
          let one : Meanwhile (HasSteps fronts.session.map (d.step ∷ []) 0) here.disk.moments there.disk.moments = subst (λ (r : Result (Session × Step) Stop). Meanwhile (HasSteps fronts.session.map (played fronts.session r).steps 0) here.disk.moments there.disk.moments) d.is kept.meanwhile in
          meanwhile_on m fronts.steps (d.step ∷ []) first.disk.moments here.disk.moments there.disk.moments (c.kept told) (subst (λ (k : Map). Meanwhile (HasSteps k (d.step ∷ []) 0) here.disk.moments there.disk.moments) map_is one)

    after_line : (there : Place) (new : Stream) (left' : List ℕ) → IsDone (made new.line) there.db there.pending there.disk.files here.taken there.taken
        → (images → KeepsSteps fronts.session.map (played fronts.session (made new.line)).steps here.taken there.taken here.disk.moments there.disk.moments)
        → Gives ahead (Some left) new (Some left') → TakesLine ahead (Some left) new (Some left') → ComesTo bytes (n + 1) there new left'
    after_line there new left' d kept gives takes =
        let is = more_is new.line there d in
        let goes = ap (λ (p : Played). p.stop) is in record {
          front = c.front ++ new.line ∷ [];
          goes = goes;
          count = omega (arith, c.count, length-append c.front (new.line ∷ []));
          lines = c.lines ∙ ap (λ (x : List (List ℕ)). c.front ++ x) gives.0 ∙ sym (append_assoc c.front (new.line ∷ []) (lines_within new.allowed (new.held ++ left')));
          fits = gives.1 ∙ c.fits;
          used = line_used w m c.front bytes ahead new left left' n fronts.session (d.next, d.step) c.used takes d.is goes;
          at = subst (λ (p : Played). IsAt p.session there.db there.pending there.disk.files) (sym is) d.at;
          text = subst (λ (p : Played). Appends first.taken there.taken (text_of p.steps)) (sym is) (more_text new.line there d);
          kept = λ told. subst (λ (p : Played). Meanwhile (HasSteps m p.steps 0) first.disk.moments there.disk.moments) (sym is) (more_kept new.line there d told (kept told));
        }

    -- ---- the end of the lines
    module _ (none : lines_within ahead.allowed (ahead.held ++ left) ≡ []) where
      all_is : all_lines w m bytes ≡ fronts
      all_is = ap (play w 1 (start m)) (c.lines ∙ ap (λ (x : List (List ℕ)). c.front ++ x) none ∙ append-nil c.front)

      at_end : length (ahead.held ++ left) ≤ ahead.allowed → AllDone w m bytes here.db here.pending here.disk.files first.taken here.taken
      at_end le = record {
        done = ap (λ (p : Played). p.stop) all_is ∙ c.goes;
        within = leb-true (length bytes) input_limit (sym c.fits ∙ le-leb (length (ahead.held ++ left)) ahead.allowed le);
        at = subst (λ (p : Played). IsAt p.session here.db here.pending here.disk.files) (sym all_is) c.at;
        text = subst (λ (p : Played). Appends first.taken here.taken (text_of p.steps)) (sym all_is) c.text;
      }

      -- the input goes past its limit
      past_is : ahead.allowed < length (ahead.held ++ left) → script w m bytes ≡ record { session = fronts.session; steps = fronts.steps; stop = Some (Limit Input) }
      past_is lt =
          ap (λ (p : Played). ended w p p.stop (nat_le (length bytes) input_limit)) all_is
          ∙ ap (λ (o : Option Stop). ended w fronts o (nat_le (length bytes) input_limit)) c.goes
          ∙ ap (λ (b : Bool). ended w fronts None b) (sym c.fits ∙ lt-leb (length (ahead.held ++ left)) ahead.allowed lt)

    -- ---- a line that is not done
    begins : (line : List ℕ) (rest : List (List ℕ)) → lines_within ahead.allowed (ahead.held ++ left) ≡ line ∷ rest → Begins (followed None fronts (played fronts.session (made line))) (script w m bytes)
    begins line rest is =
        let k = 1 + length c.front in
        let one = step w k fronts.session line in
        let all : all_lines w m bytes ≡ followed None fronts (play w k fronts.session (line ∷ rest)) = ap (play w 1 (start m)) (c.lines ∙ ap (λ (x : List (List ℕ)). c.front ++ x) is) ∙ play-done w 1 (start m) c.front (line ∷ rest) c.goes in
        let first_step = begins_behind fronts (played fronts.session one) (then_play fronts.session one (λ (t : Session). play w (suc k) t rest)) (begins_steps fronts.session one (λ (t : Session). play w (suc k) t rest)) in
        let whole_lines : Begins (followed None fronts (played fronts.session one)) (all_lines w m bytes) = subst (λ (p : Played). Begins (followed None fronts (played fronts.session one)) p) (sym all) first_step in
        let whole_script : Begins (followed None fronts (played fronts.session one)) (script w m bytes) = begins_both (followed None fronts (played fronts.session one)) (all_lines w m bytes) (script w m bytes) whole_lines (begins_script w (all_lines w m bytes) (all_lines w m bytes).stop (nat_le (length bytes) input_limit) refl) in
        subst (λ (i : ℕ). Begins (followed None fronts (played fronts.session (step w i fronts.session line))) (script w m bytes)) (sym c.count) whole_script

    step_fails : (line : List ℕ) (rest : List (List ℕ)) (there : Place) (end : End) → lines_within ahead.allowed (ahead.held ++ left) ≡ line ∷ rest → end ≢ Done → PartRuns (played fronts.session (made line)) fronts.session.map here.taken there.taken there.disk.files end → PartRuns (script w m bytes) m first.taken there.taken there.disk.files end
    step_fails line rest there end is ne runs =
        let one = played fronts.session (made line) in
        runs_of_more m (followed None fronts one) (script w m bytes) first.taken there.taken there.disk.files end (begins line rest is) ne
        (runs_behind m fronts one first.taken here.taken there.taken there.disk.files end map_is c.text runs)

    step_kept : (line : List ℕ) (rest : List (List ℕ)) (there : Place) → lines_within ahead.allowed (ahead.held ++ left) ≡ line ∷ rest → images → KeepsSteps fronts.session.map (played fronts.session (made line)).steps here.taken there.taken here.disk.moments there.disk.moments → KeepsSteps m (script w m bytes).steps first.taken there.taken first.disk.moments there.disk.moments
    step_kept line rest there is told kept =
        let one = played fronts.session (made line) in
        keeps_of_more m (followed None fronts one) (script w m bytes) first.taken there.taken first.disk.moments there.disk.moments (begins line rest is)
        (keeps_behind m fronts one first.taken here.taken there.taken first.disk.moments here.disk.moments there.disk.moments map_is (c.kept told) c.text kept)

    -- ---- no line is given
    stands : Stands limits here.disk.files (after_steps m fronts.steps)
    stands = subst (λ (k : Map). Stands limits here.disk.files k) map_is (kept_stands here.db fronts.session.map here.disk.files c.at.keeps_map)

    begins_whole : Begins fronts (script w m bytes)
    begins_whole =
        let others = play w (1 + length c.front) fronts.session (lines_within ahead.allowed (ahead.held ++ left)) in
        let all : all_lines w m bytes ≡ followed None fronts others = ap (play w 1 (start m)) c.lines ∙ play-done w 1 (start m) c.front (lines_within ahead.allowed (ahead.held ++ left)) c.goes in
        begins_both fronts (all_lines w m bytes) (script w m bytes)
        (subst (λ (p : Played). Begins fronts p) (sym all) (begins_rest fronts others c.goes))
        (begins_script w (all_lines w m bytes) (all_lines w m bytes).stop (nat_le (length bytes) input_limit) refl)

    -- what a crash leaves then
    still_kept : images → AreSynced here.disk.files here.disk.moments → KeepsSteps m (script w m bytes).steps first.taken here.taken first.disk.moments here.disk.moments
    still_kept told synced =
        keeps_of_more m fronts (script w m bytes) first.taken here.taken first.disk.moments here.disk.moments begins_whole
        (all_kept m fronts.steps first.taken here.taken first.disk.moments here.disk.moments (c.kept told)
        (λ image is. subst (λ (k : Map). Stands limits image k) map_is (kept_leaves here.db fronts.session.map here.disk.files here.disk.moments c.at.keeps_map synced image is))
        (whole (text_of fronts.steps) first.taken here.taken c.text))

    -- because of something outside
    outside_stops : (end : End) → (IsStop end → ⊥) → PartRuns (script w m bytes) m first.taken here.taken here.disk.files end
    outside_stops end no_stop = runs_of_more m fronts (script w m bytes) first.taken here.taken here.disk.files end begins_whole (λ is. no_stop (None, is)) (record {
      came = λ is. absurd (no_stop is);
      prefix = whole (text_of fronts.steps) first.taken here.taken c.text;
      files_are = λ ne. fewer m fronts.steps 0 (length fronts.steps) (omega arith) here.disk.files (all_done m fronts.steps here.disk.files stands);
    })

    -- past the limit of an input
    limit_stops : lines_within ahead.allowed (ahead.held ++ left) ≡ [] → ahead.allowed < length (ahead.held ++ left) → PartRuns (script w m bytes) m first.taken here.taken here.disk.files (LimitEnd Input)
    limit_stops none lt = subst (λ (p : Played). PartRuns p m first.taken here.taken here.disk.files (LimitEnd Input)) (sym (past_is none lt)) (record {
      came = λ is. record { stops = refl; text = c.text; stands = kept_stands here.db fronts.session.map here.disk.files c.at.keeps_map };
      prefix = whole (text_of fronts.steps) first.taken here.taken c.text;
      files_are = λ ne. fewer m fronts.steps 0 (length fronts.steps) (omega arith) here.disk.files (all_done m fronts.steps here.disk.files stands);
    })

    -- at a line that is too long
    overlong_stops : (lines : List (List ℕ)) → lines_within ahead.allowed (ahead.held ++ left) ≡ lines → FirstIsOverlong lines → PartRuns (script w m bytes) m first.taken here.taken here.disk.files (BadLineEnd n)
    overlong_stops [] is h = absurd h
    overlong_stops (line ∷ rest) is h =
        step_fails line rest here (BadLineEnd n) is (λ done. let no : ⊥ = cc done in no)
        (subst (λ (r : Result (Session × Step) Stop). PartRuns (played fronts.session r) fronts.session.map here.taken here.taken here.disk.files (BadLineEnd n)) (sym (overlong_step w n fronts.session line h))
        (refused_runs fronts.session (BadLine n) here.taken here.disk.files (kept_stands here.db fronts.session.map here.disk.files c.at.keeps_map)))

  -- ---- of an input that tells
  abbrev pub SoFar : Option (List ℕ) → ℕ → Place → Stream → Option (List ℕ) → Type 0
  SoFar None n here ahead left = Unit {0}
  SoFar (Some bytes) n here ahead None = Unit {0}
  SoFar (Some bytes) n here ahead (Some left) = ComesTo bytes n here ahead left

  -- before the first line
  pub at_start : (left : Option (List ℕ)) (pending : List Change) (ahead : Stream) → Keeps first.db m first.disk.files → IsJustOpened first.db → pending ≡ [] → ahead.held ≡ [] → ahead.allowed ≡ input_limit → SoFar left 1 (record first { pending = pending }) ahead left
  at_start None pending ahead keeps given none held allowed = tt
  at_start (Some bytes) pending ahead keeps given none held allowed = started bytes pending ahead keeps given none held allowed

  module _ (n : ℕ) (here : Place) (ahead : Stream) where
    -- whatever session the code is at
    abbrev pub WhereItIs : (Session → Type 0) → Type 0
    WhereItIs P = (s : Session) → IsAt s here.db here.pending here.disk.files → P s

    -- after a line that was done
    pub goes_on : (start left left' : Option (List ℕ)) (there : Place) (new : Stream) → TellsAlike start left → SoFar start n here ahead left
        → WhereItIs (λ s. IsDone (step w n s new.line) there.db there.pending there.disk.files here.taken there.taken)
        → (images → WhereItIs (λ s. KeepsSteps s.map (played s (step w n s new.line)).steps here.taken there.taken here.disk.moments there.disk.moments))
        → Gives ahead left new left' → TakesLine ahead left new left' → SoFar start (n + 1) there new left'
    goes_on None left left' there new tells so_far done kept gives takes = tt
    goes_on (Some bytes) left None there new tells so_far done kept gives takes = tt
    goes_on (Some bytes) None (Some l') there new tells so_far done kept gives takes = let no : ⊥ = cc (tells.1 refl) in absurd no
    goes_on (Some bytes) (Some l) (Some l') there new tells so_far done kept gives takes =
        let s = (play w 1 (start m) so_far.front).session in
        after_line bytes n here ahead l so_far there new l' (done s so_far.at) (λ told. kept told s so_far.at) gives takes

    -- after the last line
    pub all_done_at_end : (start left : Option (List ℕ)) → TellsAlike start left → SoFar start n here ahead left → NoMore ahead left → IfSome start (λ bytes. AllDone w m bytes here.db here.pending here.disk.files first.taken here.taken)
    all_done_at_end None left tells so_far none = tt
    all_done_at_end (Some bytes) None tells so_far none = let no : ⊥ = cc (tells.1 refl) in absurd no
    all_done_at_end (Some bytes) (Some l) tells so_far none = at_end bytes n here ahead l so_far none.0 none.1

    -- at a line that is not done
    pub line_stops : (start left left' : Option (List ℕ)) (there : Place) (new : Stream) (end : End) (reads reads' writes writes' : ℕ) → TellsAlike start left → TellsAlike left left' → SoFar start n here ahead left → Gives ahead left new left' → end ≢ Done → end ≢ Read
        → WhereItIs (λ s. PartRuns (played s (step w n s new.line)) s.map here.taken there.taken there.disk.files end)
        → IfSome start (λ bytes. ScriptRuns w m bytes (outside start reads first.taken writes first.disk) (outside left' reads' there.taken writes' there.disk) end)
    line_stops None left left' there new end reads reads' writes writes' tells tells' so_far gives not_done not_read runs = tt
    line_stops (Some bytes) None left' there new end reads reads' writes writes' tells tells' so_far gives not_done not_read runs = let no : ⊥ = cc (tells.1 refl) in absurd no
    line_stops (Some bytes) (Some l) None there new end reads reads' writes writes' tells tells' so_far gives not_done not_read runs = let no : ⊥ = cc (tells'.1 refl) in absurd no
    line_stops (Some bytes) (Some l) (Some l') there new end reads reads' writes writes' tells tells' so_far gives not_done not_read runs =
        script_runs w m bytes (outside (Some bytes) reads first.taken writes first.disk) (outside (Some l') reads' there.taken writes' there.disk) end
        (step_fails bytes n here ahead l so_far new.line (lines_within new.allowed (new.held ++ l')) there end gives.0 not_done (runs (play w 1 (start m) so_far.front).session so_far.at))
        (λ is. absurd (not_read is))

    pub line_kept : (start left left' : Option (List ℕ)) (there : Place) (new : Stream) → TellsAlike start left → TellsAlike left left' → SoFar start n here ahead left → Gives ahead left new left' → images
        → WhereItIs (λ s. KeepsSteps s.map (played s (step w n s new.line)).steps here.taken there.taken here.disk.moments there.disk.moments)
        → IfSome start (λ bytes. KeepsSteps m (script w m bytes).steps first.taken there.taken first.disk.moments there.disk.moments)
    line_kept None left left' there new tells tells' so_far gives told kept = tt
    line_kept (Some bytes) None left' there new tells tells' so_far gives told kept = let no : ⊥ = cc (tells.1 refl) in absurd no
    line_kept (Some bytes) (Some l) None there new tells tells' so_far gives told kept = let no : ⊥ = cc (tells'.1 refl) in absurd no
    line_kept (Some bytes) (Some l) (Some l') there new tells tells' so_far gives told kept =
        step_kept bytes n here ahead l so_far new.line (lines_within new.allowed (new.held ++ l')) there gives.0 told (kept (play w 1 (start m) so_far.front).session so_far.at)

    -- where no line is given
    pub reader_stops : (start left left' : Option (List ℕ)) (held : List ℕ) (fault : ReaderFault) (reads reads' writes writes' : ℕ) → TellsAlike start left → TellsAlike left left' → SoFar start n here ahead left → Pulls ahead.held left held left'
        → (fault ≡ LimitFault → Past ahead left) → (fault ≡ Overlong → BeginsOverlong ahead left) → (fault ≡ ReadFault → SettlesNothing ahead.allowed held)
        → IfSome start (λ bytes. ScriptRuns w m bytes (outside start reads first.taken writes first.disk) (outside left' reads' here.taken writes' here.disk) (end_of (reader_end n fault)))
    reader_stops None left left' held fault reads reads' writes writes' tells tells' so_far pulls past overlong nothing = tt
    reader_stops (Some bytes) None left' held fault reads reads' writes writes' tells tells' so_far pulls past overlong nothing = let no : ⊥ = cc (tells.1 refl) in absurd no
    reader_stops (Some bytes) (Some l) None held fault reads reads' writes writes' tells tells' so_far pulls past overlong nothing = let no : ⊥ = cc (tells'.1 refl) in absurd no
    reader_stops (Some bytes) (Some l) (Some l') held ReadFault reads reads' writes writes' tells tells' so_far pulls past overlong nothing =
        script_runs w m bytes (outside (Some bytes) reads first.taken writes first.disk) (outside (Some l') reads' here.taken writes' here.disk) Read
        (outside_stops bytes n here ahead l so_far Read read_no_stop)
        (λ _. read_undecided w m so_far.front bytes ahead l l' held so_far.used pulls (nothing refl))
    reader_stops (Some bytes) (Some l) (Some l') held LimitFault reads reads' writes writes' tells tells' so_far pulls past overlong nothing =
        let p = past refl in
        script_runs w m bytes (outside (Some bytes) reads first.taken writes first.disk) (outside (Some l') reads' here.taken writes' here.disk) (LimitEnd Input)
        (limit_stops bytes n here ahead l so_far p.0 p.1)
        (λ is. let no : ⊥ = cc is in absurd no)
    reader_stops (Some bytes) (Some l) (Some l') held Overlong reads reads' writes writes' tells tells' so_far pulls past overlong nothing =
        script_runs w m bytes (outside (Some bytes) reads first.taken writes first.disk) (outside (Some l') reads' here.taken writes' here.disk) (BadLineEnd n)
        (overlong_stops bytes n here ahead l so_far (lines_within ahead.allowed (ahead.held ++ l)) refl (overlong refl))
        (λ is. let no : ⊥ = cc is in absurd no)
    reader_stops (Some bytes) (Some l) (Some l') held NoMemoryFault reads reads' writes writes' tells tells' so_far pulls past overlong nothing =
        script_runs w m bytes (outside (Some bytes) reads first.taken writes first.disk) (outside (Some l') reads' here.taken writes' here.disk) NoMemory
        (outside_stops bytes n here ahead l so_far NoMemory memory_no_stop)
        (λ is. let no : ⊥ = cc is in absurd no)

    pub reader_kept : (start left : Option (List ℕ)) → TellsAlike start left → SoFar start n here ahead left → images → AreSynced here.disk.files here.disk.moments → IfSome start (λ bytes. KeepsSteps m (script w m bytes).steps first.taken here.taken first.disk.moments here.disk.moments)
    reader_kept None left tells so_far told synced = tt
    reader_kept (Some bytes) None tells so_far told synced = let no : ⊥ = cc (tells.1 refl) in absurd no
    reader_kept (Some bytes) (Some l) tells so_far told synced = still_kept bytes n here ahead l so_far told synced
