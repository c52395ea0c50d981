-- The batch that is pending at the end of an input.
use Rattle.std.proofs.Common.{◌≡◌, ℕ, false, List, [], ◌∷◌, length, Option, Result, Ok, Err, refl, sym, ◌∙◌, ap, subst, arith}
use Rattle.std.specs.Prelude.{IfOk, ◌==◌}
use Rattle.std.specs.Io.KnownBytes.{Appends}
use Rattle.std.proofs.lemmas.List.{append-nil}
use Rattle.disk_model.specs.Files.{Files}
use Rattle.trie_model.specs.Maps.{Map, limits}
use Rattle.store_model.specs.Journal.{Stands}
use Rattle.batch_model.specs.Batch.{Change}
use Rattle.text_model.specs.Texts.{LimitKind}
use Rattle.session_model.specs.Session.{Session, Step, Stop, commit, or_limit}
use Rattle.session_model.specs.Script.{Played, and_then, at_end, text_of}
use Rattle.session_model.proofs.MapsOfScripts.{Moves, commit-map}
use Rattle.session_model.proofs.Outcomes.{or_limit-ok}
use Rattle.run_model.specs.End.{End, Done}
use Rattle.mdb_core.specs.Stores.{DbState}
use Rattle.script_run.specs.ScriptSteps.{IsAt, IsDone, PartRuns, played, still}
use Rattle.run_model.proofs.PrintedText.{same_text, whole}
use Rattle.mdb_core.proofs.StoreFiles.{kept_stands}
use Rattle.script_run.proofs.KeptSteps.{all_done, fewer}

-- ---- what it makes of a script
made_last : (s : Session) (made : Result (Session × Step) LimitKind) → and_then (still s) made ≡ played s (or_limit made)
made_last s (Ok next) = refl
made_last s (Err kind) = refl

-- a batch of some changes is a step more
some_pending : (w : ℕ) (s : Session) (cs : List Change) → (length cs == 0) ≡ false → at_end w (still s) cs ≡ played s (or_limit (commit w s))
some_pending w s [] h = let no : ⊥ = cc h in absurd no
some_pending w s (c ∷ cs) h = made_last s (commit w s)

-- ---- what it promises
-- a step that was done, and is the last
done_with : (s : Session) (next : Session) (step : Step) (db : DbState) (pending : List Change) (files : Files) (taken taken' : Option (List ℕ)) → Moves s.map (next, step) → IsAt next db pending files → Appends taken taken' step.text → PartRuns (played s (Ok (next, step))) s.map taken taken' files Done
done_with s next step db pending files taken taken' moves at text =
    let stands = kept_stands db next.map files at.keeps_map in
    let printed = same_text taken taken' (sym (append-nil step.text)) text in record {
      came = λ is. record { stops = refl; text = printed; stands = stands };
      prefix = whole (text_of (step ∷ [])) taken taken' printed;
      files_are = λ ne. fewer s.map (step ∷ []) 0 1 (omega arith) files (all_done s.map (step ∷ []) files (subst (λ (m : Map). Stands limits files m) moves stands));
    }

pub done_runs : (w : ℕ) (s : Session) (db : DbState) (pending : List Change) (files : Files) (taken taken' : Option (List ℕ)) → IsDone (or_limit (commit w s)) db pending files taken taken' → PartRuns (played s (or_limit (commit w s))) s.map taken taken' files Done
done_runs w s db pending files taken taken' d =
    let moves = subst (λ (made : Result (Session × Step) Stop). IfOk made (Moves s.map)) d.is (or_limit-ok (Moves s.map) (commit w s) (commit-map w s)) in
    subst (λ (made : Result (Session × Step) Stop). PartRuns (played s made) s.map taken taken' files Done) (sym d.is)
    (done_with s d.next d.step db pending files taken taken' moves d.at d.text)

-- an equal batch is pending
pub same_batch : (s : Session) (db : DbState) (pending batch : List Change) (files : Files) → batch ≡ pending → IsAt s db pending files → IsAt s db batch files
same_batch s db pending batch files is at = subst (λ (cs : List Change). IsAt s db cs files) (sym is) at

-- the same, told of the end of an input
pub last_runs : (w : ℕ) (s : Session) (pending : List Change) (taken taken' : Option (List ℕ)) (files : Files) (end : End) → pending ≡ s.pending → (length pending == 0) ≡ false → PartRuns (played s (or_limit (commit w s))) s.map taken taken' files end → PartRuns (at_end w (still s) s.pending) s.map taken taken' files end
last_runs w s pending taken taken' files end is some runs =
    subst (λ (p : Played). PartRuns p s.map taken taken' files end) (sym (some_pending w s s.pending (ap (λ (cs : List Change). length cs == 0) (sym is) ∙ some))) runs
