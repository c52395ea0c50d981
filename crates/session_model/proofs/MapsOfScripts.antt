-- The map that a script leads to.
use Rattle.std.proofs.Common.{◌≡◌, ℕ, suc, Bool, true, false, nat_le, List, [], ◌∷◌, ◌++◌, length, refl, sym, ap, ◌∙◌, Option, Some, None, Result, Ok, Err}
use Rattle.std.specs.Result.{IfOk}
use Rattle.std.specs.List.{cons_option}
use Rattle.trie_model.specs.Maps.{Map}
use Rattle.batch_model.specs.Batch.{Change, after_batch}
use Rattle.text_model.specs.Texts.{LimitKind}
use Rattle.text_model.specs.Lines.{input_limit, lines_within}
use Rattle.session_model.specs.Session.{Session, Step, Stop, start, commit, step}
use Rattle.session_model.specs.Script.{Played, then_play, play, and_then, at_end, ended, script, batches_of, after_step, after_steps, maps_from}
use Rattle.session_model.specs.Laws.{StepsMakeTheMap, MapsEndThere}
use Rattle.session_model.proofs.PlayedLines.{after_steps-append}
use Rattle.session_model.proofs.Outcomes.{Holds, of_commit, of_step}

-- the map after a line is that after its step
abbrev pub Moves : Map → Session × Step → Type 0
Moves m next = next.0.map ≡ after_step m next.1.committed

-- the map at which lines stand is that after their steps
abbrev pub IsAfterSteps : Map → Played → Type 0
IsAfterSteps m p = p.session.map ≡ after_steps m p.steps

moves : (w : ℕ) (s : Session) → Holds (Moves s.map) w s
moves w s = record {
  still = λ t none. ap (after_step s.map) (sym none);
  pends = λ key value asks. refl;
  commits = refl;
  drops = λ cause. refl;
  views = λ place may. refl;
  takes = λ n may. refl;
  closes = λ n. refl;
}

pub commit-map : (w : ℕ) (s : Session) → IfOk (commit w s) (Moves s.map)
commit-map w s = of_commit (Moves s.map) w s refl

pub step-map : (w n : ℕ) (s : Session) (line : List ℕ) → IfOk (step w n s line) (Moves s.map)
step-map w n s line = of_step (Moves s.map) w s (moves w s) n line

pub play-map : (w n : ℕ) (s : Session) (lines : List (List ℕ)) → IsAfterSteps s.map (play w n s lines)
play-map w n s [] = refl
play-map w n s (line ∷ lines) = go (step w n s line) (step-map w n s line) (λ t. play-map w (suc n) t lines)
  where
    go : (r : Result (Session × Step) Stop) → IfOk r (Moves s.map) → ((t : Session) → IsAfterSteps t.map (play w (suc n) t lines)) → IsAfterSteps s.map (then_play s r (λ (t : Session). play w (suc n) t lines))
    go (Err stop) moves later = refl
    go (Ok next) moves later = later next.0 ∙ ap (λ (m : Map). after_steps m (play w (suc n) next.0 lines).steps) moves

pub and_then-map : (m : Map) (p : Played) (r : Result (Session × Step) LimitKind) → IsAfterSteps m p → IfOk r (Moves p.session.map) → IsAfterSteps m (and_then p r)
and_then-map m p (Ok next) is moves = moves ∙ ap (λ (k : Map). after_step k next.1.committed) is ∙ sym (after_steps-append m p.steps (next.1 ∷ []))
and_then-map m p (Err kind) is moves = is

pub at_end-map : (w : ℕ) (m : Map) (p : Played) (cs : List Change) → IsAfterSteps m p → IsAfterSteps m (at_end w p cs)
at_end-map w m p [] is = is
at_end-map w m p (c ∷ cs) is = and_then-map m p (commit w p.session) is (commit-map w p.session)

pub ended-map : (w : ℕ) (m : Map) (p : Played) (stop : Option Stop) (within : Bool) → IsAfterSteps m p → IsAfterSteps m (ended w p stop within)
ended-map w m p (Some stop) within is = is
ended-map w m p None false is = is
ended-map w m p None true is = at_end-map w m p p.session.pending is

-- the map at which a script stands is that after its steps
pub steps_make_the_map : StepsMakeTheMap
steps_make_the_map w m bytes =
    let p = play w 1 (start m) (lines_within input_limit bytes) in
    ended-map w m p p.stop (nat_le (length bytes) input_limit) (play-map w 1 (start m) (lines_within input_limit bytes))

-- ---- the list of maps

-- maps, of which this is the last
abbrev EndAt : Map → List Map → Type 0
EndAt m maps = (earlier : List Map) × (maps ≡ earlier ++ m ∷ [])

-- the last of the maps from one on is that after the steps
maps-end : (m : Map) (steps : List Step) → EndAt (after_steps m steps) (maps_from m (batches_of steps))
maps-end m [] = ([], refl)
maps-end m (s ∷ steps) = go s.committed (λ k. maps-end k steps)
  where
    go : (o : Option (List Change)) → ((k : Map) → EndAt (after_steps k steps) (maps_from k (batches_of steps))) → EndAt (after_steps (after_step m o) steps) (maps_from m (cons_option o (batches_of steps)))
    go None later = later m
    go (Some batch) later = let l = later (after_batch m batch) in (m ∷ l.0, ap (λ (maps : List Map). m ∷ maps) l.1)

-- the last map of a session is the one at which its script stands
pub maps_end_there : MapsEndThere
maps_end_there w m g bytes =
    let steps = (script w m bytes).steps in
    let l = maps-end m steps in
    (l.0, l.1 ∙ ap (λ (k : Map). l.0 ++ k ∷ []) (sym (steps_make_the_map w m bytes)))
