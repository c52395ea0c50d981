-- The maps that a script holds, and all maps of its session.
use Rattle.std.proofs.Common.{◌≡◌, ℕ, suc, Bool, true, false, nat_le, List, [], ◌∷◌, ◌++◌, length, refl, sym, ap, ◌∙◌, append_assoc, Option, Some, None, Result, Ok, Err}
use Rattle.std.specs.Prelude.{reverse}
use Rattle.std.proofs.lemmas.List.{append-nil, reverse-append}
use Rattle.std.specs.Result.{IfOk}
use Rattle.std.specs.List.{cons_option}
use Rattle.trie_model.specs.Maps.{Map}
use Rattle.batch_model.specs.Batch.{Change, after_batch}
use Rattle.text_model.specs.Texts.{LimitKind}
use Rattle.text_model.specs.Lines.{input_limit, lines_within}
use Rattle.history_model.specs.Held.{commit_limit, weight_limit, held}
use Rattle.history_model.proofs.Cuts.{cuts_are_one}
use Rattle.session_model.specs.MapsByRoot.{Holding, holds_first, holds_next}
use Rattle.session_model.specs.Session.{Session, Step, Stop, start, commit, step}
use Rattle.session_model.specs.Script.{Played, then_play, play, and_then, at_end, ended, script, batches_of, after_step, after_steps, maps_from}
use Rattle.session_model.specs.Laws.{HeldOfAllMaps}
use Rattle.session_model.proofs.Outcomes.{Holds, of_commit, of_step}
use Rattle.session_model.proofs.MapsOfScripts.{Moves, step-map, play-map}

-- ---- what is held after steps

-- after a step from this map
abbrev pub held_step : Holding → Map → Option (List Change) → Holding
held_step h m None = h
held_step h m (Some batch) = holds_next h (after_batch m batch)

abbrev pub held_steps : Holding → Map → List Step → Holding
held_steps h m [] = h
held_steps h m (s ∷ steps) = held_steps (held_step h m s.committed) (after_step m s.committed) steps

held_steps-append : (h : Holding) (m : Map) (steps : List Step) (s : Step) → held_steps h m (steps ++ s ∷ []) ≡ held_step (held_steps h m steps) (after_steps m steps) s.committed
held_steps-append h m [] s = refl
held_steps-append h m (t ∷ steps) s = held_steps-append (held_step h m t.committed) (after_step m t.committed) steps s

-- what a line leaves held is what its step does
abbrev HoldsSo : Session → Session × Step → Type 0
HoldsSo s next = next.0.holding ≡ held_step s.holding s.map next.1.committed

abbrev HoldsAfter : Holding → Map → Played → Type 0
HoldsAfter h m p = p.session.holding ≡ held_steps h m p.steps

holds_so : (w : ℕ) (s : Session) → Holds (HoldsSo s) w s
holds_so w s = record {
  still = λ t none. ap (held_step s.holding s.map) (sym none);
  pends = λ key value asks. refl;
  commits = refl;
  drops = λ cause. refl;
  views = λ place may. refl;
  takes = λ n may. refl;
  closes = λ n. refl;
}

commit-held : (w : ℕ) (s : Session) → IfOk (commit w s) (HoldsSo s)
commit-held w s = of_commit (HoldsSo s) w s refl

step-held : (w n : ℕ) (s : Session) (line : List ℕ) → IfOk (step w n s line) (HoldsSo s)
step-held w n s line = of_step (HoldsSo s) w s (holds_so w s) n line

play-held : (w n : ℕ) (s : Session) (lines : List (List ℕ)) → HoldsAfter s.holding s.map (play w n s lines)
play-held w n s [] = refl
play-held w n s (line ∷ lines) = go (step w n s line) (step-held w n s line) (step-map w n s line) (λ t. play-held w (suc n) t lines)
  where
    go : (r : Result (Session × Step) Stop) → IfOk r (HoldsSo s) → IfOk r (Moves s.map) → ((t : Session) → HoldsAfter t.holding t.map (play w (suc n) t lines))
        → HoldsAfter s.holding s.map (then_play s r (λ (t : Session). play w (suc n) t lines))
    go (Err stop) so moves later = refl
    go (Ok next) so moves later =
        later next.0
        ∙ ap (λ (h : Holding). held_steps h next.0.map (play w (suc n) next.0 lines).steps) so
        ∙ ap (λ (m : Map). held_steps (held_step s.holding s.map next.1.committed) m (play w (suc n) next.0 lines).steps) moves

-- lines, and then what is pending at their end
module _ (h : Holding) (m : Map) (p : Played) (is : HoldsAfter h m p) (at : p.session.map ≡ after_steps m p.steps) where
  and_then-held : (r : Result (Session × Step) LimitKind) → IfOk r (HoldsSo p.session) → HoldsAfter h m (and_then p r)
  and_then-held (Ok next) so =
      so
      ∙ ap (λ (k : Map). held_step p.session.holding k next.1.committed) at
      ∙ ap (λ (k : Holding). held_step k (after_steps m p.steps) next.1.committed) is
      ∙ sym (held_steps-append h m p.steps next.1)
  and_then-held (Err kind) so = is

  at_end-held : (w : ℕ) (cs : List Change) → HoldsAfter h m (at_end w p cs)
  at_end-held w [] = is
  at_end-held w (c ∷ cs) = and_then-held (commit w p.session) (commit-held w p.session)

  ended-held : (w : ℕ) (stop : Option Stop) (within : Bool) → HoldsAfter h m (ended w p stop within)
  ended-held w (Some stop) within = is
  ended-held w None false = is
  ended-held w None true = at_end-held w p.session.pending

script-held : (w : ℕ) (m : Map) (bytes : List ℕ) → (script w m bytes).session.holding ≡ held_steps (holds_first m) m (script w m bytes).steps
script-held w m bytes =
    let s = start m in
    let lines = lines_within input_limit bytes in
    let p = play w 1 s lines in
    ended-held (holds_first m) m p (play-held w 1 s lines) (play-map w 1 s lines) w p.stop (nat_le (length bytes) input_limit)

-- ---- all maps

-- the maps behind the present one
abbrev IsOf : Holding → Map → List Map → Type 0
IsOf h m ms = (h.commits ≡ commit_limit) × (h.weight ≡ weight_limit) × (h.maps ≡ held commit_limit weight_limit (m ∷ ms))

-- one commit more, of which the list is cut again
next-is : (h : Holding) (m l : Map) (ms : List Map) → IsOf h m ms → IsOf (holds_next h l) l (m ∷ ms)
next-is h m l ms is = (is.0, is.1, cut ∙ cuts_are_one commit_limit weight_limit l (m ∷ ms))
  where
    cut : held h.commits h.weight (l ∷ h.maps) ≡ held commit_limit weight_limit (l ∷ held commit_limit weight_limit (m ∷ ms))
    cut =
        ap (λ n. held n h.weight (l ∷ h.maps)) is.0
        ∙ ap (λ z. held commit_limit z (l ∷ h.maps)) is.1
        ∙ ap (λ (maps : List Map). held commit_limit weight_limit (l ∷ maps)) is.2

-- a list behind another one, of which the last stands first
turned : (m : Map) (maps ms : List Map) → reverse (m ∷ maps) ++ ms ≡ reverse maps ++ m ∷ ms
turned m maps ms = ap (λ (r : List Map). r ++ ms) (reverse-append (m ∷ []) maps) ∙ append_assoc (reverse maps) (m ∷ []) ms

all-held : (steps : List Step) (h : Holding) (m : Map) (ms : List Map) → IsOf h m ms → (held_steps h m steps).maps ≡ held commit_limit weight_limit (reverse (maps_from m (batches_of steps)) ++ ms)
all-held [] h m ms is = is.2
all-held (s ∷ steps) h m ms is = go s.committed (λ k l ls. all-held steps k l ls)
  where
    go : (o : Option (List Change)) → ((k : Holding) (l : Map) (ls : List Map) → IsOf k l ls → (held_steps k l steps).maps ≡ held commit_limit weight_limit (reverse (maps_from l (batches_of steps)) ++ ls))
        → (held_steps (held_step h m o) (after_step m o) steps).maps ≡ held commit_limit weight_limit (reverse (maps_from m (cons_option o (batches_of steps))) ++ ms)
    go None later = later h m ms is
    go (Some batch) later =
        let l = after_batch m batch in
        later (holds_next h l) l (m ∷ ms) (next-is h m l ms is)
        ∙ ap (held commit_limit weight_limit) (sym (turned m (maps_from l (batches_of steps)) ms))

pub held_of_all_maps : HeldOfAllMaps
held_of_all_maps w m g bytes =
    let steps = (script w m bytes).steps in
    let maps = reverse (maps_from m (batches_of steps)) in
    ap (λ (h : Holding). h.maps) (script-held w m bytes)
    ∙ all-held steps (holds_first m) m [] (refl, refl, refl)
    ∙ ap (held commit_limit weight_limit) (append-nil maps)
