-- A script: the lines of an input, one after another.
use Rattle.std.specs.Prelude.{ℕ, suc, ◌-◌, Bool, true, false, nat_lt, nat_le, if◌then◌else◌, List, [], ◌∷◌, ◌++◌, length, take, Option, Some, None, Result, Ok, Err}
use Rattle.std.specs.List.{flat_map, filter_map, cons_option}
use Rattle.trie_model.specs.Maps.{Map}
use Rattle.batch_model.specs.Batch.{Change, after_batch}
use Rattle.text_model.specs.Lines.{input_limit, settled_lines, lines_within}
use Rattle.text_model.specs.Texts.{LimitKind, Input}
use Rattle.session_model.specs.Session.{Session, Step, Stop, Limit, start, commit, step}

-- what lines came to: where the session stands, what the lines did, and why they were left, if they were not all done
pub record Played : Type 0 where
  pub session : Session
  pub steps : List Step
  pub stop : Option Stop

-- a line, and then the others
abbrev pub then_play : Session → Result (Session × Step) Stop → (Session → Played) → Played
then_play s (Err stop) others = record { session = s; steps = []; stop = Some stop }
then_play s (Ok next) others = let p = others next.0 in record { session = p.session; steps = next.1 ∷ p.steps; stop = p.stop }

-- lines, of which the first has this number
abbrev pub play : ℕ → ℕ → Session → List (List ℕ) → Played
play w number s [] = record { session = s; steps = []; stop = None }
play w number s (line ∷ lines) = then_play s (step w number s line) (λ next. play w (suc number) next lines)

-- one step more at the end, or a limit
abbrev pub and_then : Played → Result (Session × Step) LimitKind → Played
and_then p (Ok next) = record { session = next.0; steps = p.steps ++ next.1 ∷ []; stop = None }
and_then p (Err kind) = record { session = p.session; steps = p.steps; stop = Some (Limit kind) }

-- at the end of an input what is pending is committed, if anything is
abbrev pub at_end : ℕ → Played → List Change → Played
at_end w p [] = p
at_end w p (c ∷ cs) = and_then p (commit w p.session)

-- by why the lines were left, if they were not all done, and whether the input is within its limit
abbrev pub ended : ℕ → Played → Option Stop → Bool → Played
ended w p (Some stop) within = p
ended w p None false = record p { stop = Some (Limit Input) }
ended w p None true = at_end w p p.session.pending

-- the script of a whole input on the store of a map, with tokens of w bits
abbrev pub script : ℕ → Map → List ℕ → Played
script w m bytes = let p = play w 1 (start m) (lines_within input_limit bytes) in ended w p p.stop (nat_le (length bytes) input_limit)

-- why a script stops by the first bytes of its input, whatever bytes follow, where they decide it
abbrev pub decided_of : Option Stop → Bool → Option Stop
decided_of (Some stop) within = Some stop
decided_of None true = None
decided_of None false = Some (Limit Input)

abbrev pub decided : ℕ → Map → List ℕ → Option Stop
decided w m front = decided_of (play w 1 (start m) (settled_lines (take input_limit front))).stop (nat_le (length front) input_limit)

-- ---- what steps printed and committed

abbrev pub text_of : List Step → List ℕ
text_of steps = flat_map (λ (s : Step). s.text) steps

-- the batches that were committed, directly or by a view
abbrev pub batches_of : List Step → List (List Change)
batches_of steps = filter_map (λ (s : Step). s.committed) steps

abbrev pub after_step : Map → Option (List Change) → Map
after_step m None = m
after_step m (Some batch) = after_batch m batch

-- the map after steps
abbrev pub after_steps : Map → List Step → Map
after_steps m [] = m
after_steps m (s ∷ steps) = after_steps (after_step m s.committed) steps

-- ---- what was acknowledged

-- the batches of which the first n bytes of the text have the whole line, be it that of a commit or of a view
abbrev pub acknowledged : ℕ → List Step → List (List Change)
acknowledged n [] = []
acknowledged n (s ∷ steps) = if nat_lt n (length s.text) then [] else cons_option s.committed (acknowledged (n - length s.text) steps)

-- ---- a whole session

-- the maps of a store: that before batches, and that after each of them
abbrev pub maps_from : Map → List (List Change) → List Map
maps_from m [] = m ∷ []
maps_from m (batch ∷ batches) = m ∷ maps_from (after_batch m batch) batches

-- what is known of a store after a script: the text that was printed, its maps, and the generation of its journal
pub record Told : Type 0 where
  pub text : List ℕ
  pub maps : List Map
  pub generation : ℕ

-- the session of a whole input, on a store of this map and generation; no line makes a new generation
abbrev pub session : ℕ → Map → ℕ → List ℕ → Told
session w m generation bytes =
    let steps = (script w m bytes).steps in
    record { text = text_of steps; maps = maps_from m (batches_of steps); generation = generation }
