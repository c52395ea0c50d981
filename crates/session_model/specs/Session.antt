-- What each line of a script does to a store and its views.
use Rattle.std.specs.Prelude.{ℕ, nat_lt, nat_le, if◌then◌else◌, List, [], length, codes, Option, Some, None, Result, Ok, Err}
use Rattle.std.specs.FinMap as map_of
use Rattle.trie_model.specs.Maps.{Map, root}
use Rattle.batch_model.specs.Batch.{Change, set_change, after_batch}
use Rattle.text_model.specs.LineKind.{LineKind}
use Rattle.text_model.specs.ReadLine.{Line, Skip, Put, Del, Commit, View, Take, Close, State, Get, Root, Prove, Point, RangeOf, ChangesOf, VerifyRange, VerifyChanges, Script, read_line}
use Rattle.text_model.specs.Texts.{LimitKind, Pairs, Batch, commit_text, view_text, taken_text, closed_text, state_text, refused_text, value_text, root_text, proof_text, range_text, changes_text}
use Rattle.text_model.specs.Words.{PlaceWord, Db, View as OfView}
use Rattle.view_model.specs.Calls.{Refusal, number_limit, view_refused, parent_refused, make_refused, made, directed, closed, committed as with_committed}
use Rattle.view_model.specs.Forest.{Forest, ViewState, no_views, state, next_number, payload}
use Rattle.view_model.specs.Maps.{changes_of, view_map}
use Rattle.session_model.specs.Limits.{pairs_limit, payload_limit}
use Rattle.session_model.specs.Refusals.{state_word, cause_words, take_refused}
use Rattle.session_model.specs.MapsByRoot.{Holding, holds_first, holds_next, proved, range_proved, changes_proved, not_held}

-- a script at work: the map of the store, the maps that it holds, the views, and the changes that no commit and no view has
-- taken so far
pub record Session : Type 0 where
  pub map : Map
  pub holding : Holding
  pub views : Forest
  pub pending : List Change

-- what a line did: the text that it printed, and the batch that it committed, if it committed one
pub record Step : Type 0 where
  pub text : List ℕ
  pub committed : Option (List Change)

-- why a script stops before its end
pub data Stop : Type 0 where
  -- the line of this number is the first outside the grammar
  BadLine : ℕ → Stop
  -- a count reached its limit
  Limit : LimitKind → Stop

-- before the first line
abbrev pub start : Map → Session
start m = record { map = m; holding = holds_first m; views = no_views; pending = [] }

-- a text is printed, and nothing is committed
abbrev pub prints : List ℕ → Step
prints text = record { text = text; committed = None }

-- nothing printed, nothing committed
abbrev pub quiet : Step
quiet = prints []

-- a line is refused, and prints why
abbrev pub refuses : List ℕ → Step
refuses cause = prints (refused_text cause)

-- ---- changes

-- a change more, in the place of an earlier one on its key
abbrev pub pend : Session → List ℕ → Option (List ℕ) → Session
pend s key value = record s { pending = set_change s.pending (record { key = key; value = value }) }

-- ---- commits

-- the session after its pending batch was committed, whatever its limits
abbrev pub committed : Session → Session
committed s = let m = after_batch s.map s.pending in record { map = m; holding = holds_next s.holding m; views = directed s.views; pending = [] }

-- what that prints, with tokens of w bits: the number of the batch and the root after it
abbrev pub commit_step : ℕ → Session → Step
commit_step w s = record { text = commit_text (next_number s.views) (root w (after_batch s.map s.pending)); committed = Some s.pending }

-- the pending batch is committed, or a limit was reached
abbrev pub commit : ℕ → Session → Result (Session × Step) LimitKind
commit w s =
    if nat_le number_limit (length s.views.views) then Err Batch
    else if nat_lt payload_limit (payload s.pending) then Err Batch
    else if nat_lt pairs_limit (map_of.len (after_batch s.map s.pending)) then Err Pairs
    else Ok (committed s, commit_step w s)

-- ---- places

-- the number of a view, if a place is one
abbrev pub view_at : PlaceWord → Option ℕ
view_at Db = None
view_at (OfView n) = Some n

-- the map of a place
abbrev pub map_at : Session → PlaceWord → Map
map_at s Db = s.map
map_at s (OfView n) = view_map s.views s.map n

-- ---- views

-- the session after its pending batch became a view on a place
abbrev pub viewed : Session → PlaceWord → Session
viewed s place = record s { views = made s.views (view_at place) s.pending; pending = [] }

-- what that prints: the number of the view, and the root of its map
abbrev pub view_step : ℕ → Session → PlaceWord → Step
view_step w s place = prints (view_text (next_number s.views) (root w (after_batch (map_at s place) s.pending)))

-- unless it is refused, the pending batch becomes a view, or a limit was reached; either way it is pending no longer
abbrev pub view_unless : ℕ → Session → PlaceWord → Option Refusal → Result (Session × Step) LimitKind
view_unless w s place (Some why) = Ok (record s { pending = [] }, refuses (cause_words why))
view_unless w s place None = if nat_lt payload_limit (payload s.pending) then Err Batch else Ok (viewed s place, view_step w s place)

abbrev pub view : ℕ → Session → PlaceWord → Result (Session × Step) LimitKind
view w s place = view_unless w s place (make_refused s.views (view_at place) s.pending)

-- the map after the view of a number is committed
abbrev pub taken_map : Session → ℕ → Map
taken_map s n = after_batch s.map (changes_of s.views n)

-- the session after a view was committed
abbrev pub taken : Session → ℕ → Session
taken s n = record s { map = taken_map s n; holding = holds_next s.holding (taken_map s n); views = with_committed s.views n }

-- what that prints: the number of the view, and the root after it
abbrev pub take_step : ℕ → Session → ℕ → Step
take_step w s n = record { text = taken_text n (root w (taken_map s n)); committed = Some (changes_of s.views n) }

-- unless it is refused, a view is committed, or a limit was reached
abbrev pub take_unless : ℕ → Session → ℕ → Option (List ℕ) → Result (Session × Step) LimitKind
take_unless w s n (Some cause) = Ok (s, refuses cause)
take_unless w s n None = if nat_lt pairs_limit (map_of.len (taken_map s n)) then Err Pairs else Ok (taken s n, take_step w s n)

abbrev pub take : ℕ → Session → ℕ → Result (Session × Step) LimitKind
take w s n = take_unless w s n (take_refused s.views n)

-- unless it is refused, a view is closed
abbrev pub close_unless : Session → ℕ → Option Refusal → Session × Step
close_unless s n (Some why) = (s, refuses (cause_words why))
close_unless s n None = (record s { views = closed s.views n }, prints (closed_text n))

abbrev pub close : Session → ℕ → Session × Step
close s n = close_unless s n (view_refused s.views n)

-- ---- lines that only read

-- how a view stands
abbrev pub told_state : ℕ → Option ViewState → Step
told_state n None = refuses (codes "unknown")
told_state n (Some state) = prints (state_text n (state_word state))

-- unless a place is refused, its map is told
abbrev pub told_unless : Option Refusal → List ℕ → Step
told_unless (Some why) text = refuses (cause_words why)
told_unless None text = prints text

-- what is told of the map of a place, without what is pending
abbrev pub told : Session → PlaceWord → (Map → List ℕ) → Step
told s place text_of = told_unless (parent_refused s.views (view_at place)) (text_of (map_at s place))

-- what is told of a proof, where there is a map that it is of
abbrev pub told_proof : Option (List ℕ) → Step
told_proof None = refuses not_held
told_proof (Some bytes) = prints (proof_text bytes)

-- so of the proof of a range
abbrev pub told_range : Option (List ℕ) → Step
told_range None = refuses not_held
told_range (Some bytes) = prints (range_text bytes)

-- so of the proof of changes
abbrev pub told_changes : Option (List ℕ) → Step
told_changes None = refuses not_held
told_changes (Some bytes) = prints (changes_text bytes)

-- ---- a line

-- what a line does. A script has no lines that check a proof
abbrev pub line_step : ℕ → Session → Line → Result (Session × Step) LimitKind
line_step w s Skip = Ok (s, quiet)
line_step w s (Put key value) = Ok (pend s key (Some value), quiet)
line_step w s (Del key) = Ok (pend s key None, quiet)
line_step w s Commit = commit w s
line_step w s (View place) = view w s place
line_step w s (Take n) = take w s n
line_step w s (Close n) = Ok (close s n)
line_step w s (State n) = Ok (s, told_state n (state s.views n))
line_step w s (Get place key) = Ok (s, told s place (λ m. value_text (map_of.get m key)))
line_step w s (Root place) = Ok (s, told s place (λ m. root_text (root w m)))
line_step w s (Prove word key) = Ok (s, told_proof (proved w s.holding.maps word key))
line_step w s (Point root key proof) = Ok (s, quiet)
line_step w s (RangeOf word asked pairs bytes) = Ok (s, told_range (range_proved w s.holding.maps word asked pairs bytes))
line_step w s (ChangesOf from to asked pairs bytes) = Ok (s, told_changes (changes_proved w s.holding.maps from to asked pairs bytes))
line_step w s (VerifyRange root asked proof) = Ok (s, quiet)
line_step w s (VerifyChanges root asked proof) = Ok (s, quiet)

abbrev pub or_limit : Result (Session × Step) LimitKind → Result (Session × Step) Stop
or_limit (Ok next) = Ok next
or_limit (Err kind) = Err (Limit kind)

-- what was read of the line of this number, and what it does
abbrev pub read_step : ℕ → ℕ → Session → Result Line LineKind → Result (Session × Step) Stop
read_step w number s (Ok line) = or_limit (line_step w s line)
read_step w number s (Err kind) = Err (BadLine number)

-- what the line of this number does
abbrev pub step : ℕ → ℕ → Session → List ℕ → Result (Session × Step) Stop
step w number s line = read_step w number s (read_line Script line)
