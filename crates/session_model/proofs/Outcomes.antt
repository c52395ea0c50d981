-- What a line of a script comes to.
use Rattle.std.proofs.Common.{◌≡◌, ℕ, Bool, true, false, nat_le, cond, List, [], length, refl, Option, Some, None, Result, Ok, Err}
use Rattle.std.specs.Prelude.{nat_lt, codes}
use Rattle.std.specs.Result.{IfOk}
use Rattle.std.specs.FinMap as map_of
use Rattle.trie_model.specs.Maps.{Map, limits, root}
use Rattle.batch_model.specs.Batch.{IsChange, after_batch}
use Rattle.text_model.specs.LineKind.{LineKind}
use Rattle.text_model.specs.ReadLine.{Line, Skip, Put, Del, Commit, View, Take, Close, State, Get, Root, Prove, Point, RangeOf, ChangesOf, VerifyRange, VerifyChanges, Script, read_line}
use Rattle.text_model.specs.Texts.{LimitKind, Pairs, Batch, closed_text, value_text, root_text, proof_text, range_text, changes_text}
use Rattle.text_model.specs.Words.{PlaceWord}
use Rattle.text_model.proofs.EachLine.{OfScript, of_script}
use Rattle.view_model.specs.Calls.{Refusal, number_limit, view_refused, parent_refused, make_refused, closed}
use Rattle.view_model.specs.Forest.{ViewState, state, payload}
use Rattle.session_model.specs.Limits.{pairs_limit, payload_limit}
use Rattle.session_model.specs.Refusals.{cause_words, take_refused}
use Rattle.session_model.specs.MapsByRoot.{proved, range_proved, changes_proved, not_held}
use Rattle.session_model.specs.Session.{Session, Step, quiet, prints, refuses, pend, committed, commit_step, commit, view_at, map_at, viewed, view_step, view_unless, view, taken, taken_map, take_step, take_unless, take as take_view, close_unless, close, told_state, told_unless, told, told_proof, told_range, told_changes, line_step, or_limit, read_step, step}

-- ---- what lines ask for

-- a change within the limits
abbrev pub IsLimited : List ℕ → Option (List ℕ) → Type 0
IsLimited key value = IsChange limits (record { key = key; value = value })

-- a line that changes a map does so within the limits
abbrev pub Asks : Line → Type 0
Asks (Put key value) = IsLimited key (Some value)
Asks (Del key) = IsLimited key None
Asks other = Unit {0}

-- lines that change no map ask for nothing
each_asks : OfScript Asks
each_asks = record {
  skip = tt;
  put = λ key value k v. record { key = k; value = v };
  del = λ key k. record { key = k; value = tt };
  commit = tt;
  view = λ place. tt;
  take = λ n. tt;
  close = λ n. tt;
  state = λ n. tt;
  get = λ place key. tt;
  root = λ place. tt;
  prove = λ word key. tt;
  range = λ word asked pairs bytes h. tt;
  changes = λ from to asked pairs bytes h. tt;
}

lines_ask : (line : List ℕ) → IfOk (read_line Script line) Asks
lines_ask line = of_script Asks each_asks line

-- ---- what lines come to

-- what holds of each session and step that a line may come to holds of a line
pub record Holds (P : Session × Step → Type 0) (w : ℕ) (s : Session) : Type 0 where
  -- nothing changes and nothing is committed
  pub still : (t : Step) → t.committed ≡ None → P (s, t)
  pub pends : (key : List ℕ) (value : Option (List ℕ)) → IsLimited key value → P (pend s key value, quiet)
  pub commits : P (committed s, commit_step w s)
  pub drops : (cause : List ℕ) → P (record s { pending = [] }, refuses cause)
  pub views : (place : PlaceWord) → make_refused s.views (view_at place) s.pending ≡ None → P (viewed s place, view_step w s place)
  pub takes : (n : ℕ) → take_refused s.views n ≡ None → P (taken s n, take_step w s n)
  pub closes : (n : ℕ) → P (record s { views = closed s.views n }, prints (closed_text n))

-- a choice of two results, of which each has a value with a property or none
one_of : {E : Type 0} (P : Session × Step → Type 0) (test : Bool) (x y : Result (Session × Step) E) → IfOk x P → IfOk y P → IfOk (cond test x y) P
one_of P true x y h k = h
one_of P false x y h k = k

pub or_limit-ok : (P : Session × Step → Type 0) (r : Result (Session × Step) LimitKind) → IfOk r P → IfOk (or_limit r) P
or_limit-ok P (Ok next) h = h
or_limit-ok P (Err kind) h = tt

-- what holds after a commit holds wherever a commit is within the limits
pub of_commit : (P : Session × Step → Type 0) (w : ℕ) (s : Session) → P (committed s, commit_step w s) → IfOk (commit w s) P
of_commit P w s h =
    one_of P (nat_le number_limit (length s.views.views)) (Err Batch) _ tt
    (one_of P (nat_lt payload_limit (payload s.pending)) (Err Batch) _ tt
    (one_of P (nat_lt pairs_limit (map_of.len (after_batch s.map s.pending))) (Err Pairs) (Ok (committed s, commit_step w s)) tt h))

module _ (P : Session × Step → Type 0) (w : ℕ) (s : Session) (h : Holds P w s) where
  of_view : (place : PlaceWord) → IfOk (view w s place) P
  of_view place = go (make_refused s.views (view_at place) s.pending) refl
    where
      go : (why : Option Refusal) → make_refused s.views (view_at place) s.pending ≡ why → IfOk (view_unless w s place why) P
      go (Some why) is = h.drops (cause_words why)
      go None may = one_of P (nat_lt payload_limit (payload s.pending)) (Err Batch) (Ok (viewed s place, view_step w s place)) tt (h.views place may)

  of_take : (n : ℕ) → IfOk (take_view w s n) P
  of_take n = go (take_refused s.views n) refl
    where
      go : (cause : Option (List ℕ)) → take_refused s.views n ≡ cause → IfOk (take_unless w s n cause) P
      go (Some cause) is = h.still (refuses cause) refl
      go None may = one_of P (nat_lt pairs_limit (map_of.len (taken_map s n))) (Err Pairs) (Ok (taken s n, take_step w s n)) tt (h.takes n may)

  of_close : (n : ℕ) → P (close s n)
  of_close n = go (view_refused s.views n)
    where
      go : (why : Option Refusal) → P (close_unless s n why)
      go (Some why) = h.still (refuses (cause_words why)) refl
      go None = h.closes n

  of_state : (n : ℕ) → P (s, told_state n (state s.views n))
  of_state n = go (state s.views n)
    where
      go : (found : Option ViewState) → P (s, told_state n found)
      go None = h.still (refuses (codes "unknown")) refl
      go (Some found) = h.still (told_state n (Some found)) refl

  of_told : (place : PlaceWord) (text : Map → List ℕ) → P (s, told s place text)
  of_told place text = go (parent_refused s.views (view_at place))
    where
      go : (why : Option Refusal) → P (s, told_unless why (text (map_at s place)))
      go (Some why) = h.still (refuses (cause_words why)) refl
      go None = h.still (prints (text (map_at s place))) refl

  of_proof : (found : Option (List ℕ)) → P (s, told_proof found)
  of_proof None = h.still (refuses not_held) refl
  of_proof (Some bytes) = h.still (prints (proof_text bytes)) refl

  of_range : (found : Option (List ℕ)) → P (s, told_range found)
  of_range None = h.still (refuses not_held) refl
  of_range (Some bytes) = h.still (prints (range_text bytes)) refl

  of_changes : (found : Option (List ℕ)) → P (s, told_changes found)
  of_changes None = h.still (refuses not_held) refl
  of_changes (Some bytes) = h.still (prints (changes_text bytes)) refl

  of_line : (line : Line) → Asks line → IfOk (line_step w s line) P
  of_line Skip asks = h.still quiet refl
  of_line (Put key value) asks = h.pends key (Some value) asks
  of_line (Del key) asks = h.pends key None asks
  of_line Commit asks = of_commit P w s h.commits
  of_line (View place) asks = of_view place
  of_line (Take n) asks = of_take n
  of_line (Close n) asks = of_close n
  of_line (State n) asks = of_state n
  of_line (Get place key) asks = of_told place (λ m. value_text (map_of.get m key))
  of_line (Root place) asks = of_told place (λ m. root_text (root w m))
  of_line (Prove word key) asks = of_proof (proved w s.holding.maps word key)
  of_line (Point root key proof) asks = h.still quiet refl
  of_line (RangeOf word asked pairs bytes) asks = of_range (range_proved w s.holding.maps word asked pairs bytes)
  of_line (ChangesOf from to asked pairs bytes) asks = of_changes (changes_proved w s.holding.maps from to asked pairs bytes)
  of_line (VerifyRange root asked proof) asks = h.still quiet refl
  of_line (VerifyChanges root asked proof) asks = h.still quiet refl

  of_read : (n : ℕ) (read : Result Line LineKind) → IfOk read Asks → IfOk (read_step w n s read) P
  of_read n (Err kind) asks = tt
  of_read n (Ok line) asks = or_limit-ok P (line_step w s line) (of_line line asks)

  -- a line of any number
  pub of_step : (n : ℕ) (line : List ℕ) → IfOk (step w n s line) P
  of_step n line = of_read n (read_line Script line) (lines_ask line)
