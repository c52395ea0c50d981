-- What the lines of `verify` come to, and what they tell of maps.
use Rattle.std.proofs.Common.{◌≡◌, ℕ, Bool, true, false, nat_le, cond, List, [], ◌∷◌, ◌++◌, length, take, refl, sym, ap, ◌∙◌, Option, Some, None, Result, Ok, Err, arith, length-append}
use Rattle.std.specs.Prelude.{is_ok}
use Rattle.std.specs.List.{AllByRecursion}
use Rattle.std.proofs.lemmas.Bool.{leb-true, leb-false, lt-leb}
use Rattle.std.proofs.lemmas.List.{take_all}
use Rattle.trie_model.specs.Bits.{IsWidth}
use Rattle.trie_model.specs.Maps.{Map, limits}
use Rattle.store_model.specs.Refusals.{Refusal as WhyNotOpened}
use Rattle.text_model.specs.FirstBad.{first_told}
use Rattle.text_model.specs.LineKind.{LineKind}
use Rattle.text_model.specs.Lines.{input_limit, settled_lines, lines_within}
use Rattle.text_model.specs.Texts.{Input}
use Rattle.text_model.specs.Laws.{TellsOverlong}
use Rattle.range_model.specs.Ranges.{Range}
use Rattle.text_model.specs.ReadLine.{Verify, Line, Point, VerifyRange, VerifyChanges, read_line}
use Rattle.text_model.proofs.PointLines.{point_lines_are_within, range_lines_are_within}
use Rattle.text_model.proofs.SettledLines.{told_within, past_limit, whole_lines}
use Rattle.proof_model.specs.Proofs.{PointProof}
use Rattle.proof_model.specs.CheckedBytes.{Cause, unless_refused, checked, point_checked, range_checked, change_checked}
use Rattle.proof_model.specs.Refusals.{Refusal, point_refusal}
use Rattle.proof_model.specs.RangeProofs.{RangeProof, range_refusal}
use Rattle.proof_model.specs.RangeLaws.{AcceptedRangesAreTrue}
use Rattle.proof_model.specs.RangeWire.{range_of}
use Rattle.proof_model.specs.ChangeProofs.{ChangeProof, change_refusal}
use Rattle.proof_model.specs.ChangeLaws.{AcceptedChangesAreTrue}
use Rattle.proof_model.specs.ChangeWire.{changes_of}
use Rattle.proof_model.specs.Laws.{ReadPointsAreSpelled, ReadRangesAreSpelled, ReadChangesAreSpelled}
use Rattle.proof_model.specs.SoundProofs.{AcceptedPointsAreTrue}
use Rattle.proof_model.specs.Wire.{WireFault, point_of}
use Rattle.run_model.specs.End.{End, BadLine, Limit}
use Rattle.run_model.specs.Laws.{DecidedVerifyStays, UndecidedVerifyFinishes, PassedLinesAreTrue, StoreIsAskedAlike}
use Rattle.run_model.specs.Verify.{proof_verdict, range_verdict, listed_verdict, changes_verdict, read_verdict, verdict, tells_changes, asks_store, line_end, passed, come_to_store, end_decided, verify_outcome, ShowsTruth, ShowsTrueRange, ShowsTrueChanges, IsTrueLine}
use Rattle.run_model.proofs.ReadRanges.{nodes_of_path, spelled_claim, spelled_changes}

-- ---- what is decided

-- a line of too many bytes is not understood
pub line_over : (w : ℕ) (found : Result Map WhyNotOpened) → TellsOverlong (line_end w found) BadLine
line_over w found n line h = rw h refl

-- how lines end that are settled within the limit
abbrev settled_end : ℕ → Result Map WhyNotOpened → List ℕ → Option End
settled_end w found front = first_told (line_end w found) 1 (settled_lines (take input_limit front))

pub decided_verify_stays : DecidedVerifyStays
decided_verify_stays w found front rest end = go (settled_end w found front) (nat_le (length front) input_limit) refl refl
  where
    go : (told : Option End) (b : Bool) → settled_end w found front ≡ told → nat_le (length front) input_limit ≡ b → end_decided told b ≡ Some end → (verify_outcome w found (front ++ rest)).end ≡ end
    go (Some e) b told is h =
        let same : e ≡ end = cc h in
        let stays = told_within (line_end w found) BadLine (line_over w found) input_limit front rest 1 e told in
        rw stays same
    go None true told is h = let no : ⊥ = cc h in absurd no
    go None false told is h =
        let same : Limit Input ≡ end = cc h in
        let lt = leb-false (length front) input_limit is in
        let none : first_told (line_end w found) 1 (lines_within input_limit (front ++ rest)) ≡ None = ap (first_told (line_end w found) 1) (past_limit input_limit front rest lt) ∙ told in
        let over : nat_le (length (front ++ rest)) input_limit ≡ false = lt-leb (length (front ++ rest)) input_limit (omega (arith, length-append front rest)) in
        rw (none, over) same

-- where nothing is decided every line passes and the bytes are within the limit
none_decided : (told : Option End) (b : Bool) → end_decided told b ≡ None → (told ≡ None) × (b ≡ true)
none_decided (Some e) b h = let no : ⊥ = cc h in absurd no
none_decided None true h = (refl, refl)
none_decided None false h = let no : ⊥ = cc h in absurd no

pub undecided_verify_finishes : UndecidedVerifyFinishes
undecided_verify_finishes w found front h whole =
    let none = none_decided (settled_end w found front) (nat_le (length front) input_limit) h in
    let all : take input_limit front ≡ front = take_all input_limit front (leb-true (length front) input_limit none.1) in
    let rows : lines_within input_limit front ≡ settled_lines (take input_limit front) = rw none.1 (whole_lines front whole ∙ ap settled_lines (sym all)) in
    let good : first_told (line_end w found) 1 (lines_within input_limit front) ≡ None = ap (first_told (line_end w found) 1) rows ∙ none.0 in
    rw (good, none.1) refl

-- ---- what is true

-- what was checked was read and is not refused
accepted : {A : Type 0} (refuse : A → Option Refusal) (read : Result A WireFault) (p : A) → checked refuse read ≡ Ok p → (read ≡ Ok p) × (refuse p ≡ None)
accepted refuse (Err why) p h = let no : ⊥ = cc h in absurd no
accepted refuse (Ok q) p h = let is = go (refuse q) h in (ap Ok is.0, ap refuse (sym is.0) ∙ is.1)
  where
    go : (o : Option Refusal) → unless_refused q o ≡ Ok p → (q ≡ p) × (o ≡ None)
    go None h = (cc h, refl)
    go (Some why) h = let no : ⊥ = cc h in absurd no

accepted_point : (w : ℕ) (want key bytes : List ℕ) (p : PointProof) → point_checked limits w want key bytes ≡ Ok p → (point_of limits w bytes ≡ Ok p) × (point_refusal w key want p ≡ None)
unfolding point_checked
accepted_point w want key bytes p h = accepted (point_refusal w key want) (point_of limits w bytes) p h

-- a proof that passes
passes_with : (w : ℕ) (want key bytes : List ℕ) (r : Result PointProof Cause) → point_checked limits w want key bytes ≡ r → is_ok (proof_verdict r) ≡ true → (p : PointProof) × (point_checked limits w want key bytes ≡ Ok p)
passes_with w want key bytes (Ok p) is ok = (p, is)
passes_with w want key bytes (Err why) is ok = let no : ⊥ = cc ok in absurd no

accepted_range : (w : ℕ) (want : List ℕ) (asked : Range) (bytes : List ℕ) (p : RangeProof) → range_checked limits w want asked bytes ≡ Ok p → (range_of limits w bytes ≡ Ok p) × (range_refusal w asked want p ≡ None)
unfolding range_checked
accepted_range w want asked bytes p h = accepted (range_refusal w asked want) (range_of limits w bytes) p h

passes_with_range : (w : ℕ) (want : List ℕ) (asked : Range) (bytes : List ℕ) (r : Result RangeProof Cause) → range_checked limits w want asked bytes ≡ r → is_ok (range_verdict r) ≡ true → (p : RangeProof) × (range_checked limits w want asked bytes ≡ Ok p)
passes_with_range w want asked bytes (Ok p) is ok = (p, is)
passes_with_range w want asked bytes (Err why) is ok = let no : ⊥ = cc ok in absurd no

accepted_changes : (w : ℕ) (want : List ℕ) (asked : Range) (local : Map) (bytes : List ℕ) (p : ChangeProof) → change_checked limits w want asked local bytes ≡ Ok p → (changes_of limits w bytes ≡ Ok p) × (change_refusal w asked local want p ≡ None)
unfolding change_checked
accepted_changes w want asked local bytes p h = accepted (change_refusal w asked local want) (changes_of limits w bytes) p h

passes_with_changes : (w : ℕ) (want : List ℕ) (asked : Range) (local : Map) (bytes : List ℕ) (r : Result ChangeProof Cause) → change_checked limits w want asked local bytes ≡ r → is_ok (listed_verdict r) ≡ true → (p : ChangeProof) × (change_checked limits w want asked local bytes ≡ Ok p)
passes_with_changes w want asked local bytes (Ok p) is ok = (p, is)
passes_with_changes w want asked local bytes (Err why) is ok = let no : ⊥ = cc ok in absurd no

-- a line on changes passes only where the store is found to have a map
there : (w : ℕ) (want : List ℕ) (asked : Range) (bytes : List ℕ) (found : Result Map WhyNotOpened) → is_ok (changes_verdict w want asked bytes found) ≡ true → (local : Map) × (found ≡ Ok local) × (is_ok (listed_verdict (change_checked limits w want asked local bytes)) ≡ true)
there w want asked bytes (Ok local) ok = (local, refl, ok)
there w want asked bytes (Err why) ok = let no : ⊥ = cc ok in absurd no

-- what the proofs that are accepted prove, and how those are spelled that are read
pub record Sound : Type 0 where
  pub points : AcceptedPointsAreTrue
  pub points_read : ReadPointsAreSpelled
  pub ranges : AcceptedRangesAreTrue
  pub ranges_read : ReadRangesAreSpelled
  pub changes : AcceptedChangesAreTrue
  pub changes_read : ReadChangesAreSpelled

module _ (sound : Sound) (w : ℕ) (ww : IsWidth w) (found : Result Map WhyNotOpened) where
  true_point : (line : List ℕ) → is_ok (verdict w found line) ≡ true → (want key bytes : List ℕ) → read_line Verify line ≡ Ok (Point want key bytes) → ShowsTruth w want key bytes
  true_point line ok want key bytes read =
      let within = point_lines_are_within line want key bytes read in
      let passes : is_ok (proof_verdict (point_checked limits w want key bytes)) ≡ true = sym (ap (λ r. is_ok (read_verdict w found r)) read) ∙ ok in
      let p = passes_with w want key bytes (point_checked limits w want key bytes) refl passes in
      let a = accepted_point w want key bytes p.0 p.1 in
      let nodes = nodes_of_path w p.0.path (sound.points_read limits w bytes p.0 within.proof_bytes a.0).0.path.nodes in
      record {
        proof = p.0;
        accepted = p.1;
        is_true = λ m is_map e. sound.points limits w key p.0 m ww within.key_bytes within.key_short nodes is_map (ap (λ r. point_refusal w key r p.0) e ∙ a.1);
      }

  true_range : (line : List ℕ) → is_ok (verdict w found line) ≡ true → (want : List ℕ) (asked : Range) (bytes : List ℕ) → read_line Verify line ≡ Ok (VerifyRange want asked bytes) → ShowsTrueRange w want asked bytes
  true_range line ok want asked bytes read =
      let within = range_lines_are_within.0 line want asked bytes read in
      let passes : is_ok (range_verdict (range_checked limits w want asked bytes)) ≡ true = sym (ap (λ r. is_ok (read_verdict w found r)) read) ∙ ok in
      let p = passes_with_range w want asked bytes (range_checked limits w want asked bytes) refl passes in
      let a = accepted_range w want asked bytes p.0 p.1 in
      let spelled = sound.ranges_read limits w bytes p.0 within.proof_bytes a.0 in
      let claim = spelled_claim w p.0 bytes within.proof_bytes spelled.0 spelled.1 in
      record {
        proof = p.0;
        accepted = p.1;
        is_true = λ m is_map e. sound.ranges limits w asked p.0 m ww within.range claim is_map (ap (λ r. range_refusal w asked r p.0) e ∙ a.1);
      }

  true_changes : (line : List ℕ) → is_ok (verdict w found line) ≡ true → (want : List ℕ) (asked : Range) (bytes : List ℕ) → read_line Verify line ≡ Ok (VerifyChanges want asked bytes) → ShowsTrueChanges w found want asked bytes
  true_changes line ok want asked bytes read =
      let within = range_lines_are_within.1 line want asked bytes read in
      let passes : is_ok (changes_verdict w want asked bytes found) ≡ true = sym (ap (λ r. is_ok (read_verdict w found r)) read) ∙ ok in
      let l = there w want asked bytes found passes in
      let p = passes_with_changes w want asked l.0 bytes (change_checked limits w want asked l.0 bytes) refl l.2 in
      let a = accepted_changes w want asked l.0 bytes p.0 p.1 in
      let spelled = sound.changes_read limits w bytes p.0 within.proof_bytes a.0 in
      let claim = spelled_changes w p.0 bytes within.proof_bytes spelled.0 spelled.1 in
      record {
        local = l.0;
        is_there = l.1;
        proof = p.0;
        accepted = p.1;
        is_true = λ is_local m is_map e. sound.changes limits w asked l.0 p.0 m ww within.range claim is_local is_map (ap (λ r. change_refusal w asked l.0 r p.0) e ∙ a.1);
      }

  true_line : (line : List ℕ) → is_ok (verdict w found line) ≡ true → IsTrueLine w found line
  true_line line ok = record { point = true_point line ok; range = true_range line ok; changes = true_changes line ok }

  pub true_lines : (lines : List (List ℕ)) → AllByRecursion (IsTrueLine w found) (passed w found lines)
  true_lines [] = tt
  true_lines (line ∷ lines) = go (is_ok (verdict w found line)) refl (true_lines lines)
    where
      go : (b : Bool) → is_ok (verdict w found line) ≡ b → AllByRecursion (IsTrueLine w found) (passed w found lines) → AllByRecursion (IsTrueLine w found) (cond b (line ∷ passed w found lines) [])
      go true ok later = (true_line line ok, later)
      go false bad later = tt

pub passed_lines_are_true : Sound → PassedLinesAreTrue
passed_lines_are_true sound w found lines ww = true_lines sound w ww found lines

-- ---- the store

-- a line that does not ask for the store comes to the same, whatever that is found to be
alike : (w : ℕ) (a b : Result Map WhyNotOpened) (read : Result Line LineKind) → tells_changes read ≡ false → read_verdict w a read ≡ read_verdict w b read
alike w a b (Err kind) h = refl
alike w a b (Ok (VerifyChanges want asked bytes)) h = let no : ⊥ = cc h in absurd no
alike w a b (Ok other) h = refl

pub alone : (w : ℕ) (a b : Result Map WhyNotOpened) (line : List ℕ) → asks_store line ≡ false → verdict w a line ≡ verdict w b line
alone w a b line h = alike w a b (read_line Verify line) h

pub store_is_asked_alike : StoreIsAskedAlike
store_is_asked_alike w a b [] = refl
store_is_asked_alike w a b (line ∷ lines) = go (asks_store line) refl (store_is_asked_alike w a b lines)
  where
    go : (asks : Bool) → asks_store line ≡ asks → come_to_store w a lines ≡ come_to_store w b lines
        → cond asks true (cond (is_ok (verdict w a line)) (come_to_store w a lines) false) ≡ cond asks true (cond (is_ok (verdict w b line)) (come_to_store w b lines) false)
    go true is later = refl
    go false is later = rw (alone w a b line is, later) refl
