-- The command `verify`: lines that tell of proofs, each checked against the root that stands in it. Changes are checked against the
-- map of the store, too, which is opened at the first line that tells of some.
use Rattle.std.specs.Prelude.{◌≡◌, ◌≢◌, ◌⊎◌, ℕ, Bool, true, false, nat_le, if◌then◌else◌, is_ok, List, [], ◌∷◌, length, take, Option, Some, None, IfSome, Result, Ok, Err}
use Rattle.std.specs.FinMap as map_of
use Rattle.std.specs.List.{flat_map, AllByRecursion}
use Rattle.base_model.specs.Streams.{AtEnd}
use Rattle.disk_model.specs.Words.{TellsImages}
use Rattle.trie_model.specs.Maps.{Map, IsMap, limits, root, map_strings}
use Rattle.trie_model.specs.Strings.{Break}
use Rattle.range_model.specs.Ranges.{Range}
use Rattle.batch_model.specs.Batch.{after_batch}
use Rattle.store_model.specs.Journal.{Stands}
use Rattle.store_model.specs.Openings.{Opens}
use Rattle.store_model.specs.Refusals.{Refusal}
use Rattle.text_model.specs.FirstBad.{first_told}
use Rattle.text_model.specs.LineKind.{LineKind}
use Rattle.text_model.specs.Lines.{input_limit, settled_lines, lines_within}
use Rattle.text_model.specs.ReadLine.{Verify, Line, Point, VerifyRange, VerifyChanges, read_line}
use Rattle.text_model.specs.Texts.{LimitKind, Input, ok_text}
use Rattle.proof_model.specs.Claims.{claim_strings, point_claim}
use Rattle.proof_model.specs.Proofs.{PointProof}
use Rattle.proof_model.specs.RangeProofs.{RangeProof, pairs_in, reached_range}
use Rattle.proof_model.specs.RangeLaws.{RangeBreak}
use Rattle.proof_model.specs.ChangeProofs.{ChangeProof, changes_reach}
use Rattle.proof_model.specs.ChangeLaws.{ChangeBreak}
use Rattle.proof_model.specs.CheckedBytes.{Cause, point_checked, range_checked, change_checked}
use Rattle.run_model.specs.OutsideThings.{Outside}
use Rattle.run_model.specs.End.{End, Done, BadLine, NotOpened, VerifyRefused, Limit, Read, Disk}
use Rattle.run_model.specs.Outcome.{Outcome, EndsAs, Prints, PrintsPrefix, IsUndecided}
use Rattle.run_model.specs.Store.{IsFound, NeedsStore, OnMap}

-- ---- a line

-- why a line does not pass: it is not understood, the proof that it tells of is refused, or the store is not opened whose map
-- it is checked against
pub data Fault : Type 0 where
  NotUnderstood : Fault
  Refused : Cause → Fault
  Unopened : Refusal → Fault

-- how many pairs a point proof shows
abbrev pub pairs_shown : Option (List ℕ) → ℕ
pairs_shown None = 0
pairs_shown (Some value) = 1

-- what a line prints whose proof was checked
abbrev pub proof_verdict : Result PointProof Cause → Result (List ℕ) Fault
proof_verdict (Ok p) = Ok (ok_text (pairs_shown p.value))
proof_verdict (Err cause) = Err (Refused cause)

-- so of a line whose range proof was checked
abbrev pub range_verdict : Result RangeProof Cause → Result (List ℕ) Fault
range_verdict (Ok p) = Ok (ok_text (length p.pairs))
range_verdict (Err cause) = Err (Refused cause)

-- so of a line whose change proof was checked
abbrev pub listed_verdict : Result ChangeProof Cause → Result (List ℕ) Fault
listed_verdict (Ok p) = Ok (ok_text (length p.changes))
listed_verdict (Err cause) = Err (Refused cause)

-- so of a line that tells of a change proof, by what the store is found to be
abbrev pub changes_verdict : ℕ → List ℕ → Range → List ℕ → Result Map Refusal → Result (List ℕ) Fault
changes_verdict w want asked bytes (Ok local) = listed_verdict (change_checked limits w want asked local bytes)
changes_verdict w want asked bytes (Err why) = Err (Unopened why)

-- what a line prints that was read, with tokens of w bits, where the files of the store are found to be this. Lines that tell of
-- no proof print nothing
abbrev pub read_verdict : ℕ → Result Map Refusal → Result Line LineKind → Result (List ℕ) Fault
read_verdict w found (Err kind) = Err NotUnderstood
read_verdict w found (Ok (Point want key bytes)) = proof_verdict (point_checked limits w want key bytes)
read_verdict w found (Ok (VerifyRange want asked bytes)) = range_verdict (range_checked limits w want asked bytes)
read_verdict w found (Ok (VerifyChanges want asked bytes)) = changes_verdict w want asked bytes found
read_verdict w found (Ok other) = Ok []

-- what a line prints, or why it does not pass
abbrev pub verdict : ℕ → Result Map Refusal → List ℕ → Result (List ℕ) Fault
verdict w found line = read_verdict w found (read_line Verify line)

-- whether a line that was read is checked against the map of the store
abbrev pub tells_changes : Result Line LineKind → Bool
tells_changes (Ok (VerifyChanges want asked bytes)) = true
tells_changes other = false

abbrev pub asks_store : List ℕ → Bool
asks_store line = tells_changes (read_line Verify line)

-- ---- lines

-- how a run ends at a line of this number that does not pass
abbrev pub fault_end : ℕ → Fault → End
fault_end number NotUnderstood = BadLine number
fault_end number (Refused cause) = VerifyRefused number cause
fault_end number (Unopened why) = NotOpened why

abbrev pub end_unless : ℕ → Result (List ℕ) Fault → Option End
end_unless number (Ok text) = None
end_unless number (Err fault) = Some (fault_end number fault)

-- how a run ends at a line, unless that passes
abbrev pub line_end : ℕ → Result Map Refusal → ℕ → List ℕ → Option End
line_end w found number line = end_unless number (verdict w found line)

-- the lines in front that pass
abbrev pub passed : ℕ → Result Map Refusal → List (List ℕ) → List (List ℕ)
passed w found [] = []
passed w found (line ∷ lines) = if is_ok (verdict w found line) then line ∷ passed w found lines else []

-- whether lines come to one that asks for the store: those before it pass
abbrev pub come_to_store : ℕ → Result Map Refusal → List (List ℕ) → Bool
come_to_store w found [] = false
come_to_store w found (line ∷ lines) = if asks_store line then true else if is_ok (verdict w found line) then come_to_store w found lines else false

abbrev pub text_or_none : Result (List ℕ) Fault → List ℕ
text_or_none (Ok text) = text
text_or_none (Err fault) = []

-- what lines print
abbrev pub verdicts_text : ℕ → Result Map Refusal → List (List ℕ) → List ℕ
verdicts_text w found lines = flat_map (λ line. text_or_none (verdict w found line)) lines

-- ---- an input

-- by the first line that does not pass, if there is one, and whether the input is within its limit
abbrev pub end_within : Option End → Bool → End
end_within (Some end) within = end
end_within None true = Done
end_within None false = Limit Input

-- the outcome on a whole input: up to the first line that does not pass
abbrev pub verify_outcome : ℕ → Result Map Refusal → List ℕ → Outcome
verify_outcome w found bytes =
    let lines = lines_within input_limit bytes in
    record { end = end_within (first_told (line_end w found) 1 lines) (nat_le (length bytes) input_limit); text = verdicts_text w found (passed w found lines) }

-- by the first line that is settled and does not pass, if there is one, and whether the first bytes are within the limit of an input
abbrev pub end_decided : Option End → Bool → Option End
end_decided (Some end) within = Some end
end_decided None true = None
end_decided None false = Some (Limit Input)

-- how a run ends by the first bytes of its input, whatever bytes follow, where they decide it
abbrev pub verify_decided : ℕ → Result Map Refusal → List ℕ → Option End
verify_decided w found front = end_decided (first_told (line_end w found) 1 (settled_lines (take input_limit front))) (nat_le (length front) input_limit)

-- ---- the store

-- whether an input comes to a line that asks for the store. What the store is found to be changes nothing of that
abbrev pub asks_on : ℕ → Result Map Refusal → List ℕ → Bool
asks_on w found bytes = come_to_store w found (lines_within input_limit bytes)

-- where the input asks for the store, its files are found to be this
abbrev pub IsFoundIfAsked : ℕ → Outside → Result Map Refusal → Type 0
IsFoundIfAsked w before found = IfSome before.input.left (λ bytes. asks_on w found bytes ≡ true → IsFound w before.disk found)

-- so they are, and the disk's count of faults does not rise
abbrev pub NeedsStoreIfAsked : ℕ → Outside → Outside → Result Map Refusal → Type 0
NeedsStoreIfAsked w before after found = IfSome before.input.left (λ bytes. asks_on w found bytes ≡ true → NeedsStore w before after found)

-- ---- what it tells of maps

-- what a proof shows at a key is so in every map with this root, or SHA-256 is broken by the strings of both
abbrev pub IsTrueOfMaps : ℕ → List ℕ → List ℕ → PointProof → Type 0
IsTrueOfMaps w want key p = (m : Map) → IsMap limits m → root w m ≡ want → Break (claim_strings w (point_claim key p)) (map_strings w m) ⊎ (map_of.get m key ≡ p.value)

-- the pairs of a range proof are all that every map with this root has up to where they reach, or SHA-256 is broken so
abbrev pub IsTrueRange : ℕ → List ℕ → Range → RangeProof → Type 0
IsTrueRange w want asked p = (m : Map) → IsMap limits m → root w m ≡ want → RangeBreak w asked p m ⊎ (p.pairs ≡ pairs_in m (reached_range asked p.cut p.pairs))

-- the changes of a proof lead the local map to every map with this root, up to where they reach, or SHA-256 is broken so
abbrev pub IsTrueOfChanges : ℕ → List ℕ → Range → Map → ChangeProof → Type 0
IsTrueOfChanges w want asked local p =
    (m : Map) → IsMap limits m → root w m ≡ want
    → ChangeBreak w asked local p m ⊎ (pairs_in (after_batch local p.changes) (changes_reach asked p.cut p.changes) ≡ pairs_in m (changes_reach asked p.cut p.changes))

-- a line tells of a proof that is accepted, and what this shows is so
pub record ShowsTruth (w : ℕ) (want key bytes : List ℕ) : Type 0 where
  pub proof : PointProof
  pub accepted : point_checked limits w want key bytes ≡ Ok proof
  pub is_true : IsTrueOfMaps w want key proof

-- so of a range proof
pub record ShowsTrueRange (w : ℕ) (want : List ℕ) (asked : Range) (bytes : List ℕ) : Type 0 where
  pub proof : RangeProof
  pub accepted : range_checked limits w want asked bytes ≡ Ok proof
  pub is_true : IsTrueRange w want asked proof

-- so of a change proof, which is checked against the map that the store is found to have, whatever that is
pub record ShowsTrueChanges (w : ℕ) (found : Result Map Refusal) (want : List ℕ) (asked : Range) (bytes : List ℕ) : Type 0 where
  pub local : Map
  pub is_there : found ≡ Ok local
  pub proof : ChangeProof
  pub accepted : change_checked limits w want asked local bytes ≡ Ok proof
  pub is_true : IsMap limits local → IsTrueOfChanges w want asked local proof

-- so of one that is checked against the map of the store
pub record ShowsChanges (w : ℕ) (local : Map) (want : List ℕ) (asked : Range) (bytes : List ℕ) : Type 0 where
  pub proof : ChangeProof
  pub accepted : change_checked limits w want asked local bytes ≡ Ok proof
  pub is_true : IsTrueOfChanges w want asked local proof

-- whatever proof a line tells of, that is so
pub record IsTrueLine (w : ℕ) (found : Result Map Refusal) (line : List ℕ) : Type 0 where
  pub point : (want key bytes : List ℕ) → read_line Verify line ≡ Ok (Point want key bytes) → ShowsTruth w want key bytes
  pub range : (want : List ℕ) (asked : Range) (bytes : List ℕ) → read_line Verify line ≡ Ok (VerifyRange want asked bytes) → ShowsTrueRange w want asked bytes
  pub changes : (want : List ℕ) (asked : Range) (bytes : List ℕ) → read_line Verify line ≡ Ok (VerifyChanges want asked bytes) → ShowsTrueChanges w found want asked bytes

-- whatever changes a line tells of, they are so of the map of the store
abbrev pub IsTrueOfStore : ℕ → Map → List ℕ → Type 0
IsTrueOfStore w local line = (want : List ℕ) (asked : Range) (bytes : List ℕ) → read_line Verify line ≡ Ok (VerifyChanges want asked bytes) → ShowsChanges w local want asked bytes

-- ---- a run

-- an end that lines come to
abbrev pub IsVerdict : End → Type 0
IsVerdict end =
    (end ≡ Done) ⊎ ((number : ℕ) × (end ≡ BadLine number)) ⊎ ((number : ℕ) × (cause : Cause) × (end ≡ VerifyRefused number cause)) ⊎ ((kind : LimitKind) × (end ≡ Limit kind))
    ⊎ ((why : Refusal) × (end ≡ NotOpened why))

-- what a run of `verify` promises, whatever the files of the store are found to be, where it asks for them
pub record VerifyRuns (w : ℕ) (before after : Outside) (end : End) : Type 0 where
  -- what lines come to is the outcome, and exactly what the lines before print was printed
  pub came : IsVerdict end → (found : Result Map Refusal) → IsFoundIfAsked w before found → EndsAs (verify_outcome w found) before end × Prints (verify_outcome w found) before after
  -- with any end a prefix of that was
  pub prefix : (found : Result Map Refusal) → IsFoundIfAsked w before found → PrintsPrefix (verify_outcome w found) before after
  -- and the lines that print it are true, each of them
  pub shown : (found : Result Map Refusal) → IfSome before.input.left (λ bytes. AllByRecursion (IsTrueLine w found) (passed w found (lines_within input_limit bytes)))
  -- the map of a store is one of byte strings within the limits, and the lines on changes are true of it
  pub within : OnMap w before.disk (λ m. IsMap limits m)
  pub true_of_store : OnMap w before.disk (λ m. IfSome before.input.left (λ bytes. AllByRecursion (IsTrueOfStore w m) (passed w (Ok m) (lines_within input_limit bytes))))
  -- the input was read to its end
  pub done : end ≡ Done → AtEnd after.input.left
  -- where the input does not ask for the store, the disk is as it was, and did not fail
  pub untouched : (found : Result Map Refusal) → IfSome before.input.left (λ bytes. asks_on w found bytes ≡ false → (after.disk ≡ before.disk) × (end ≢ Disk))
  -- and the map of a store stays in any case, also where the run is stopped
  pub files : end ≢ Disk → OnMap w before.disk (λ m. Stands limits after.disk.files m)
  pub opens : TellsImages before.disk.tells → OnMap w before.disk (λ m. Opens limits m before.disk.moments after.disk.moments)
  -- a failed read is told only where the bytes that the input gave decide nothing
  pub undecided : end ≡ Read → (found : Result Map Refusal) → IsFoundIfAsked w before found → IsUndecided (verify_decided w found) before after
