-- The worked runs, by computing.
use Rattle.std.proofs.Common.{◌≡◌, ℕ, List, [], ◌∷◌, ◌++◌, length, map, replicate, option_map, refl, ap, ◌∙◌, Result, Ok, Err, true, nat_le}
use Rattle.std.specs.Prelude.{codes, Option, Some, None}
use Rattle.std.specs.List.{filter}
use Rattle.std.specs.FinMap.{empty, entries, entries-insert, get-empty}
use Rattle.std.specs.FinMap.Entries.{put, where_key}
use Rattle.std.proofs.lemmas.Cmp.{nat_list_cmp_total}
use Rattle.sha2.specs.Sha256.{sha256}
use Rattle.hex.specs.Hex.{encode_with, decode_pairs}
use Rattle.base_model.specs.Bytes.{bytes_cmp}
use Rattle.base_model.specs.Uvarint.{uvarint}
use Rattle.trie_model.specs.Hashing.{zero_id, hashed_string, value_digest}
use Rattle.trie_model.specs.Ids.{id, id_within, children}
use Rattle.trie_model.specs.Maps.{Map, limits, entry_item, root}
use Rattle.trie_model.proofs.EntriesRemoved.{other_key, entries-remove}
use Rattle.text_model.specs.Lines.{input_limit, lines_within}
use Rattle.text_model.specs.LineKind.{LineKind}
use Rattle.text_model.specs.FirstBad.{first_told}
use Rattle.text_model.specs.ReadLine.{Batch, Verify, Line, Put, Del, VerifyChanges, read_line}
use Rattle.text_model.specs.MapOfLines.{after_read, after_lines, map_of_lines}
use Rattle.text_model.specs.Texts.{root_text, range_text}
use Rattle.proof_model.specs.CheckedBytes.{NotAccepted, unless_refused, point_checked, range_checked, change_checked}
use Rattle.proof_model.specs.ChangeWire.{changes_of, change_at}
use Rattle.proof_model.specs.RangeWire.{range_of, pair_at}
use Rattle.proof_model.specs.Claims.{claim_items}
use Rattle.proof_model.specs.ChangeProofs.{change_refusal}
use Rattle.proof_model.specs.Proofs.{Pair}
use Rattle.proof_model.specs.WorkedChanges.{bare_changes, delete}
use Rattle.proof_model.specs.Refusals.{Refusal, Idle, refusal, path_refusal}
use Rattle.proof_model.specs.Wire.{point_of, sized_at, head_at, byte_at, maybe_at, path_at, nodes_at, all_read, listed_at, counted_at}
use Rattle.base_model.specs.Fields.{bytes_at, flag_at, number_at}
use Rattle.base_model.specs.ReadUvarint.{uvarint_read}
use Rattle.std.specs.Fmt.{digits}
use Rattle.range_model.specs.Ranges.{Range, everything, holds}
use Rattle.session_model.specs.MapsByRoot.{range_proof_of}
use Rattle.session_model.proofs.NamedMaps.{itself, by_zeros}
use Rattle.session_model.proofs.WorkedScripts.{empty_range, entries-empty}
use Rattle.run_model.specs.Outcome.{Outcome}
use Rattle.run_model.specs.Range.{range_proof_outcome}
use Rattle.store_model.specs.Refusals.{Refusal as WhyNotOpened}
use Rattle.run_model.specs.End.{VerifyRefused}
use Rattle.run_model.specs.Verify.{Fault, Refused, listed_verdict, read_verdict, verdict, line_end, fault_end, passed, verdicts_text, end_within, verify_outcome}
use Rattle.run_model.specs.Worked.{prints, verify_in, PrintsOnePair, PrintsZeros, OnePairRuns, EmptyRuns, WrongWordRuns, WrongLineRuns, KeyLimitRuns, VerifyRuns, VerifyRangeRuns, VerifyChangesRuns, RangeRuns}

-- ---- the pairs that lines make, as a list that computes
abbrev pairs_after : List (List ℕ × List ℕ) → Result Line LineKind → List (List ℕ × List ℕ)
pairs_after es (Ok (Put key value)) = put bytes_cmp key value es
pairs_after es (Ok (Del key)) = where_key bytes_cmp (other_key key) es
pairs_after es other = es

abbrev pairs_of : List (List ℕ × List ℕ) → List (List ℕ) → List (List ℕ × List ℕ)
pairs_of es [] = es
pairs_of es (line ∷ lines) = pairs_of (pairs_after es (read_line Batch line)) lines

entries-after : (m : Map) (r : Result Line LineKind) → entries (after_read m r) ≡ pairs_after (entries m) r
entries-after m (Ok (Put key value)) = entries-insert nat_list_cmp_total m key value
entries-after m (Ok (Del key)) = entries-remove m key
entries-after m other = refl

entries-of : (m : Map) (lines : List (List ℕ)) → entries (after_lines m lines) ≡ pairs_of (entries m) lines
entries-of m [] = refl
entries-of m (line ∷ lines) = entries-of (after_read m (read_line Batch line)) lines ∙ ap (λ es. pairs_of es lines) (entries-after m (read_line Batch line))

entries-lines : (lines : List (List ℕ)) → entries (map_of_lines lines) ≡ pairs_of [] lines
entries-lines lines = entries-of empty lines ∙ ap (λ es. pairs_of es lines) entries-empty

-- what an input of these lines comes to, where they make these pairs
printed : (lines : List (List ℕ)) (es : List (List ℕ × List ℕ)) → pairs_of [] lines ≡ es → prints (root_text (root 4 (map_of_lines lines))) ≡ prints (root_text (id 4 (map entry_item es)))
printed lines es h = ap (λ es. prints (root_text (id 4 (map entry_item es)))) (entries-lines lines ∙ h)

-- the pair of 76 at 6b
one_pair : List (List ℕ × List ℕ)
one_pair = (0x6b ∷ [], 0x76 ∷ []) ∷ []

one_pair_root : id 4 (map entry_item one_pair) ≡ sha256 (0x00 ∷ 0x01 ∷ 0x01 ∷ 0x76 ∷ 0x08 ∷ 0x6b ∷ [])
unfolding one_pair id id_within children uvarint hashed_string value_digest
one_pair_root = refl

-- lines that make that pair
prints_one : (lines : List (List ℕ)) → pairs_of [] lines ≡ one_pair → PrintsOnePair (prints (root_text (root 4 (map_of_lines lines))))
prints_one lines h = printed lines one_pair h ∙ ap (λ r. prints (root_text r)) one_pair_root

zeros_text : root_text (id 4 []) ≡ codes "root " ++ replicate 64 0x30 ++ 0x0a ∷ []
unfolding id id_within zero_id encode_with
zeros_text = refl

-- lines that make nothing
prints_zeros : (lines : List (List ℕ)) → pairs_of [] lines ≡ [] → PrintsZeros (prints (root_text (root 4 (map_of_lines lines))))
prints_zeros lines h = printed lines [] h ∙ ap prints zeros_text

lines_of : List ℕ → List (List ℕ)
lines_of bytes = lines_within input_limit bytes

pub one_pair_runs : OnePairRuns
unfolding decode_pairs one_pair lines_of
one_pair_runs = (
  prints_one (lines_of (codes "put 6b 76\n")) refl,
  prints_one (lines_of (codes "put 6b 76\r\n")) refl,
  prints_one (lines_of (codes "put 6b 76")) refl,
  prints_one (lines_of (codes " \tput\t6B  76 \n")) refl,
  prints_one (lines_of (codes "# put 6b 75\n\n \t\nput 6b 76\n\r\n#")) refl,
  prints_one (lines_of (codes "put 6b 75\nput 6b 76\n")) refl,
  prints_one (lines_of (codes "put 6b 75\ndel 6b\nput 6b 76\n")) refl,
  prints_one (lines_of (codes "put 6b 76\ndel 6c\n")) refl,
  prints_one (lines_of (codes "del 6b\nput 6b 76\ndel -\n")) refl,
)

pub empty_runs : EmptyRuns
unfolding decode_pairs lines_of
empty_runs = (prints_zeros (lines_of []) refl, prints_zeros (lines_of (codes "\n")) refl, prints_zeros (lines_of (codes "put 6b 76\ndel 6b")) refl)

pub wrong_word_runs : WrongWordRuns
unfolding decode_pairs
wrong_word_runs found bytes = (refl, refl, refl, refl, refl, refl, refl, refl, refl, refl, refl, refl, refl, refl, refl, refl, refl, refl, refl, refl, refl, refl, refl, refl, refl, refl, refl, refl, refl, refl, refl, refl, refl, refl, refl, refl, refl, refl)

pub wrong_line_runs : WrongLineRuns
unfolding decode_pairs
wrong_line_runs = (refl, refl, refl, refl, refl, refl, refl, refl, refl, refl, refl, refl, refl, refl, refl)

pub key_limit_runs : KeyLimitRuns
unfolding decode_pairs lines_of
key_limit_runs = (prints_zeros (lines_of (codes "del " ++ replicate 512 0x30)) refl, refl)

pub verify_runs : VerifyRuns
unfolding decode_pairs point_checked point_of head_at byte_at bytes_at maybe_at flag_at path_at number_at uvarint_read nodes_at all_read refusal path_refusal claim_items id id_within zero_id digits
verify_runs = (refl, refl, refl)

pub verify_range_runs : VerifyRangeRuns
unfolding decode_pairs point_checked point_of range_checked range_of counted_at listed_at pair_at sized_at head_at byte_at bytes_at maybe_at flag_at path_at number_at uvarint_read nodes_at all_read refusal path_refusal claim_items id id_within zero_id digits
verify_range_runs = (refl, refl, refl, refl)

-- no changes, checked for a range against the root of the empty map, where these are the pairs
reason : Range → List Pair → Option Refusal
reason asked es = refusal 4 asked (replicate 32 0) (record { keys = []; reached = asked; pairs = filter (λ (e : Pair). holds asked e.0) es; start = []; end = []; idle = None })

no_reason : (asked : Range) → reason asked [] ≡ None
unfolding reason refusal path_refusal claim_items id id_within zero_id
no_reason asked = refl

none_is_true : (asked : Range) → change_refusal 4 asked empty (replicate 32 0) (bare_changes []) ≡ None
unfolding reason
none_is_true asked = ap (reason asked) entries-empty ∙ no_reason asked

-- a key that is not there is not deleted
idle_alone : change_refusal 4 everything empty (replicate 32 0) (bare_changes (delete (0x0b ∷ []) ∷ [])) ≡ Some (Idle 0)
unfolding refusal path_refusal
idle_alone = rw (get-empty {X = List ℕ} bytes_cmp (0x0b ∷ [])) refl

-- the bytes of no changes, and of that deletion
none_passes : (asked : Range) → change_checked limits 4 (replicate 32 0) asked empty (0x01 ∷ 0x02 ∷ 0x00 ∷ 0x00 ∷ 0x00 ∷ 0x00 ∷ []) ≡ Ok (bare_changes [])
unfolding change_checked changes_of change_at counted_at listed_at sized_at head_at byte_at bytes_at maybe_at flag_at path_at number_at uvarint_read nodes_at all_read
none_passes asked = ap (unless_refused (bare_changes [])) (none_is_true asked)

idle_fails : change_checked limits 4 (replicate 32 0) everything empty (0x01 ∷ 0x02 ∷ 0x00 ∷ 0x01 ∷ 0x01 ∷ 0x0b ∷ 0x00 ∷ 0x00 ∷ 0x00 ∷ []) ≡ Err (NotAccepted (Idle 0))
unfolding change_checked changes_of change_at counted_at listed_at sized_at head_at byte_at bytes_at maybe_at flag_at path_at number_at uvarint_read nodes_at all_read
idle_fails = ap (unless_refused (bare_changes (delete (0x0b ∷ []) ∷ []))) idle_alone

-- what lines of an input within its limit come to
verify_lines : Result Map WhyNotOpened → List (List ℕ) → Outcome
verify_lines found lines = record { end = end_within (first_told (line_end 4 found) 1 lines) true; text = verdicts_text 4 found (passed 4 found lines) }

by_lines : (found : Result Map WhyNotOpened) (bytes : List ℕ) (lines : List (List ℕ)) → lines_within input_limit bytes ≡ lines → nat_le (length bytes) input_limit ≡ true → verify_outcome 4 found bytes ≡ verify_lines found lines
unfolding verify_lines
by_lines found bytes lines are within = rw (are, within) refl

-- two lines that pass, and two of which the second does not
both_pass : (found : Result Map WhyNotOpened) (a b s t : List ℕ) → verdict 4 found a ≡ Ok s → verdict 4 found b ≡ Ok t → verify_lines found (a ∷ b ∷ []) ≡ prints (s ++ (t ++ []))
unfolding verify_lines
both_pass found a b s t first second = rw (first, second) (rw (first, second) refl)

second_fails : (found : Result Map WhyNotOpened) (a b s : List ℕ) (fault : Fault) → verdict 4 found a ≡ Ok s → verdict 4 found b ≡ Err fault → verify_lines found (a ∷ b ∷ []) ≡ record { end = fault_end 2 fault; text = s ++ [] }
unfolding verify_lines
second_fails found a b s fault first second = rw (first, second) (rw first refl)

-- a line of no changes, in a store of the empty map
none_told : (line : List ℕ) (asked : Range) → read_line Verify line ≡ Ok (VerifyChanges (replicate 32 0) asked (0x01 ∷ 0x02 ∷ 0x00 ∷ 0x00 ∷ 0x00 ∷ 0x00 ∷ [])) → verdict 4 (Ok empty) line ≡ Ok (codes "ok 0\n")
unfolding digits
none_told line asked read = ap (read_verdict 4 (Ok empty)) read ∙ ap listed_verdict (none_passes asked)

idle_told : (line : List ℕ) → read_line Verify line ≡ Ok (VerifyChanges (replicate 32 0) everything (0x01 ∷ 0x02 ∷ 0x00 ∷ 0x01 ∷ 0x01 ∷ 0x0b ∷ 0x00 ∷ 0x00 ∷ 0x00 ∷ [])) → verdict 4 (Ok empty) line ≡ Err (Refused (NotAccepted (Idle 0)))
idle_told line read = ap (read_verdict 4 (Ok empty)) read ∙ ap listed_verdict idle_fails

changes_pass : verify_in (Ok empty) (codes "changes empty * * 010200000000\nchanges empty - ff 010200000000\n") ≡ prints (codes "ok 0\nok 0\n")
unfolding decode_pairs zero_id
changes_pass =
    let first = codes "changes empty * * 010200000000" in
    let second = codes "changes empty - ff 010200000000" in
    by_lines (Ok empty) (codes "changes empty * * 010200000000\nchanges empty - ff 010200000000\n") (first ∷ second ∷ []) refl refl
    ∙ both_pass (Ok empty) first second (codes "ok 0\n") (codes "ok 0\n") (none_told first everything refl) (none_told second (record { start = Some []; end = Some (0xff ∷ []) }) refl)

second_is_idle : verify_in (Ok empty) (codes "changes empty * * 010200000000\nchanges empty * * 01020001010b000000\n") ≡ record { end = VerifyRefused 2 (NotAccepted (Idle 0)); text = codes "ok 0\n" }
unfolding decode_pairs zero_id
second_is_idle =
    let first = codes "changes empty * * 010200000000" in
    let second = codes "changes empty * * 01020001010b000000" in
    by_lines (Ok empty) (codes "changes empty * * 010200000000\nchanges empty * * 01020001010b000000\n") (first ∷ second ∷ []) refl refl
    ∙ second_fails (Ok empty) first second (codes "ok 0\n") (Refused (NotAccepted (Idle 0))) (none_told first everything refl) (idle_told second refl)

pub verify_changes_runs : VerifyChangesRuns
unfolding decode_pairs point_checked point_of change_checked changes_of change_at counted_at listed_at sized_at head_at byte_at bytes_at maybe_at flag_at path_at number_at uvarint_read nodes_at all_read refusal path_refusal claim_items id id_within zero_id digits
verify_changes_runs = (changes_pass, second_is_idle, refl, refl, λ why. refl, λ why. refl)

-- the line of the proof that the empty map has no keys
empty_text : List ℕ → Outcome
empty_text bytes = prints (range_text bytes)

empty_printed : empty_text (range_proof_of 4 everything 1 1 empty) ≡ prints (codes "range 010100000000\n")
unfolding encode_with empty_text
empty_printed = ap empty_text empty_range

pub range_runs : RangeRuns
unfolding decode_pairs empty_text
range_runs = (ap (λ found. range_proof_outcome (option_map (range_proof_of 4 everything 1 1) found)) by_zeros ∙ empty_printed, rw (itself (root 4 empty)) empty_printed, refl)
