-- The worked scripts, by computing.
use Rattle.std.proofs.Common.{◌≡◌, ℕ, suc, ◌+◌, List, [], ◌∷◌, ◌++◌, length, map, Option, None, option_map, Result, Ok, refl, sym, ap, ◌∙◌, arith, false, true, nat_lt, nat_le}
use Rattle.std.specs.Fmt.{digits}
use Rattle.std.specs.FinMap as map_of
use Rattle.std.specs.List.{filter, filter_map}
use Rattle.std.specs.Prelude.{codes}
use Rattle.std.specs.Str.Lines.{lines}
use Rattle.hex.specs.Hex.{decode_pairs}
use Rattle.base_model.specs.Uvarint.{uvarint}
use Rattle.base_model.specs.Bytes.{bytes_cmp}
use Rattle.trie_model.specs.Bits.{bits_of_bytes}
use Rattle.trie_model.specs.Maps.{Map, entry_item}
use Rattle.trie_model.specs.Table.{items_table, node_keys}
use Rattle.proof_model.specs.Paths.{shown_row, path_rows}
use Rattle.proof_model.specs.Wire.{point_form}
use Rattle.proof_model.specs.Proofs.{Pair, pair_size}
use Rattle.proof_model.specs.RangeProofs.{proof_of_pairs}
use Rattle.proof_model.specs.RangeWire.{range_form}
use Rattle.proof_model.specs.TakenEntries.{taken as taken_of, is_cut}
use Rattle.range_model.specs.Ranges.{everything, holds}
use Rattle.batch_model.specs.Batch.{after_batch}
use Rattle.view_model.specs.Calls.{number_limit}
use Rattle.view_model.specs.Forest.{payload}
use Rattle.text_model.specs.LineKind.{LineKind}
use Rattle.text_model.specs.Texts.{LimitKind, commit_text, proof_text, range_text}
use Rattle.text_model.specs.ReadLine.{Line, Commit, Take, Script, read_line}
use Rattle.session_model.specs.Limits.{pairs_limit, payload_limit}
use Rattle.session_model.specs.Refusals.{take_refused}
use Rattle.history_model.specs.Held.{no_map}
use Rattle.session_model.specs.MapsByRoot.{proof_of, range_proof_of, not_held}
use Rattle.session_model.specs.Session.{Session, Step, prints, refuses, told_range, start, committed, commit_step, commit, or_limit, taken, taken_map, take_step, read_step, step}
use Rattle.session_model.specs.Script.{Played, play, and_then, ended}
use Rattle.session_model.specs.Worked.{WorkedScripts, ViewScripts, ClosedLines, RefusedLines, ProvedLines, RangedLines, no_proof, no_range, maybe_text, with, one_pair, a, root_of}
use Rattle.session_model.proofs.NamedMaps.{itself, by_zeros}
use Rattle.session_model.proofs.PlayedLines.{put_first, followed, play-done, play-on}

-- ---- maps of so few pairs are within the limit

abbrev IsSmall : Map → Type 0
IsSmall m = nat_lt pairs_limit (map_of.len m) ≡ false

small_none : IsSmall map_of.empty
small_none = ap (nat_lt pairs_limit) (map_of.len-empty bytes_cmp (List ℕ))

small_pair : IsSmall one_pair
small_pair = let size : map_of.len one_pair ≡ 1 = simp map_of.gets refl in ap (nat_lt pairs_limit) size

small_a : IsSmall a
small_a = let size : map_of.len a ≡ 1 = simp map_of.gets refl in ap (nat_lt pairs_limit) size

small_ab : IsSmall (with 0x0b 0x62 a)
small_ab = let size : map_of.len (with 0x0b 0x62 a) ≡ 2 = simp map_of.gets refl in ap (nat_lt pairs_limit) size

small_ac : IsSmall (with 0x0c 0x63 a)
small_ac = let size : map_of.len (with 0x0c 0x63 a) ≡ 2 = simp map_of.gets refl in ap (nat_lt pairs_limit) size

-- ---- a line with a commit among others

-- lines up to one that comes to this, and then the others
abbrev behind : ℕ → Session → List (List ℕ) → Session × Step → List (List ℕ) → Played
behind n s before next after = followed None (play 4 n s before) (put_first next.1 (play 4 (suc (n + length before)) next.0 after))

play-behind : (n : ℕ) (s : Session) (before : List (List ℕ)) (line : List ℕ) (next : Session × Step) (after : List (List ℕ))
    → (play 4 n s before).stop ≡ None → step 4 (n + length before) (play 4 n s before).session line ≡ Ok next → play 4 n s (before ++ line ∷ after) ≡ behind n s before next after
play-behind n s before line next after done is =
    let p = play 4 n s before in
    play-done 4 n s before (line ∷ after) done ∙ ap (followed None p) (play-on 4 (n + length before) p.session line after next is)

-- a view is committed
abbrev taking : Session → ℕ → Session × Step
taking s number = (taken s number, take_step 4 s number)

step-takes : (n : ℕ) (s : Session) (line : List ℕ) (number : ℕ) → read_line Script line ≡ Ok (Take number) → take_refused s.views number ≡ None → IsSmall (taken_map s number) → step 4 n s line ≡ Ok (taking s number)
step-takes n s line number is may small = ap (read_step 4 n s) is ∙ rw (may, small) refl

-- the pending batch is committed
commit-done : (s : Session) → nat_le number_limit (length s.views.views) ≡ false → nat_lt payload_limit (payload s.pending) ≡ false → IsSmall (after_batch s.map s.pending) → commit 4 s ≡ Ok (committed s, commit_step 4 s)
commit-done s few short small = rw (few, short, small) refl

step-commits : (n : ℕ) (s : Session) (line : List ℕ) → read_line Script line ≡ Ok Commit → nat_le number_limit (length s.views.views) ≡ false → nat_lt payload_limit (payload s.pending) ≡ false → IsSmall (after_batch s.map s.pending)
    → step 4 n s line ≡ Ok (committed s, commit_step 4 s)
step-commits n s line is few short small = ap (λ (r : Result Line LineKind). read_step 4 n s r) is ∙ ap or_limit (commit-done s few short small)

-- the lines that are printed by lines, with nothing pending behind them
abbrev texts : Played → List (List ℕ)
texts p = filter_map (λ (t : Step). maybe_text t.text) (ended 4 p p.stop true).steps

pub worked_scripts : WorkedScripts
unfolding decode_pairs uvarint
worked_scripts = (rw small_pair refl, rw small_pair refl, rw small_pair (rw small_pair refl), refl, refl, refl)

-- ---- scripts with views that are taken

-- before the first line
abbrev at_start : Session
at_start = start no_map

abbrev take_one : List ℕ
take_one = codes "take 1"

abbrev take_two : List ℕ
take_two = codes "take 2"

abbrev take_three : List ℕ
take_three = codes "take 3"

abbrev before_siblings : List (List ℕ)
before_siblings = lines (codes "put 0a 61\nview db\nput 0b 62\nview db\nput 0c 63\nview 1\n")

abbrev between_siblings : List (List ℕ)
between_siblings = lines (codes "state 2\nstate 3\ntake 2\n")

abbrev after_siblings : List (List ℕ)
after_siblings = lines (codes "root db\n")

-- where the lines before the first view that is taken lead
abbrev siblings_at : Session
siblings_at = (play 4 1 at_start before_siblings).session

abbrev siblings_on : Session
siblings_on = (play 4 8 (taken siblings_at 1) between_siblings).session

siblings_taken : play 4 1 at_start (before_siblings ++ take_one ∷ (between_siblings ++ take_three ∷ after_siblings))
    ≡ followed None (play 4 1 at_start before_siblings) (put_first (take_step 4 siblings_at 1) (behind 8 (taken siblings_at 1) between_siblings (taking siblings_on 3) after_siblings))
unfolding decode_pairs uvarint
siblings_taken =
    play-behind 1 at_start before_siblings take_one (taking siblings_at 1) (between_siblings ++ take_three ∷ after_siblings) refl (step-takes 7 siblings_at take_one 1 refl refl small_a)
    ∙ ap (λ (q : Played). followed None (play 4 1 at_start before_siblings) (put_first (take_step 4 siblings_at 1) q))
    (play-behind 8 (taken siblings_at 1) between_siblings take_three (taking siblings_on 3) after_siblings refl (step-takes 11 siblings_on take_three 3 refl refl small_ac))

abbrev before_parents : List (List ℕ)
before_parents = lines (codes "put 0a 61\nview db\nput 0b 62\nview 1\ntake 2\n")

abbrev after_parents : List (List ℕ)
after_parents = lines (codes "take 9\n")

abbrev parents_at : Session
parents_at = (play 4 1 at_start before_parents).session

parents_taken : play 4 1 at_start (before_parents ++ take_one ∷ ([] ++ take_two ∷ after_parents))
    ≡ followed None (play 4 1 at_start before_parents) (put_first (take_step 4 parents_at 1) (behind 7 (taken parents_at 1) [] (taking (taken parents_at 1) 2) after_parents))
unfolding decode_pairs uvarint
parents_taken =
    play-behind 1 at_start before_parents take_one (taking parents_at 1) ([] ++ take_two ∷ after_parents) refl (step-takes 6 parents_at take_one 1 refl refl small_a)
    ∙ ap (λ (q : Played). followed None (play 4 1 at_start before_parents) (put_first (take_step 4 parents_at 1) q))
    (play-behind 7 (taken parents_at 1) [] take_two (taking (taken parents_at 1) 2) after_parents refl (step-takes 7 (taken parents_at 1) take_two 2 refl refl small_ab))

pub view_scripts : ViewScripts
unfolding decode_pairs uvarint digits
view_scripts = (ap texts siblings_taken, ap texts parents_taken)

-- ---- lines that are refused

pub closed_lines : ClosedLines
unfolding decode_pairs uvarint digits
closed_lines = refl

-- lines behind a commit
abbrev after_commit : List (List ℕ)
after_commit = lines (codes "state 1\nstate 2\nview 1\n")

commit_first : play 4 1 at_start ([] ++ codes "commit" ∷ after_commit) ≡ behind 1 at_start [] (committed at_start, commit_step 4 at_start) after_commit
unfolding uvarint
commit_first = play-behind 1 at_start [] (codes "commit") (committed at_start, commit_step 4 at_start) after_commit refl (step-commits 1 at_start (codes "commit") refl refl refl small_none)

-- nothing is at a key of the empty map
nothing_there : map_of.get no_map (0x0a ∷ []) ≡ None
nothing_there = map_of.get-empty bytes_cmp (0x0a ∷ [])

-- lines that read, while something is pending
abbrev reading : Played
reading = play 4 1 at_start (lines (codes "put 0a 61\nroot db\nroot 1\n"))

last_commit : commit 4 reading.session ≡ Ok (committed reading.session, commit_step 4 reading.session)
unfolding decode_pairs uvarint
last_commit = commit-done reading.session refl refl small_a

pub refused_lines : RefusedLines
unfolding decode_pairs uvarint
refused_lines = (
  ap texts commit_first,
  rw small_none refl,
  ap (λ (r : Result (Session × Step) LimitKind). filter_map (λ (t : Step). maybe_text t.text) (and_then reading r).steps) last_commit,
  rw nothing_there refl,
)

-- ---- proofs

no_pairs : (n : ℕ) (es : List (List ℕ × List ℕ)) → length es ≡ n → n ≡ 0 → es ≡ []
no_pairs n [] size none = refl
no_pairs n (e ∷ es) size none = let no : ⊥ = omega (arith, size, none) in absurd no

pub entries-empty : map_of.entries no_map ≡ []
entries-empty = no_pairs (map_of.len no_map) (map_of.entries no_map) (sym (map_of.len-entries no_map)) (map_of.len-empty bytes_cmp (List ℕ))

-- a key is proved not to be in the empty map by no node
empty_proof : (key : List ℕ) → proof_of 4 key no_map ≡ no_proof
unfolding path_rows items_table node_keys uvarint
empty_proof key = ap (λ v. shown v (map_of.entries no_map)) (map_of.get-empty bytes_cmp key) ∙ ap (shown None) entries-empty
  where
    shown : Option (List ℕ) → List (List ℕ × List ℕ) → List ℕ
    shown v es = point_form (record { value = v; path = map shown_row (path_rows 4 (bits_of_bytes key) (items_table 4 (map entry_item es))) })

two_proofs : List ℕ → List ℕ → List (List ℕ)
two_proofs a b = proof_text a ∷ proof_text b ∷ codes "refused not held\n" ∷ []

pub proved_lines : ProvedLines
unfolding decode_pairs uvarint two_proofs
proved_lines = (
  rw (itself (root_of no_map)) (ap (λ a. two_proofs a (proof_of 4 [] no_map)) (empty_proof (0x6b ∷ [])) ∙ ap (two_proofs no_proof) (empty_proof [])),
  rw (itself (root_of no_map), small_pair) (ap (λ a. proof_text a ∷ commit_text 1 (root_of one_pair) ∷ []) (empty_proof (0x6b ∷ []))),
)

-- ---- range proofs

-- all keys are proved not to be in the empty map by no node
pub empty_range : range_proof_of 4 everything 1 1 no_map ≡ no_range
unfolding taken_of uvarint
empty_range = ap shown entries-empty
  where
    shown : List Pair → List ℕ
    shown es =
        let inside : List Pair = filter (λ (e : Pair). holds everything e.0) es in
        range_form (proof_of_pairs 4 no_map everything (is_cut pair_size 1 1 inside) (taken_of pair_size 1 1 inside))

-- what is printed of the empty map under the name `empty`, by what this names, beside its other names
under_names : Option Map → List (List ℕ)
under_names found =
    let shown : Step = prints (range_text (range_proof_of 4 everything 1 1 no_map)) in
    filter_map (λ (t : Step). maybe_text t.text) (shown ∷ told_range (option_map (range_proof_of 4 everything 1 1) found) ∷ shown ∷ refuses not_held ∷ [])

three_ranges : List ℕ → List (List ℕ)
three_ranges a = range_text a ∷ range_text a ∷ range_text a ∷ codes "refused not held\n" ∷ []

pub ranged_lines : RangedLines
unfolding decode_pairs uvarint under_names three_ranges
ranged_lines = (
  rw (itself (root_of no_map)) (ap under_names by_zeros ∙ ap three_ranges empty_range),
  rw (itself (root_of no_map), small_pair) (ap (λ a. range_text a ∷ commit_text 1 (root_of one_pair) ∷ []) empty_range),
)
