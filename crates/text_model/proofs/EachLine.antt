-- What holds of each line that an input may have holds of whatever line is read of it.
use Rattle.std.proofs.Common.{ℕ, ◌≤◌, Bool, true, false, cond, List, [], ◌∷◌, length, Option, Some, None, Result, Ok, Err}
use Rattle.std.specs.Prelude.{codes, IfOk}
use Rattle.std.specs.Option.{ok_or}
use Rattle.std.specs.Str.{bytes_eq}
use Rattle.base_model.specs.Bytes.{AreBytes}
use Rattle.base_model.specs.Fields.{◌>>=◌}
use Rattle.trie_model.specs.Maps.{key_limit, value_limit, limits}
use Rattle.range_model.specs.Ranges.{Range, IsRange}
use Rattle.text_model.specs.Lines.{is_overlong}
use Rattle.text_model.specs.Words.{PlaceWord, RootWord, words_of, hex_word, number_word, place_word, root_word, plain_root_word, most_pairs, most_bytes, count_word, range_between}
use Rattle.text_model.specs.LineKind.{LineKind, TooLong, Word, Hex, Number, Place, Root as NoRoot, Bounds}
use Rattle.text_model.specs.ReadLine.{Script, Verify, Line, Skip, Put, Del, Commit, View, Take, Close, State, Get, Root, Prove, Point, RangeOf, ChangesOf, VerifyRange, VerifyChanges, is_comment, key_word, value_word, bound_word, one_word, two_words, three_words, four_words, five_words, six_words, put_line, del_line, number_line, place_line, get_line, prove_line, point_line, range_line, changes_line, verify_range_line, commit_words, script_words, line_of_words, read_line}
use Rattle.text_model.specs.Laws.{IsPointLine, IsRangeLine, IsAskedRange}
use Rattle.text_model.proofs.WordBytes.{Has, AreBytesWithin, hex_word_bytes, key_within, value_within}
use Rattle.text_model.proofs.RootWords.{IsId, root_id}
use Rattle.text_model.proofs.RangeWords.{IsBound, IsCount, bound_within, count_within, range_within}

-- what is had by each line that a script may have
pub record OfScript (P : Line → Type 0) : Type 0 where
  pub skip : P Skip
  pub put : (key value : List ℕ) → length key ≤ key_limit → length value ≤ value_limit → P (Put key value)
  pub del : (key : List ℕ) → length key ≤ key_limit → P (Del key)
  pub commit : P Commit
  pub view : (place : PlaceWord) → P (View place)
  pub take : (n : ℕ) → P (Take n)
  pub close : (n : ℕ) → P (Close n)
  pub state : (n : ℕ) → P (State n)
  pub get : (place : PlaceWord) (key : List ℕ) → P (Get place key)
  pub root : (place : PlaceWord) → P (Root place)
  pub prove : (word : RootWord) (key : List ℕ) → P (Prove word key)
  pub range : (word : RootWord) (asked : Range) (pairs bytes : ℕ) → IsAskedRange asked pairs bytes → P (RangeOf word asked pairs bytes)
  pub changes : (from to : RootWord) (asked : Range) (pairs bytes : ℕ) → IsAskedRange asked pairs bytes → P (ChangesOf from to asked pairs bytes)

-- what is had by each line that an input of proofs may have
pub record OfVerify (P : Line → Type 0) : Type 0 where
  pub skip : P Skip
  pub point : (root key proof : List ℕ) → IsPointLine root key proof → P (Point root key proof)
  pub range : (root : List ℕ) (asked : Range) (proof : List ℕ) → IsRangeLine root asked proof → P (VerifyRange root asked proof)
  pub changes : (root : List ℕ) (asked : Range) (proof : List ℕ) → IsRangeLine root asked proof → P (VerifyChanges root asked proof)

-- a word that is there has its property
some_or : {A : Type 0} (Q : A → Type 0) (o : Option A) (kind : LineKind) → ((x : A) → Q x) → IfOk (ok_or o kind) Q
some_or Q None kind h = tt
some_or Q (Some x) kind h = h x

has_or : (Q : List ℕ → Type 0) (o : Option (List ℕ)) (kind : LineKind) → Has Q o → IfOk (ok_or o kind) Q
has_or Q None kind h = tt
has_or Q (Some x) kind h = h

-- any property, of what is read of words
module _ (P : Line → Type 0) where
  -- a word, and those behind it
  and_then : {A : Type 0} (Q : A → Type 0) (r : Result A LineKind) (f : A → Result Line LineKind) → IfOk r Q → ((x : A) → Q x → IfOk (f x) P) → IfOk (r >>= f) P
  and_then Q (Err kind) f h next = tt
  and_then Q (Ok x) f h next = next x h

  or_none : {A : Type 0} (o : Option A) (kind : LineKind) (f : A → Result Line LineKind) → ((x : A) → IfOk (f x) P) → IfOk (ok_or o kind >>= f) P
  or_none None kind f next = tt
  or_none (Some x) kind f next = next x

  -- so many words
  of_one : (read : List ℕ → Result Line LineKind) → ((a : List ℕ) → IfOk (read a) P) → (words : List (List ℕ)) → IfOk (one_word read words) P
  of_one read h [] = tt
  of_one read h (a ∷ []) = h a
  of_one read h (a ∷ b ∷ words) = tt

  of_two : (read : List ℕ → List ℕ → Result Line LineKind) → ((a b : List ℕ) → IfOk (read a b) P) → (words : List (List ℕ)) → IfOk (two_words read words) P
  of_two read h [] = tt
  of_two read h (a ∷ []) = tt
  of_two read h (a ∷ b ∷ []) = h a b
  of_two read h (a ∷ b ∷ c ∷ words) = tt

  of_three : (read : List ℕ → List ℕ → List ℕ → Result Line LineKind) → ((a b c : List ℕ) → IfOk (read a b c) P) → (words : List (List ℕ)) → IfOk (three_words read words) P
  of_three read h [] = tt
  of_three read h (a ∷ words) = of_two (read a) (h a) words

  of_four : (read : List ℕ → List ℕ → List ℕ → List ℕ → Result Line LineKind) → ((a b c d : List ℕ) → IfOk (read a b c d) P) → (words : List (List ℕ)) → IfOk (four_words read words) P
  of_four read h [] = tt
  of_four read h (a ∷ words) = of_three (read a) (h a) words

  of_five : (read : List ℕ → List ℕ → List ℕ → List ℕ → List ℕ → Result Line LineKind) → ((a b c d e : List ℕ) → IfOk (read a b c d e) P) → (words : List (List ℕ)) → IfOk (five_words read words) P
  of_five read h [] = tt
  of_five read h (a ∷ words) = of_four (read a) (h a) words

  of_six : (read : List ℕ → List ℕ → List ℕ → List ℕ → List ℕ → List ℕ → Result Line LineKind) → ((a b c d e f : List ℕ) → IfOk (read a b c d e f) P) → (words : List (List ℕ)) → IfOk (six_words read words) P
  of_six read h [] = tt
  of_six read h (a ∷ words) = of_five (read a) (h a) words

  either : (b : Bool) (x y : Result Line LineKind) → IfOk x P → IfOk y P → IfOk (cond b x y) P
  either true x y p q = p
  either false x y p q = q

  by_word : (command word : List ℕ) (x y : Result Line LineKind) → IfOk x P → IfOk y P → IfOk (cond (bytes_eq command word) x y) P
  by_word command word x y = either (bytes_eq command word) x y

-- ---- scripts

module _ (P : Line → Type 0) (h : OfScript P) where
  puts : (words : List (List ℕ)) → IfOk (two_words put_line words) P
  puts = of_two P put_line (λ key value. and_then P (AreBytesWithin key_limit) (key_word key) _ (key_within key) (λ k short. and_then P (AreBytesWithin value_limit) (value_word value) _ (value_within value) (λ v few. h.put k v short.1 few.1)))

  dels : (words : List (List ℕ)) → IfOk (one_word del_line words) P
  dels = of_one P del_line (λ key. and_then P (AreBytesWithin key_limit) (key_word key) _ (key_within key) (λ k short. h.del k short.1))

  numbers : (line : ℕ → Line) → ((n : ℕ) → P (line n)) → (words : List (List ℕ)) → IfOk (one_word (number_line line) words) P
  numbers line is = of_one P (number_line line) (λ word. or_none P (number_word word) Number _ is)

  places : (line : PlaceWord → Line) → ((p : PlaceWord) → P (line p)) → (words : List (List ℕ)) → IfOk (one_word (place_line line) words) P
  places line is = of_one P (place_line line) (λ word. or_none P (place_word word) Place _ is)

  gets : (words : List (List ℕ)) → IfOk (two_words get_line words) P
  gets = of_two P get_line (λ place key. or_none P (place_word place) Place _ (λ p. and_then P (AreBytesWithin key_limit) (key_word key) _ (key_within key) (λ k short. h.get p k)))

  proves : (words : List (List ℕ)) → IfOk (two_words prove_line words) P
  proves = of_two P prove_line (λ root key. or_none P (root_word root) NoRoot _ (λ r. and_then P (AreBytesWithin key_limit) (key_word key) _ (key_within key) (λ k short. h.prove r k)))

  ranges : (words : List (List ℕ)) → IfOk (five_words range_line words) P
  ranges = of_five P range_line (λ root start end pairs bytes. or_none P (root_word root) NoRoot _ (λ r.
      and_then P IsBound (bound_word start) _ (bound_within start) (λ a ha.
      and_then P IsBound (bound_word end) _ (bound_within end) (λ b hb.
      and_then P (IsCount most_pairs) (ok_or (count_word most_pairs pairs) Number) _ (count_within most_pairs pairs) (λ n hn.
      and_then P (IsCount most_bytes) (ok_or (count_word most_bytes bytes) Number) _ (count_within most_bytes bytes) (λ z hz.
      and_then P (IsRange limits) (ok_or (range_between a b) Bounds) _ (range_within a b ha hb) (λ asked is.
      h.range r asked n z (record { range = is; some_pairs = hn.0; few_pairs = hn.1; some_bytes = hz.0; few_bytes = hz.1 }))))))))

  changed : (words : List (List ℕ)) → IfOk (six_words changes_line words) P
  changed = of_six P changes_line (λ from to start end pairs bytes. or_none P (root_word from) NoRoot _ (λ f. or_none P (root_word to) NoRoot _ (λ t.
      and_then P IsBound (bound_word start) _ (bound_within start) (λ a ha.
      and_then P IsBound (bound_word end) _ (bound_within end) (λ b hb.
      and_then P (IsCount most_pairs) (ok_or (count_word most_pairs pairs) Number) _ (count_within most_pairs pairs) (λ n hn.
      and_then P (IsCount most_bytes) (ok_or (count_word most_bytes bytes) Number) _ (count_within most_bytes bytes) (λ z hz.
      and_then P (IsRange limits) (ok_or (range_between a b) Bounds) _ (range_within a b ha hb) (λ asked is.
      h.changes f t asked n z (record { range = is; some_pairs = hn.0; few_pairs = hn.1; some_bytes = hz.0; few_bytes = hz.1 })))))))))

  commits : (words : List (List ℕ)) → IfOk (commit_words words) P
  commits [] = h.commit
  commits (word ∷ words) = tt

  scripts : (command : List ℕ) (words : List (List ℕ)) → IfOk (script_words command words) P
  scripts command words =
      by_word P command (codes "commit") (commit_words words) _ (commits words)
      (by_word P command (codes "view") (one_word (place_line View) words) _ (places View h.view words)
      (by_word P command (codes "take") (one_word (number_line Take) words) _ (numbers Take h.take words)
      (by_word P command (codes "close") (one_word (number_line Close) words) _ (numbers Close h.close words)
      (by_word P command (codes "state") (one_word (number_line State) words) _ (numbers State h.state words)
      (by_word P command (codes "get") (two_words get_line words) _ (gets words)
      (by_word P command (codes "root") (one_word (place_line Root) words) _ (places Root h.root words)
      (by_word P command (codes "prove") (two_words prove_line words) _ (proves words)
      (by_word P command (codes "range") (five_words range_line words) _ (ranges words)
      (by_word P command (codes "changes") (six_words changes_line words) (Err Word) (changed words) tt)))))))))

  script_by_words : (words : List (List ℕ)) → IfOk (line_of_words Script words) P
  script_by_words [] = h.skip
  script_by_words (command ∷ words) =
      by_word P command (codes "put") (two_words put_line words) _ (puts words)
      (by_word P command (codes "del") (one_word del_line words) (script_words command words) (dels words) (scripts command words))

  -- a line of a script
  pub of_script : (line : List ℕ) → IfOk (read_line Script line) P
  of_script line =
      either P (is_overlong line) (Err TooLong) (cond (is_comment line) (Ok Skip) (line_of_words Script (words_of line))) tt
      (either P (is_comment line) (Ok Skip) (line_of_words Script (words_of line)) h.skip (script_by_words (words_of line)))

-- ---- inputs of proofs

module _ (P : Line → Type 0) (h : OfVerify P) where
  points : (words : List (List ℕ)) → IfOk (three_words point_line words) P
  points = of_three P point_line (λ root key proof.
      and_then P IsId (ok_or (plain_root_word root) NoRoot) _ (has_or IsId (plain_root_word root) NoRoot (root_id root)) (λ r hr.
      and_then P (AreBytesWithin key_limit) (key_word key) _ (key_within key) (λ k hk.
      and_then P AreBytes (ok_or (hex_word proof) Hex) _ (has_or AreBytes (hex_word proof) Hex (hex_word_bytes proof)) (λ p hp.
      h.point r k p (record { root_bytes = hr.0; root_length = hr.1; key_bytes = hk.0; key_short = hk.1; proof_bytes = hp })))))

  checked_ranges : (line : List ℕ → Range → List ℕ → Line) → ((root : List ℕ) (asked : Range) (proof : List ℕ) → IsRangeLine root asked proof → P (line root asked proof))
      → (words : List (List ℕ)) → IfOk (four_words (verify_range_line line) words) P
  checked_ranges line is_had = of_four P (verify_range_line line) (λ root start end proof.
      and_then P IsId (ok_or (plain_root_word root) NoRoot) _ (has_or IsId (plain_root_word root) NoRoot (root_id root)) (λ r hr.
      and_then P IsBound (bound_word start) _ (bound_within start) (λ a ha.
      and_then P IsBound (bound_word end) _ (bound_within end) (λ b hb.
      and_then P AreBytes (ok_or (hex_word proof) Hex) _ (has_or AreBytes (hex_word proof) Hex (hex_word_bytes proof)) (λ p hp.
      and_then P (IsRange limits) (ok_or (range_between a b) Bounds) _ (range_within a b ha hb) (λ asked is.
      is_had r asked p (record { root_bytes = hr.0; root_length = hr.1; range = is; proof_bytes = hp })))))))

  verify_by_words : (words : List (List ℕ)) → IfOk (line_of_words Verify words) P
  verify_by_words [] = h.skip
  verify_by_words (command ∷ words) =
      by_word P command (codes "point") (three_words point_line words) _ (points words)
      (by_word P command (codes "range") (four_words (verify_range_line VerifyRange) words) _ (checked_ranges VerifyRange h.range words)
      (by_word P command (codes "changes") (four_words (verify_range_line VerifyChanges) words) (Err Word) (checked_ranges VerifyChanges h.changes words) tt))

  -- a line of an input of proofs
  pub of_verify : (line : List ℕ) → IfOk (read_line Verify line) P
  of_verify line =
      either P (is_overlong line) (Err TooLong) (cond (is_comment line) (Ok Skip) (line_of_words Verify (words_of line))) tt
      (either P (is_comment line) (Ok Skip) (line_of_words Verify (words_of line)) h.skip (verify_by_words (words_of line)))
