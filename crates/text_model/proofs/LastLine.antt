-- What a map that lines make has at a key.
use Rattle.std.proofs.Common.{◌≡◌, ◌≢◌, ℕ, true, false, cond, List, [], ◌∷◌, ◌++◌, refl, sym, ap, ◌∙◌, Some, None, Result, Ok, Ordering, Less, Equal, Greater}
use Rattle.std.specs.Ordering.{is_eq, eq_by_cmp}
use Rattle.std.specs.Cmp.{tied_itself}
use Rattle.std.specs.FinMap.{get, empty, get-insert, get-remove, get-empty}
use Rattle.std.proofs.lemmas.Cmp.{nat_list_cmp_total}
use Rattle.base_model.specs.Bytes.{bytes_cmp}
use Rattle.trie_model.specs.Maps.{Map}
use Rattle.trie_model.proofs.Entries.{tied_equal}
use Rattle.text_model.specs.LineKind.{LineKind}
use Rattle.text_model.specs.ReadLine.{Batch, Line, Put, Del, read_line}
use Rattle.text_model.specs.MapOfLines.{after_read, after_lines}
use Rattle.text_model.specs.Laws.{IsSilentOn, AreSilentOn, LastLineCounts}

-- keys that differ do not tie
untied : (k key : List ℕ) → key ≢ k → eq_by_cmp bytes_cmp k key ≡ false
untied k key differ = go (bytes_cmp k key) refl
  where
    go : (o : Ordering) → bytes_cmp k key ≡ o → is_eq o ≡ false
    go Less h = refl
    go Equal h = absurd (differ (sym (tied_equal k key h)))
    go Greater h = refl

itself : (k : List ℕ) → eq_by_cmp bytes_cmp k k ≡ true
itself k = ap is_eq (tied_itself nat_list_cmp_total k)

-- a line that says nothing of a key leaves it alone
silent_line : (m : Map) (k : List ℕ) (o : Result Line LineKind) → IsSilentOn k o → get (after_read m o) k ≡ get m k
silent_line m k (Ok (Put key value)) h = get-insert nat_list_cmp_total m key value k ∙ ap (λ b. cond b (Some value) (get m k)) (untied k key h)
silent_line m k (Ok (Del key)) h = get-remove nat_list_cmp_total m key k ∙ ap (λ b. cond b None (get m k)) (untied k key h)
silent_line m k other h = refl

silent_lines : (m : Map) (k : List ℕ) (lines : List (List ℕ)) → AreSilentOn k lines → get (after_lines m lines) k ≡ get m k
silent_lines m k [] h = refl
silent_lines m k (line ∷ lines) h = silent_lines (after_read m (read_line Batch line)) k lines h.1 ∙ silent_line m k (read_line Batch line) h.0

-- the lines before one, that one, and those after it
one_by_one : (m : Map) (before after : List (List ℕ)) (line : List ℕ) → after_lines m (before ++ line ∷ after) ≡ after_lines (after_read (after_lines m before) (read_line Batch line)) after
one_by_one m [] after line = refl
one_by_one m (first ∷ before) after line = one_by_one (after_read m (read_line Batch first)) before after line

-- what stands at a key after a line on it
at_line : (m : Map) (k : List ℕ) (before after : List (List ℕ)) (line : List ℕ) (o : Result Line LineKind) → read_line Batch line ≡ o → AreSilentOn k after
    → get (after_lines m (before ++ line ∷ after)) k ≡ get (after_read (after_lines m before) o) k
at_line m k before after line o is h =
    ap (λ (n : Map). get n k) (one_by_one m before after line)
    ∙ silent_lines (after_read (after_lines m before) (read_line Batch line)) k after h
    ∙ ap (λ (p : Result Line LineKind). get (after_read (after_lines m before) p) k) is

-- the last line on a key counts
pub last_line_counts : LastLineCounts
last_line_counts = record {
  put = λ k v before after line is h.
      let m = after_lines empty before in
      at_line empty k before after line (Ok (Put k v)) is h ∙ get-insert nat_list_cmp_total m k v k ∙ ap (λ b. cond b (Some v) (get m k)) (itself k);
  del = λ k before after line is h.
      let m = after_lines empty before in
      at_line empty k before after line (Ok (Del k)) is h ∙ get-remove nat_list_cmp_total m k k ∙ ap (λ b. cond b None (get m k)) (itself k);
  none = λ k lines h. silent_lines empty k lines h ∙ get-empty bytes_cmp k;
}
