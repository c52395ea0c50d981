-- What lines make is a map: each line keeps it one.
use Rattle.std.proofs.Common.{◌≡◌, ℕ, Bool, true, false, cond, List, [], ◌∷◌, refl, sym, ◌∙◌, subst, inl, inr, Option, Some, None, Result, Ok, Err, Ordering, Less, Equal, Greater}
use Rattle.std.specs.Prelude.{codes, IfOk}
use Rattle.std.specs.List.{AllByRecursion}
use Rattle.std.specs.Ordering.{eq_by_cmp}
use Rattle.std.specs.Str.{bytes_eq}
use Rattle.std.specs.FinMap.{get, insert, remove, empty, entries, entries-insert, get-remove, get-empty}
use Rattle.std.specs.FinMap.Entries.{put, by_order}
use Rattle.std.proofs.lemmas.Cmp.{nat_list_cmp_total}
use Rattle.base_model.specs.Bytes.{bytes_cmp}
use Rattle.base_model.specs.Member.{Member}
use Rattle.trie_model.specs.Maps.{Map, IsPair, IsMap, key_limit, value_limit, limits}
use Rattle.trie_model.proofs.Lists.{All-member}
use Rattle.trie_model.proofs.Entries.{member_of_get, get_of_member}
use Rattle.text_model.specs.Lines.{is_overlong}
use Rattle.text_model.specs.Words.{words_of}
use Rattle.base_model.specs.Fields.{◌>>=◌}
use Rattle.text_model.specs.LineKind.{LineKind, TooLong, Word}
use Rattle.text_model.specs.ReadLine.{Batch, Line, Skip, Put, Del, is_comment, key_word, value_word, one_word, two_words, put_line, del_line, line_of_words, read_line}
use Rattle.text_model.specs.MapOfLines.{after_read, after_lines}
use Rattle.text_model.specs.Laws.{LinesMakeMaps}
use Rattle.text_model.proofs.WordBytes.{AreBytesWithin, key_within, value_within}

-- ---- maps by what they answer
-- what holds of each member holds of each
All-of-members : (P : List ℕ × List ℕ → Type 0) (es : List (List ℕ × List ℕ)) → ((e : List ℕ × List ℕ) → Member es e → P e) → AllByRecursion P es
All-of-members P [] h = tt
All-of-members P (e ∷ es) h = (h e (inl refl), All-of-members P es (λ f m. h f (inr m)))

-- what a map answers is a pair within the limits
abbrev Answers : Map → Type 0
Answers m = (k v : List ℕ) → get m k ≡ Some v → IsPair limits (k, v)

answers : (m : Map) → IsMap limits m → Answers m
answers m h k v g = All-member (IsPair limits) (entries m) (k, v) h (member_of_get m k v g)

by_answers : (m : Map) → Answers m → IsMap limits m
by_answers m h = All-of-members (IsPair limits) (entries m) (λ e i. h e.0 e.1 (get_of_member m e.0 e.1 i))

-- ---- maps after a line
empty_map : IsMap limits empty
empty_map = by_answers empty (λ k v g. let no : ⊥ = cc (g, get-empty {X = List ℕ} bytes_cmp k) in absurd no)

-- a map with a pair put into it
put_pair : (es : List (List ℕ × List ℕ)) (k v : List ℕ) → IsPair limits (k, v) → AllByRecursion (IsPair limits) es → AllByRecursion (IsPair limits) (put bytes_cmp k v es)
put_pair [] k v p h = (p, tt)
put_pair (e ∷ es) k v p h = go (bytes_cmp k e.0) (put_pair es k v p h.1)
  where
    go : (o : Ordering) → AllByRecursion (IsPair limits) (put bytes_cmp k v es) → AllByRecursion (IsPair limits) (by_order o ((k, v) ∷ e ∷ es) ((e.0, v) ∷ es) (e ∷ put bytes_cmp k v es))
    go Less rest = (p, h)
    go Equal rest = (record { key_bytes = h.0.key_bytes; value_bytes = p.value_bytes; key_short = h.0.key_short; value_short = p.value_short }, h.1)
    go Greater rest = (h.0, rest)

inserted_map : (m : Map) (k v : List ℕ) → IsPair limits (k, v) → IsMap limits m → IsMap limits (insert m k v)
inserted_map m k v p h = subst (AllByRecursion (IsPair limits)) (sym (entries-insert nat_list_cmp_total m k v)) (put_pair (entries m) k v p h)

kept : (b : Bool) (o : Option (List ℕ)) (v : List ℕ) → cond b None o ≡ Some v → o ≡ Some v
kept true o v g = absurd (cc g)
kept false o v g = g

removed_map : (m : Map) (k : List ℕ) → IsMap limits m → IsMap limits (remove m k)
removed_map m k h = by_answers (remove m k) (λ q v g. answers m h q v (kept (eq_by_cmp bytes_cmp q k) (get m q) v (sym (get-remove nat_list_cmp_total m k q) ∙ g)))

-- ---- what lines do
-- what a line puts is a pair within the limits
abbrev PutsPair : Result Line LineKind → Type 0
PutsPair (Ok (Put key value)) = IsPair limits (key, value)
PutsPair other = Unit {0}

put_puts : (key value : Result (List ℕ) LineKind) → IfOk key (AreBytesWithin key_limit) → IfOk value (AreBytesWithin value_limit) → PutsPair (key >>= (λ k. value >>= (λ v. Ok (Put k v))))
put_puts (Err kind) value k v = tt
put_puts (Ok key) (Err kind) k v = tt
put_puts (Ok key) (Ok value) k v = record { key_bytes = k.0; value_bytes = v.0; key_short = k.1; value_short = v.1 }

puts_put : (words : List (List ℕ)) → PutsPair (two_words put_line words)
puts_put [] = tt
puts_put (key ∷ []) = tt
puts_put (key ∷ value ∷ []) = put_puts (key_word key) (value_word value) (key_within key) (value_within value)
puts_put (key ∷ value ∷ word ∷ words) = tt

del_puts : (key : Result (List ℕ) LineKind) → PutsPair (key >>= (λ k. Ok (Del k)))
del_puts (Err kind) = tt
del_puts (Ok key) = tt

dels_put : (words : List (List ℕ)) → PutsPair (one_word del_line words)
dels_put [] = tt
dels_put (key ∷ []) = del_puts (key_word key)
dels_put (key ∷ word ∷ words) = tt

one_of : (b : Bool) (x y : Result Line LineKind) → PutsPair x → PutsPair y → PutsPair (cond b x y)
one_of true x y p q = p
one_of false x y p q = q

words_put : (words : List (List ℕ)) → PutsPair (line_of_words Batch words)
words_put [] = tt
words_put (command ∷ words) =
    one_of (bytes_eq command (codes "put")) (two_words put_line words) (cond (bytes_eq command (codes "del")) (one_word del_line words) (Err Word)) (puts_put words)
    (one_of (bytes_eq command (codes "del")) (one_word del_line words) (Err Word) (dels_put words) tt)

line_puts : (line : List ℕ) → PutsPair (read_line Batch line)
line_puts line =
    one_of (is_overlong line) (Err TooLong) (cond (is_comment line) (Ok Skip) (line_of_words Batch (words_of line))) tt
    (one_of (is_comment line) (Ok Skip) (line_of_words Batch (words_of line)) tt (words_put (words_of line)))

line_map : (m : Map) (o : Result Line LineKind) → PutsPair o → IsMap limits m → IsMap limits (after_read m o)
line_map m (Ok (Put key value)) p h = inserted_map m key value p h
line_map m (Ok (Del key)) p h = removed_map m key h
line_map m other p h = h

lines_map : (m : Map) (lines : List (List ℕ)) → IsMap limits m → IsMap limits (after_lines m lines)
lines_map m [] h = h
lines_map m (line ∷ lines) h = lines_map (after_read m (read_line Batch line)) lines (line_map m (read_line Batch line) (line_puts line) h)

-- what lines make is a map within the limits
pub lines_make_maps : LinesMakeMaps
lines_make_maps lines = lines_map empty lines empty_map
