-- Words that stand for a range and for how much of it is asked for: what they stand for.
use Rattle.std.proofs.Common.{◌≡◌, ℕ, ◌≤◌, ◌&&◌, Bool, true, false, nat_le, cond, List, length, refl, Option, Some, None, Result, Ok, Err}
use Rattle.std.specs.Prelude.{codes, IfOk, IfSome}
use Rattle.std.specs.Option.{ok_or}
use Rattle.std.specs.Str.{bytes_eq}
use Rattle.std.proofs.lemmas.Bool.{leb-true}
use Rattle.base_model.specs.Bytes.{AreBytes}
use Rattle.base_model.specs.Fields.{◌>>=◌}
use Rattle.trie_model.specs.Maps.{limits}
use Rattle.range_model.specs.Ranges.{IsRange, bound_limit, are_in_order}
use Rattle.text_model.specs.Words.{hex_word, number_word, from_one_to, count_word, range_between}
use Rattle.text_model.specs.LineKind.{LineKind, LongKey, Number, Bounds}
use Rattle.text_model.specs.ReadLine.{at_most, bound_word}
use Rattle.text_model.proofs.WordBytes.{AreBytesWithin, within, hex_word_bytes}

-- a bound within the limit, or none
abbrev pub IsBound : Option (List ℕ) → Type 0
IsBound bound = IfSome bound (AreBytesWithin (bound_limit limits))

pub bound_within : (word : List ℕ) → IfOk (bound_word word) IsBound
bound_within word = go (bytes_eq word (codes "*")) (at_most (bound_limit limits) LongKey (hex_word word)) (within (bound_limit limits) LongKey (hex_word word) (hex_word_bytes word))
  where
    go : (b : Bool) (r : Result (List ℕ) LineKind) → IfOk r (AreBytesWithin (bound_limit limits)) → IfOk (cond b (Ok None) (r >>= (λ x. Ok (Some x)))) IsBound
    go true r h = tt
    go false (Ok bytes) h = h
    go false (Err kind) h = tt

-- a number from 1 to a limit
abbrev pub IsCount : ℕ → ℕ → Type 0
IsCount limit n = (1 ≤ n) × (n ≤ limit)

pub count_within : (limit : ℕ) (word : List ℕ) → IfOk (ok_or (count_word limit word) Number) (IsCount limit)
count_within limit word = go (number_word word)
  where
    by_tests : (n : ℕ) (a b : Bool) → nat_le 1 n ≡ a → nat_le n limit ≡ b → IfOk (ok_or (cond (a && b) (Some n) None) Number) (IsCount limit)
    by_tests n true true some few = (leb-true 1 n some, leb-true n limit few)
    by_tests n true false some few = tt
    by_tests n false b some few = tt

    go : (o : Option ℕ) → IfOk (ok_or (from_one_to limit o) Number) (IsCount limit)
    go None = tt
    go (Some n) = by_tests n (nat_le 1 n) (nat_le n limit) refl refl

bytes_of : (bound : Option (List ℕ)) → IsBound bound → IfSome bound AreBytes
bytes_of None h = tt
bytes_of (Some bytes) h = h.0

short_of : (bound : Option (List ℕ)) → IsBound bound → IfSome bound (λ b. length b ≤ bound_limit limits)
short_of None h = tt
short_of (Some bytes) h = h.1

pub range_within : (start end : Option (List ℕ)) → IsBound start → IsBound end → IfOk (ok_or (range_between start end) Bounds) (IsRange limits)
range_within start end a b = go (are_in_order start end) refl
  where
    go : (test : Bool) → are_in_order start end ≡ test → IfOk (ok_or (cond test (Some (record { start = start; end = end })) None) Bounds) (IsRange limits)
    go false is = tt
    go true is = record { start_bytes = bytes_of start a; end_bytes = bytes_of end b; start_short = short_of start a; end_short = short_of end b; order = is }
