-- The bounds of a range that stand in place.
use Rattle.std.proofs.Common.{◌≡◌, ℕ, ◌≤◌, true, List, length, Option, Some, None, Result, Ok}
use Rattle.std.specs.Prelude.{IfOk, IfSome}
use Rattle.base_model.specs.Bytes.{AreBytes}
use Rattle.trie_model.specs.Maps.{limits}
use Rattle.range_model.specs.Ranges.{IsRange, are_in_order, bound_limit}
use Rattle.text_model.specs.LineKind.{LineKind, LongKey}
use Rattle.text_model.specs.ReadLine.{at_most}
use Rattle.text_model.specs.Words.{hex_word}
use Rattle.text_model.proofs.WordBytes.{AreBytesWithin, within, hex_word_bytes}
use Rattle.batch_text.specs.BoundWords.{IsShort, IsBound}

-- bytes that a word stands for, within the limit of a bound
pub read_short : (word bytes : List ℕ) → at_most (bound_limit limits) LongKey (hex_word word) ≡ Ok bytes → IsShort bytes
read_short word bytes is = told (at_most (bound_limit limits) LongKey (hex_word word)) (within (bound_limit limits) LongKey (hex_word word) (hex_word_bytes word)) is
  where
    told : (read : Result (List ℕ) LineKind) → IfOk read (AreBytesWithin (bound_limit limits)) → read ≡ Ok bytes → IsShort bytes
    told read h e = let k : AreBytesWithin (bound_limit limits) bytes = rw e at h in record { are_bytes = k.0; short = k.1 }

bytes_of : (bound : Option (List ℕ)) → IsBound bound → IfSome bound AreBytes
bytes_of None h = tt
bytes_of (Some bytes) h = h.are_bytes

short_of : (bound : Option (List ℕ)) → IsBound bound → IfSome bound (λ b. length b ≤ bound_limit limits)
short_of None h = tt
short_of (Some bytes) h = h.short

-- bounds that are in order are those of a range
pub in_range : (start end : Option (List ℕ)) → IsBound start → IsBound end → are_in_order start end ≡ true → IsRange limits (record { start = start; end = end })
in_range start end a b o = record { start_bytes = bytes_of start a; end_bytes = bytes_of end b; start_short = short_of start a; end_short = short_of end b; order = o }
