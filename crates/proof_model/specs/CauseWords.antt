-- Why bytes do not prove what they are to prove, in the words that are printed.
use Rattle.std.specs.Prelude.{ℕ, List, ◌++◌, codes, decimal}
use Rattle.hex.specs.Hex.{encode_lower}
use Rattle.proof_model.specs.Refusals.{Refusal, Unsorted, Outside, PathOrder, PathsDiffer, Idle, RootDiffers}
use Rattle.proof_model.specs.CheckedBytes.{Cause, NotRead, NotAccepted}

abbrev pub refusal_words : Refusal → List ℕ
refusal_words (Unsorted i) = codes "unsorted " ++ decimal i
refusal_words (Outside i) = codes "outside " ++ decimal i
refusal_words (PathOrder i) = codes "path order " ++ decimal i
refusal_words (PathsDiffer i) = codes "paths differ " ++ decimal i
refusal_words (Idle i) = codes "idle " ++ decimal i
refusal_words (RootDiffers have want) = codes "root differs " ++ encode_lower have ++ codes " " ++ encode_lower want

-- bytes that are no proof are told by the place of the first field that is wrong
abbrev pub cause_words : Cause → List ℕ
cause_words (NotRead fault) = codes "bytes at " ++ decimal fault.at
cause_words (NotAccepted why) = refusal_words why
