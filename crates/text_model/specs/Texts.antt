-- The texts that a run prints, and those of its statuses.
use Rattle.std.specs.Prelude.{ℕ, List, [], ◌∷◌, ◌++◌, Option, Some, None, codes, decimal}
use Rattle.hex.specs.Hex.{encode_lower}

-- the line of a root
abbrev pub root_text : List ℕ → List ℕ
root_text id = codes "root " ++ encode_lower id ++ 10 ∷ []

-- a line of some sort that tells a root behind a number
abbrev pub numbered_text : List ℕ → ℕ → List ℕ → List ℕ
numbered_text sort number id = sort ++ decimal number ++ codes " " ++ encode_lower id ++ 10 ∷ []

-- the line of a commit: its number, and the root after it
abbrev pub commit_text : ℕ → List ℕ → List ℕ
commit_text number id = numbered_text (codes "commit ") number id

-- the line of a view that was made: its number, and its root
abbrev pub view_text : ℕ → List ℕ → List ℕ
view_text number id = numbered_text (codes "view ") number id

-- the line of a view that was committed: its number, and the root after it
abbrev pub taken_text : ℕ → List ℕ → List ℕ
taken_text number id = numbered_text (codes "taken ") number id

-- the line of a view that was closed: its number
abbrev pub closed_text : ℕ → List ℕ
closed_text number = codes "closed " ++ decimal number ++ 10 ∷ []

-- the line of how a view stands: its number, and the word of its state
abbrev pub state_text : ℕ → List ℕ → List ℕ
state_text number state = codes "state " ++ decimal number ++ codes " " ++ state ++ 10 ∷ []

-- the line of a script's line that is refused: why
abbrev pub refused_text : List ℕ → List ℕ
refused_text cause = codes "refused " ++ cause ++ 10 ∷ []

-- the word that stands for bytes, with small digits: a dash for no bytes
abbrev pub word_of_bytes : List ℕ → List ℕ
word_of_bytes [] = codes "-"
word_of_bytes (b ∷ bytes) = encode_lower (b ∷ bytes)

-- the line of what is at a key: a value, or none
abbrev pub value_text : Option (List ℕ) → List ℕ
value_text (Some value) = codes "value " ++ word_of_bytes value ++ 10 ∷ []
value_text None = codes "none" ++ 10 ∷ []

-- the line of a proof: its bytes, of which it has some
abbrev pub proof_text : List ℕ → List ℕ
proof_text bytes = codes "proof " ++ encode_lower bytes ++ 10 ∷ []

-- the line of a range proof: its bytes, of which it has some
abbrev pub range_text : List ℕ → List ℕ
range_text bytes = codes "range " ++ encode_lower bytes ++ 10 ∷ []

-- the line of a change proof
abbrev pub changes_text : List ℕ → List ℕ
changes_text bytes = codes "changes " ++ encode_lower bytes ++ 10 ∷ []

-- the line of a proof that is accepted: how many pairs it shows
abbrev pub ok_text : ℕ → List ℕ
ok_text pairs = codes "ok " ++ decimal pairs ++ 10 ∷ []

abbrev pub done_text : List ℕ
done_text = codes "mdb: done"

abbrev pub word_text : ℕ → List ℕ
word_text place = codes "mdb: word " ++ decimal place ++ codes " is not understood"

abbrev pub line_text : ℕ → List ℕ
line_text number = codes "mdb: line " ++ decimal number ++ codes " is not understood"

-- the line of this number tells of a proof that is refused, and why
abbrev pub proof_refused_text : ℕ → List ℕ → List ℕ
proof_refused_text number cause = codes "mdb: line " ++ decimal number ++ codes " refused, " ++ cause

abbrev pub not_held_text : List ℕ
not_held_text = codes "mdb: root not held"

-- the file of this number is no store's
abbrev pub no_store_text : ℕ → List ℕ
no_store_text file = codes "mdb: file " ++ decimal file ++ codes " is no store"

-- a store has the one branch factor, and the other was asked for
abbrev pub branch_text : ℕ → ℕ → List ℕ
branch_text kept asked = codes "mdb: the store has factor " ++ decimal kept ++ codes ", asked was " ++ decimal asked

-- the file of this number is damaged, and where
abbrev pub damaged_text : ℕ → ℕ → List ℕ
damaged_text file place = codes "mdb: file " ++ decimal file ++ codes " is damaged at " ++ decimal place

-- which limit of a run was passed
pub data LimitKind : Type 0 where
  -- the bytes of its input
  Input : LimitKind
  -- the pairs of a store
  Pairs : LimitKind
  -- the bytes of a batch, or the number of batches
  Batch : LimitKind
  -- the answers that are accepted
  Answers : LimitKind

abbrev pub limit_word : LimitKind → List ℕ
limit_word Input = codes "input"
limit_word Pairs = codes "pairs"
limit_word Batch = codes "batch"
limit_word Answers = codes "answers"

abbrev pub limit_text : LimitKind → List ℕ
limit_text kind = codes "mdb: limit " ++ limit_word kind

abbrev pub read_text : List ℕ
read_text = codes "mdb: reading failed"

abbrev pub write_text : List ℕ
write_text = codes "mdb: writing failed"

abbrev pub disk_text : List ℕ
disk_text = codes "mdb: disk failed"

abbrev pub no_memory_text : List ℕ
no_memory_text = codes "mdb: no memory"
