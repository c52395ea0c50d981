-- The words of the command line: a folder, the command, its factor, and the command's own words.
use Rattle.std.specs.Prelude.{ℕ, suc, ◌+◌, Bool, true, false, if◌then◌else◌, List, [], ◌∷◌, codes, Option, Some, None, Result, Ok, Err}
use Rattle.std.specs.Str.{bytes_eq}
use Rattle.std.specs.Result.{result_ok}
use Rattle.range_model.specs.Ranges.{Range as Bounds}
use Rattle.text_model.specs.ReadLine.{key_word, bound_word}
use Rattle.text_model.specs.Words.{RootWord, root_word, most_pairs, most_bytes, count_word, range_between}

-- a command, with what its own words say
pub data Command : Type 0 where
  -- the root of the map that the input makes
  Root : Command
  -- a script on a store
  Apply : Command
  -- the value of a key
  Get : List ℕ → Command
  -- the proof of a key, in the map that a root names
  Prove : RootWord → List ℕ → Command
  -- the proof of a range, in the map that a root names, with so many pairs and so many bytes of them at most
  Range : RootWord → Bounds → ℕ → ℕ → Command
  -- the proof of what changed in a range from the map of one root to that of another, with so many changes and so many bytes of
  -- them at most
  Changes : RootWord → RootWord → Bounds → ℕ → ℕ → Command
  -- whether the proofs of the input are accepted
  Verify : Command

-- whether a command may use a store, which lies in the folder: `verify` does where a line tells of changes
abbrev pub uses_store : Command → Bool
uses_store Root = false
uses_store Apply = true
uses_store (Get key) = true
uses_store (Prove root key) = true
uses_store (Range root asked pairs bytes) = true
uses_store (Changes from to asked pairs bytes) = true
uses_store Verify = true

-- whether a command names a map, which the store may not have
abbrev pub names_map : Command → Bool
names_map (Prove root key) = true
names_map (Range root asked pairs bytes) = true
names_map (Changes from to asked pairs bytes) = true
names_map other = false

-- whether a command checks proofs
abbrev pub checks_proofs : Command → Bool
checks_proofs Verify = true
checks_proofs other = false

-- what words ask for: a command, and the number of bits of a token
pub record Job : Type 0 where
  pub width : ℕ
  pub command : Command

-- the bits of a token, by the word of a branch factor
abbrev pub factor_word : List ℕ → Option ℕ
factor_word word =
    if bytes_eq word (codes "2") then Some 1
    else if bytes_eq word (codes "4") then Some 2
    else if bytes_eq word (codes "16") then Some 4
    else if bytes_eq word (codes "256") then Some 8
    else None

-- a job, where there is a factor and its command's own words are understood
abbrev pub job_with : Option ℕ → Result Command ℕ → Result Job ℕ
job_with None command = Err 3
job_with (Some width) (Err place) = Err place
job_with (Some width) (Ok command) = Ok (record { width = width; command = command })

-- the words after the command, of which those after the factor are its own
abbrev pub job_words : (List (List ℕ) → Result Command ℕ) → List (List ℕ) → Result Job ℕ
job_words own [] = Err 3
job_words own (factor ∷ words) = job_with (factor_word factor) (own words)

-- no word from this place on
abbrev pub no_more : ℕ → Command → List (List ℕ) → Result Command ℕ
no_more place command [] = Ok command
no_more place command (word ∷ words) = Err place

-- a command without words of its own
abbrev pub no_words : Command → List (List ℕ) → Result Command ℕ
no_words = no_more 4

-- what a word at this place stands for, and the words behind it
abbrev pub with_word : {A : Type 0} → ℕ → Option A → (A → Result Command ℕ) → Result Command ℕ
with_word place None behind = Err place
with_word place (Some x) behind = behind x

-- a key at this place, and no word behind it
abbrev pub key_words : ℕ → (List ℕ → Command) → List (List ℕ) → Result Command ℕ
key_words place command [] = Err place
key_words place command (word ∷ words) = with_word place (result_ok (key_word word)) (λ key. no_more (suc place) (command key) words)

-- `get` has a key
abbrev pub get_words : List (List ℕ) → Result Command ℕ
get_words = key_words 4 Get

-- `prove` has a root and a key
abbrev pub prove_words : List (List ℕ) → Result Command ℕ
prove_words [] = Err 4
prove_words (word ∷ words) = with_word 4 (root_word word) (λ root. key_words 5 (Prove root) words)

-- a word that is read so stands at this place, and others behind it
abbrev pub word_then : {A : Type 0} → ℕ → (List ℕ → Option A) → (A → List (List ℕ) → Result Command ℕ) → List (List ℕ) → Result Command ℕ
word_then place read behind [] = Err place
word_then place read behind (word ∷ words) = with_word place (read word) (λ x. behind x words)

-- the range between a start and an end that was read, unless that is below the start
abbrev pub range_to : Option (List ℕ) → Option (Option (List ℕ)) → Option Bounds
range_to start None = None
range_to start (Some end) = range_between start end

-- the range from a start to the end that a word stands for
abbrev pub end_word : Option (List ℕ) → List ℕ → Option Bounds
end_word start word = range_to start (result_ok (bound_word word))

-- at this place a start, an end that is not below it, and how many entries and bytes of them, and no word behind them
abbrev pub asked_words : ℕ → (Bounds → ℕ → ℕ → Command) → List (List ℕ) → Result Command ℕ
asked_words place command =
    word_then place (λ word. result_ok (bound_word word)) (λ start.
    word_then (place + 1) (end_word start) (λ asked.
    word_then (place + 2) (count_word most_pairs) (λ pairs.
    word_then (place + 3) (count_word most_bytes) (λ bytes.
    no_more (place + 4) (command asked pairs bytes)))))

-- `range` has a root, and what is asked of its map
abbrev pub range_words : List (List ℕ) → Result Command ℕ
range_words = word_then 4 root_word (λ root. asked_words 5 (Range root))

-- `changes` has the former root, the later one, and what is asked of the changes between their maps
abbrev pub changes_words : List (List ℕ) → Result Command ℕ
changes_words = word_then 4 root_word (λ from. word_then 5 root_word (λ to. asked_words 6 (Changes from to)))

-- where a store is used, word 1 is its folder, and not `-`
abbrev pub in_folder : List ℕ → Result Job ℕ → Result Job ℕ
in_folder folder job = if bytes_eq folder (codes "-") then Err 1 else job

-- the words after the folder
abbrev pub command_words : List ℕ → List (List ℕ) → Result Job ℕ
command_words folder [] = Err 2
command_words folder (command ∷ words) =
    if bytes_eq command (codes "root") then job_words (no_words Root) words
    else if bytes_eq command (codes "apply") then in_folder folder (job_words (no_words Apply) words)
    else if bytes_eq command (codes "get") then in_folder folder (job_words get_words words)
    else if bytes_eq command (codes "prove") then in_folder folder (job_words prove_words words)
    else if bytes_eq command (codes "range") then in_folder folder (job_words range_words words)
    else if bytes_eq command (codes "changes") then in_folder folder (job_words changes_words words)
    else if bytes_eq command (codes "verify") then job_words (no_words Verify) words
    else Err 2

-- the job that the words stand for, or the place, counted from 1, of the first word outside the grammar: one past
-- the last where a word is missing
abbrev pub job_of : List (List ℕ) → Result Job ℕ
job_of [] = Err 1
job_of (folder ∷ words) = command_words folder words
