-- What the words of the command line ask for of a range, and of changes in one.
use Rattle.std.proofs.Common.{◌≡◌, ℕ, suc, Bool, true, false, cond, List, [], ◌∷◌, Option, Some, None, Result, Ok, Err}
use Rattle.std.specs.Prelude.{◌+◌, codes, IfOk, IfSome}
use Rattle.std.specs.Option.{ok_or}
use Rattle.std.specs.Result.{result_ok}
use Rattle.std.specs.Str.{bytes_eq}
use Rattle.trie_model.specs.Maps.{limits}
use Rattle.range_model.specs.Ranges.{Range as Bounds, IsRange}
use Rattle.text_model.specs.LineKind.{LineKind, Number, Bounds as NoRange}
use Rattle.text_model.specs.Laws.{IsAskedRange}
use Rattle.text_model.specs.ReadLine.{key_word, bound_word}
use Rattle.text_model.specs.Words.{RootWord, root_word, most_pairs, most_bytes, count_word, range_between}
use Rattle.text_model.proofs.RangeWords.{IsBound, IsCount, bound_within, count_within, range_within}
use Rattle.run_model.specs.Command.{Command, Root, Apply, Get, Prove, Range, Changes, Verify, Job, factor_word, job_with, job_words, no_more, no_words, with_word, key_words, get_words, prove_words, word_then, range_to, end_word, asked_words, range_words, changes_words, in_folder, command_words, job_of}
use Rattle.run_model.specs.Laws.{RangeWordsAreWithin}

-- a command asks for a range within the limits, or for none
abbrev Says : Command → Type 0
Says (Range root asked pairs bytes) = IsAskedRange asked pairs bytes
Says (Changes from to asked pairs bytes) = IsAskedRange asked pairs bytes
Says other = Unit {0}

abbrev JobSays : Job → Type 0
JobSays job = Says job.command

-- ---- one word after another

of_ok : {A : Type 0} (Q : A → Type 0) (r : Result A LineKind) → IfOk r Q → IfSome (result_ok r) Q
of_ok Q (Ok x) h = h
of_ok Q (Err kind) h = tt

of_or : {A : Type 0} (Q : A → Type 0) (o : Option A) (kind : LineKind) → IfOk (ok_or o kind) Q → IfSome o Q
of_or Q (Some x) kind h = h
of_or Q None kind h = tt

-- a word with a property, and those behind it
then_says : {A : Type 0} (Q : A → Type 0) (place : ℕ) (read : List ℕ → Option A) (behind : A → List (List ℕ) → Result Command ℕ) → ((word : List ℕ) → IfSome (read word) Q) → ((x : A) → Q x → (words : List (List ℕ)) → IfOk (behind x words) Says)
    → (words : List (List ℕ)) → IfOk (word_then place read behind words) Says
then_says Q place read behind has next [] = tt
then_says {A} Q place read behind has next (word ∷ words) = go (read word) (has word)
  where
    go : (o : Option A) → IfSome o Q → IfOk (with_word place o (λ x. behind x words)) Says
    go None h = tt
    go (Some x) h = next x h words

any : {A : Type 0} (o : Option A) → IfSome o (λ x. Unit {0})
any None = tt
any (Some x) = tt

end_within : (start : Option (List ℕ)) → IsBound start → (word : List ℕ) → IfSome (end_word start word) (IsRange limits)
end_within start h word = go (bound_word word) (bound_within word)
  where
    go : (r : Result (Option (List ℕ)) LineKind) → IfOk r IsBound → IfSome (range_to start (result_ok r)) (IsRange limits)
    go (Err kind) k = tt
    go (Ok end) k = of_or (IsRange limits) (range_between start end) NoRange (range_within start end h k)

no_more_says : (place : ℕ) (command : Command) → Says command → (words : List (List ℕ)) → IfOk (no_more place command words) Says
no_more_says place command h [] = h
no_more_says place command h (word ∷ words) = tt

asked_say : (place : ℕ) (command : Bounds → ℕ → ℕ → Command) → ((asked : Bounds) (pairs bytes : ℕ) → IsAskedRange asked pairs bytes → Says (command asked pairs bytes)) → (words : List (List ℕ)) → IfOk (asked_words place command words) Says
asked_say place command says =
    then_says IsBound place (λ word. result_ok (bound_word word)) _ (λ word. of_ok IsBound (bound_word word) (bound_within word)) (λ start hs.
    then_says (IsRange limits) (place + 1) (end_word start) _ (end_within start hs) (λ asked is.
    then_says (IsCount most_pairs) (place + 2) (count_word most_pairs) _ (λ word. of_or (IsCount most_pairs) (count_word most_pairs word) Number (count_within most_pairs word)) (λ pairs hn.
    then_says (IsCount most_bytes) (place + 3) (count_word most_bytes) _ (λ word. of_or (IsCount most_bytes) (count_word most_bytes word) Number (count_within most_bytes word)) (λ bytes hz.
    no_more_says (place + 4) (command asked pairs bytes) (says asked pairs bytes (record { range = is; some_pairs = hn.0; few_pairs = hn.1; some_bytes = hz.0; few_bytes = hz.1 }))))))

a_root : (word : List ℕ) → IfSome (root_word word) (λ root. Unit {0})
a_root word = any (root_word word)

ranges_say : (words : List (List ℕ)) → IfOk (range_words words) Says
ranges_say = then_says (λ root. Unit {0}) 4 root_word _ a_root (λ root h. asked_say 5 (Range root) (λ asked pairs bytes is. is))

changes_say : (words : List (List ℕ)) → IfOk (changes_words words) Says
changes_say = then_says (λ root. Unit {0}) 4 root_word _ a_root (λ from h. then_says (λ root. Unit {0}) 5 root_word _ a_root (λ to h. asked_say 6 (Changes from to) (λ asked pairs bytes is. is)))

-- ---- the other commands

keys_say : (place : ℕ) (command : List ℕ → Command) → ((key : List ℕ) → Says (command key)) → (words : List (List ℕ)) → IfOk (key_words place command words) Says
keys_say place command h [] = tt
keys_say place command h (word ∷ words) = go (result_ok (key_word word))
  where
    go : (o : Option (List ℕ)) → IfOk (with_word place o (λ key. no_more (suc place) (command key) words)) Says
    go None = tt
    go (Some key) = no_more_says (suc place) (command key) (h key) words

proves_say : (words : List (List ℕ)) → IfOk (prove_words words) Says
proves_say [] = tt
proves_say (word ∷ words) = go (root_word word)
  where
    go : (o : Option RootWord) → IfOk (with_word 4 o (λ root. key_words 5 (Prove root) words)) Says
    go None = tt
    go (Some root) = keys_say 5 (Prove root) (λ key. tt) words

-- ---- jobs

jobs_say : (own : List (List ℕ) → Result Command ℕ) → ((words : List (List ℕ)) → IfOk (own words) Says) → (words : List (List ℕ)) → IfOk (job_words own words) JobSays
jobs_say own h [] = tt
jobs_say own h (factor ∷ words) = go (factor_word factor) (own words) (h words)
  where
    go : (width : Option ℕ) (command : Result Command ℕ) → IfOk command Says → IfOk (job_with width command) JobSays
    go None command k = tt
    go (Some width) (Err place) k = tt
    go (Some width) (Ok command) k = k

either : (test : Bool) (x y : Result Job ℕ) → IfOk x JobSays → IfOk y JobSays → IfOk (cond test x y) JobSays
either true x y p q = p
either false x y p q = q

folder_says : (folder : List ℕ) (job : Result Job ℕ) → IfOk job JobSays → IfOk (in_folder folder job) JobSays
folder_says folder job h = either (bytes_eq folder (codes "-")) (Err 1) job tt h

commands_say : (folder : List ℕ) (words : List (List ℕ)) → IfOk (command_words folder words) JobSays
commands_say folder [] = tt
commands_say folder (command ∷ words) =
    either (bytes_eq command (codes "root")) (job_words (no_words Root) words) _ (jobs_say (no_words Root) (no_more_says 4 Root tt) words)
    (either (bytes_eq command (codes "apply")) (in_folder folder (job_words (no_words Apply) words)) _ (folder_says folder _ (jobs_say (no_words Apply) (no_more_says 4 Apply tt) words))
    (either (bytes_eq command (codes "get")) (in_folder folder (job_words get_words words)) _ (folder_says folder _ (jobs_say get_words (keys_say 4 Get (λ key. tt)) words))
    (either (bytes_eq command (codes "prove")) (in_folder folder (job_words prove_words words)) _ (folder_says folder _ (jobs_say prove_words proves_say words))
    (either (bytes_eq command (codes "range")) (in_folder folder (job_words range_words words)) _ (folder_says folder _ (jobs_say range_words ranges_say words))
    (either (bytes_eq command (codes "changes")) (in_folder folder (job_words changes_words words)) _ (folder_says folder _ (jobs_say changes_words changes_say words))
    (either (bytes_eq command (codes "verify")) (job_words (no_words Verify) words) (Err 2) (jobs_say (no_words Verify) (no_more_says 4 Verify tt) words) tt))))))

words_say : (given : List (List ℕ)) → IfOk (job_of given) JobSays
words_say [] = tt
words_say (folder ∷ words) = commands_say folder words

pub range_words_are_within : RangeWordsAreWithin
range_words_are_within = (
  λ given w root asked pairs bytes is. told (job_of given) _ (words_say given) is,
  λ given w from to asked pairs bytes is. told (job_of given) _ (words_say given) is,
)
  where
    told : (job : Result Job ℕ) (found : Job) → IfOk job JobSays → job ≡ Ok found → JobSays found
    told job found h e = rw e at h
