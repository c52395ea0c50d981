-- The job that was read from the words, as the definitions see it.
use Rattle.std.specs.Prelude.{◌≡◌, ℕ, ◌+◌, List, Result, Ok, Err}
use Rattle.std.specs.Result.{result_ok}
use Rattle.range_model.specs.Ranges.{Range as Bounds}
use Rattle.text_model.specs.ReadLine.{bound_word}
use Rattle.text_model.specs.Words.{most_pairs, most_bytes, count_word}
use Rattle.run_model.specs.Command.{Command, Root, Apply, Get, Prove, Range, Changes, Verify, Job, no_more, word_then, end_word}
use Rattle.bit_keys.specs.Branch.{width_of}
use Rattle.batch_text.specs.SeenLine.{seen_root}
use Rattle.mdb_tool.specs.declared.job.Command.{Command as ReadCommand}
use Rattle.mdb_tool.specs.declared.job.Command.TheVariants.{Root as ReadRoot, Apply as ReadApply, Get as ReadGet, Prove as ReadProve, Range as ReadRange, Changes as ReadChanges, Verify as ReadVerify}
use Rattle.mdb_tool.specs.declared.job.Job.{Job as ReadJob}

abbrev pub seen_command : ReadCommand → Command
seen_command ReadRoot = Root
seen_command ReadApply = Apply
seen_command (ReadGet key) = Get key
seen_command (ReadProve root key) = Prove (seen_root root) key
seen_command (ReadRange root range pairs bytes) = Range (seen_root root) range pairs bytes
seen_command (ReadChanges from to range pairs bytes) = Changes (seen_root from) (seen_root to) range pairs bytes
seen_command ReadVerify = Verify

abbrev pub seen_job : ReadJob → Job
seen_job job = record { width = width_of job.branch; command = seen_command job.command }

-- what was read is what the words stand for
abbrev pub AreRead : {A B : Type 0} → (A → B) → Result A ℕ → Result B ℕ → Type 0
AreRead seen (Ok x) meant = meant ≡ Ok (seen x)
AreRead seen (Err place) meant = meant ≡ Err place

-- the bounds of what is asked, of which the first stands at this place, and what stands behind them
abbrev pub bounds_words : ℕ → (Bounds → List (List ℕ) → Result Command ℕ) → List (List ℕ) → Result Command ℕ
bounds_words place behind = word_then place (λ word. result_ok (bound_word word)) (λ start. word_then (place + 1) (end_word start) behind)

-- the last of its words
abbrev pub bytes_words : ℕ → (ℕ → Command) → List (List ℕ) → Result Command ℕ
bytes_words place command = word_then (place + 3) (count_word most_bytes) (λ bytes. no_more (place + 4) (command bytes))

-- its counts, behind which there is no word
abbrev pub counts_words : ℕ → (ℕ → ℕ → Command) → List (List ℕ) → Result Command ℕ
counts_words place command = word_then (place + 2) (count_word most_pairs) (λ pairs. bytes_words place (command pairs))
