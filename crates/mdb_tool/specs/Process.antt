-- What the process does around a run: it writes a text that was asked for, tells how it ended, and ends with a number.
use Rattle.std.specs.Prelude.{◌≡◌, ◌≢◌, ◌⊎◌, ℕ, Bool, true, false, ◌&&◌, List, [], ◌∷◌, ◌++◌, Option, None, IfSome}
use Rattle.std.specs.Io.KnownBytes.{Appends}
use Rattle.base_model.specs.Faults.{Rose}
use Rattle.base_model.specs.Streams.{AppendsPrefix}
use Rattle.run_model.specs.OutsideThings.{OutputSeen, Outside}
use Rattle.run_model.specs.End.{End, Done, Write, NoMemory, end_text, end_number}
use Rattle.run_model.specs.Runs.{WriteHasCause, Runs}
use Rattle.mdb_tool.specs.declared.hints.Hint.{Hint}
use Rattle.mdb_tool.specs.declared.process.Terminals.{Terminals}
use Rattle.mdb_tool.specs.Hints.{hint_lines, reads_lines}

-- a text was written and nothing was read, and the end says whether all of it was written
pub record PrintsText (text : List ℕ) (before after : Outside) (end : End) : Type 0 where
  pub ends : (end ≡ Done) ⊎ (end ≡ Write)
  pub done : end ≡ Done → Appends before.output.taken after.output.taken text
  pub prefix : AppendsPrefix before.output.taken after.output.taken text
  pub write : WriteHasCause before.output.faults after.output.faults end
  pub unread : after.input ≡ before.input
  pub disk : after.disk ≡ before.disk

-- the words were answered, by the text that they asked for or by a run
pub record Answers (text : Option (List ℕ)) (given : List (List ℕ)) (before after : Outside) (end : End) : Type 0 where
  pub asked : IfSome text (λ bytes. PrintsText bytes before after end)
  pub run : text ≡ None → Runs given before after end

-- the line that tells of an end
abbrev pub end_line : End → List ℕ
end_line end = end_text end ++ 10 ∷ []

-- an output took a text, or a prefix of it and failed
pub record TakesText (text : List ℕ) (before after : OutputSeen) : Type 0 where
  pub whole : Appends before.taken after.taken text ⊎ Rose before.faults after.faults
  pub prefix : AppendsPrefix before.taken after.taken text

-- what an output is told of an end: its line, and on a terminal the hint behind it
abbrev pub told_text : Bool → List (List ℕ) → Hint → End → List ℕ
told_text false given hint end = end_line end
told_text true given hint end = end_line end ++ hint_lines given hint

-- an output took what is told of an end, or the line for want of memory in its place
abbrev pub TellsEnd : List ℕ → OutputSeen → OutputSeen → Type 0
TellsEnd text before after = TakesText text before after ⊎ TakesText (end_line NoMemory) before after

-- an output was greeted, where a greeting is due
abbrev pub Greets : Bool → List ℕ → OutputSeen → OutputSeen → Type 0
Greets false greeting before after = after ≡ before
Greets true greeting before after = TakesText greeting before after

-- a greeting is due where lines are read from a terminal, and told to one
abbrev pub is_greeted : Terminals → List (List ℕ) → Bool
is_greeted terminals given = terminals.input && (terminals.errors && reads_lines given)

-- the process ended so: an output was greeted first where that is due, then this text was told where the work is not
-- finished, and this is its number
pub record EndsBy (due : Bool) (greeting text : List ℕ) (end : End) (before after : OutputSeen) (code : ℕ) : Type 0 where
  pub greeted : OutputSeen
  pub greets : Greets due greeting before greeted
  pub quiet : end ≡ Done → after ≡ greeted
  pub told : end ≢ Done → TellsEnd text greeted after
  pub number : code ≡ end_number end
