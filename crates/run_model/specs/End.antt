-- How a run ends, and how that is told: by a text and by a number.
use Rattle.std.specs.Prelude.{ℕ, List}
use Rattle.text_model.specs.Texts.{LimitKind, done_text, word_text, line_text, proof_refused_text, not_held_text, no_store_text, branch_text, damaged_text, limit_text, read_text, write_text, disk_text, no_memory_text}
use Rattle.store_model.specs.Refusals.{Refusal, NotAStore, BranchDiffers, Damaged}
use Rattle.proof_model.specs.CheckedBytes.{Cause}
use Rattle.proof_model.specs.CauseWords.{cause_words}

pub data End : Type 0 where
  -- the work is finished
  Done : End
  -- the word at this place is the first outside the grammar
  BadWords : ℕ → End
  -- the line of this number is the first outside the grammar
  BadLine : ℕ → End
  -- the files are not opened as a store
  NotOpened : Refusal → End
  -- the line of this number is the first whose proof is refused, and this is why
  VerifyRefused : ℕ → Cause → End
  -- the store has no map that the root names
  NotHeld : End
  -- a count reached its limit
  Limit : LimitKind → End
  -- the input could not be read
  Read : End
  -- the output could not be written
  Write : End
  -- the disk failed
  Disk : End
  -- there was no memory
  NoMemory : End

-- the text that tells why files are not opened
abbrev pub refusal_text : Refusal → List ℕ
refusal_text (NotAStore file) = no_store_text file
refusal_text (BranchDiffers kept asked) = branch_text kept asked
refusal_text (Damaged file at) = damaged_text file at

-- the text that tells of an end
abbrev pub end_text : End → List ℕ
end_text Done = done_text
end_text (BadWords place) = word_text place
end_text (BadLine number) = line_text number
end_text (NotOpened why) = refusal_text why
end_text (VerifyRefused number cause) = proof_refused_text number (cause_words cause)
end_text NotHeld = not_held_text
end_text (Limit kind) = limit_text kind
end_text Read = read_text
end_text Write = write_text
end_text Disk = disk_text
end_text NoMemory = no_memory_text

-- the number of an end, with which the process ends
abbrev pub end_number : End → ℕ
end_number Done = 0
end_number (BadWords place) = 2
end_number (BadLine number) = 3
end_number (NotOpened why) = 4
end_number (VerifyRefused number cause) = 5
end_number NotHeld = 6
end_number (Limit kind) = 10
end_number Read = 20
end_number Write = 21
end_number Disk = 22
end_number NoMemory = 30
