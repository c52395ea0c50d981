-- A text as lines, as its reader gives them: the bytes that the reader holds, and those that its source has left.
use Rattle.std.specs.Prelude.{ℕ, ◌+◌, ◌<◌, ◌≤◌, ◌≡◌, ◌⊎◌, Bool, false, true, IsTrue, nat_le, List, [], ◌∷◌, ◌++◌, length, take, slice_index, Option, Some, None, IfSome, All}
use Rattle.base_model.specs.Streams.{AtEnd}
use Rattle.text_model.specs.Lines.{is_newline, is_overlong, line_limit, settled_lines, lines_within, AreWholeLines}
use Rattle.batch_text.specs.declared.reader.held.TheConstants.{PIECE}

-- no newline stands among the bytes
abbrev pub NoNewline : List ℕ → Type 0
NoNewline bytes = All (λ b. is_newline b ≡ false) bytes

-- a reader of lines. The text ahead of it is what it holds and then what its source has left
pub record Stream : Type 0 where
  pub held : List ℕ  -- the bytes that were read and stand in no line so far
  pub allowed : ℕ  -- how many bytes from here on may be used
  pub line : List ℕ  -- the line that was given last
  pub ended : Bool  -- whether its source told that it ended

-- where a source told that it ended, it is at its end
abbrev pub EndHolds : Bool → Option (List ℕ) → Type 0
EndHolds ended left = IsTrue ended → AtEnd left

-- the bytes ahead, after a step, are those from before
abbrev pub Pulls : List ℕ → Option (List ℕ) → List ℕ → Option (List ℕ) → Type 0
Pulls held None held' left' = Unit {0}
Pulls held (Some left) held' None = Unit {0}
Pulls held (Some left) held' (Some left') = held' ++ left' ≡ held ++ left

-- the lines ahead are the line that is given and then the lines ahead of the new reader, whose text is within its limit where the old one's is
abbrev pub Gives : Stream → Option (List ℕ) → Stream → Option (List ℕ) → Type 0
Gives old None new left' = Unit {0}
Gives old (Some left) new None = Unit {0}
Gives old (Some left) new (Some left') =
    (lines_within old.allowed (old.held ++ left) ≡ new.line ∷ lines_within new.allowed (new.held ++ left'))
    × (nat_le (length (new.held ++ left')) new.allowed ≡ nat_le (length (old.held ++ left)) old.allowed)

-- the bytes of a line that is given: up to the newline that ends it, or, where nothing follows, the line itself
abbrev pub IsLineOf : (piece line after : List ℕ) → Type 0
IsLineOf piece line after = (AreWholeLines piece × (settled_lines piece ≡ line ∷ [])) ⊎ ((piece ≡ line) × NoNewline line × (after ≡ []))

-- the bytes ahead are those of the line that is given and then the bytes ahead of the new reader, which may use so many fewer
abbrev pub TakesLine : Stream → Option (List ℕ) → Stream → Option (List ℕ) → Type 0
TakesLine old None new left' = Unit {0}
TakesLine old (Some left) new None = Unit {0}
TakesLine old (Some left) new (Some left') =
    (piece : List ℕ) × (old.held ++ left ≡ piece ++ (new.held ++ left')) × (length piece + new.allowed ≡ old.allowed) × IsLineOf piece new.line (new.held ++ left')

-- no line is left, and the text is within its limit
abbrev pub NoMore : Stream → Option (List ℕ) → Type 0
NoMore old left = IfSome left (λ bytes. (lines_within old.allowed (old.held ++ bytes) ≡ []) × (length (old.held ++ bytes) ≤ old.allowed))

-- no line is left, and the text is past its limit
abbrev pub Past : Stream → Option (List ℕ) → Type 0
Past old left = IfSome left (λ bytes. (lines_within old.allowed (old.held ++ bytes) ≡ []) × (old.allowed < length (old.held ++ bytes)))

-- there is a first line, and it is too long
abbrev pub FirstIsOverlong : List (List ℕ) → Type 0
FirstIsOverlong [] = ⊥
FirstIsOverlong (line ∷ lines) = is_overlong line ≡ true

-- the lines ahead begin with one that is too long
abbrev pub BeginsOverlong : Stream → Option (List ℕ) → Type 0
BeginsOverlong old left = IfSome left (λ bytes. FirstIsOverlong (lines_within old.allowed (old.held ++ bytes)))

-- the line at the front of what is held ends at a newline at this place, within so many bytes
abbrev pub EndsAt : ℕ → List ℕ → ℕ → Type 0
EndsAt allowed held at = (at < allowed) × (at < length held) × NoNewline (take at held) × (slice_index held at ≡ 10)

-- the line at the front of what is held is all that is left
abbrev pub IsLast : ℕ → List ℕ → Option (List ℕ) → Type 0
IsLast allowed held left = NoNewline held × AtEnd left × (length held ≤ allowed)

-- no line ends among the bytes that may be used
abbrev pub NoEnd : ℕ → List ℕ → Type 0
NoEnd allowed held = NoNewline (take allowed held)

-- what is held is within the bytes that may be used, and settles no line
abbrev pub SettlesNothing : ℕ → List ℕ → Type 0
SettlesNothing allowed held = (length held ≤ allowed) × (settled_lines held ≡ [])

-- the most bytes that a reader holds: a line as long as lines may be, a carriage return, and what one read gives
abbrev pub held_limit : ℕ
held_limit = line_limit + 1 + PIECE
