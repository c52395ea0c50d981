-- What a terminal is told besides the line of an end: which hint, and its text.
use Rattle.std.specs.Prelude.{ℕ, ◌-◌, Bool, true, false, ◌&&◌, ◌||◌, ◌==◌, if◌then◌else◌, List, [], ◌∷◌, ◌++◌, slice_get, codes, Option, Some, None, Result, Ok, Err}
use Rattle.std.specs.Char.{is_ascii_graphic}
use Rattle.std.specs.List.{list_all}
use Rattle.std.specs.Str.{bytes_eq}
use Rattle.mdb_tool.specs.declared.hints.Argument.{Argument}
use Rattle.mdb_tool.specs.declared.hints.Argument.TheVariants as arguments
use Rattle.mdb_tool.specs.declared.hints.Hint.{Hint}
use Rattle.mdb_tool.specs.declared.hints.Hint.TheVariants as hints
use Rattle.run_model.specs.Command.{Command, Root, Apply, Get, Prove, Range, Changes, Verify, Job, job_of}
use Rattle.run_model.specs.End.{End, Done, BadWords, BadLine, NotOpened, VerifyRefused, NotHeld, Limit, Read, Write, Disk, NoMemory}
use Rattle.store_model.specs.Refusals.{Refusal, NotAStore, BranchDiffers, Damaged}

-- ---- which hint
-- whether a command has this name
abbrev pub is_command : List ℕ → Bool
is_command word =
    if bytes_eq word (codes "root") then true
    else if bytes_eq word (codes "apply") then true
    else if bytes_eq word (codes "get") then true
    else if bytes_eq word (codes "prove") then true
    else if bytes_eq word (codes "range") then true
    else if bytes_eq word (codes "changes") then true
    else if bytes_eq word (codes "verify") then true
    else false

-- the arguments of a command's own, of which the first is word 4
abbrev pub own_arguments : List ℕ → List Argument
own_arguments command =
    if bytes_eq command (codes "get") then arguments.Key ∷ []
    else if bytes_eq command (codes "prove") then arguments.Root ∷ arguments.Key ∷ []
    else if bytes_eq command (codes "range") then arguments.Root ∷ arguments.Start ∷ arguments.End ∷ arguments.Pairs ∷ arguments.Bytes ∷ []
    else if bytes_eq command (codes "changes") then arguments.Root ∷ arguments.Root ∷ arguments.Start ∷ arguments.End ∷ arguments.Pairs ∷ arguments.Bytes ∷ []
    else []

abbrev pub expected : Option Argument → Hint
expected None = hints.NoMore
expected (Some argument) = hints.Expected argument

-- at a place behind the factor
abbrev pub own_hint : List ℕ → ℕ → Hint
own_hint command place = expected (slice_get (own_arguments command) (place - 4))

-- at a place behind the folder, by the words after it
abbrev pub later_hint : List (List ℕ) → ℕ → Hint
later_hint [] place = hints.CommandMissing
later_hint (command ∷ words) place =
    if place == 2 then hints.NoSuchCommand
    else if place == 3 then hints.Factor
    else own_hint command place

-- for the first wrong word, by its place
abbrev pub argument_hint : List (List ℕ) → ℕ → Hint
argument_hint [] place = hints.Usage
argument_hint (folder ∷ words) place =
    if place == 1 then hints.StoreFolder
    else if (place == 2) && is_command folder then hints.FolderFirst
    else later_hint words place

-- for a wrong line, by the command
abbrev pub command_line_hint : List ℕ → Hint
command_line_hint command =
    if bytes_eq command (codes "root") then hints.MapLines
    else if bytes_eq command (codes "apply") then hints.ScriptLines
    else if bytes_eq command (codes "verify") then hints.VerifyLines
    else hints.Nothing

abbrev pub line_hint : List (List ℕ) → Hint
line_hint [] = hints.Nothing
line_hint (folder ∷ []) = hints.Nothing
line_hint (folder ∷ command ∷ words) = command_line_hint command

abbrev pub refusal_hint : Refusal → Hint
refusal_hint (NotAStore file) = hints.NoStore
refusal_hint (BranchDiffers kept asked) = hints.KeptFactor
refusal_hint (Damaged file at) = hints.Damaged

-- for a disk that failed: where word 1 is `-` there is no store
abbrev pub disk_hint : List (List ℕ) → Hint
disk_hint [] = hints.Folder
disk_hint (folder ∷ words) = if bytes_eq folder (codes "-") then hints.StoreFolder else hints.Folder

-- for the end of a run of these words
abbrev pub end_hint : List (List ℕ) → End → Hint
end_hint given Done = hints.Nothing
end_hint given (BadWords place) = argument_hint given place
end_hint given (BadLine number) = line_hint given
end_hint given (NotOpened why) = refusal_hint why
end_hint given (VerifyRefused number cause) = hints.Causes
end_hint given NotHeld = hints.HeldMaps
end_hint given (Limit kind) = hints.Limits
end_hint given Read = hints.Input
end_hint given Write = hints.Output
end_hint given Disk = disk_hint given
end_hint given NoMemory = hints.Nothing

-- where the words could not be read
abbrev pub unread_hint : End → Hint
unread_hint (BadWords place) = hints.NotText
unread_hint other = hints.Nothing

-- ---- its text
abbrev pub argument_text : Argument → List ℕ
argument_text arguments.Root = codes "ROOT is now, ~0 for the same, empty, or 64 hexadecimal digits"
argument_text arguments.Key = codes "KEY is two hexadecimal digits for each byte, or - for no bytes; at most 256 bytes"
argument_text arguments.Start = codes "START is a key of at most 257 bytes, or '*' in quotes where the range is open"
argument_text arguments.End = codes "END is a key of at most 257 bytes and not below START, or '*' in quotes"
argument_text arguments.Pairs = codes "PAIRS is a number from 1 to 4096"
argument_text arguments.Bytes = codes "BYTES is a number from 1 to 2097152"

-- of the hint on a folder this is the end
abbrev pub hint_text : Hint → List ℕ
hint_text hints.Nothing = []
hint_text hints.Usage = codes "usage: mdb FOLDER COMMAND FACTOR ARGUMENTS..; mdb --help tells more"
hint_text hints.NotText = codes "an argument is not UTF-8"
hint_text hints.StoreFolder = codes "FOLDER is the folder of a store here; one of the name - is ./-"
hint_text hints.FolderFirst = codes "FOLDER comes first, - where no store is used"
hint_text hints.CommandMissing = codes "a command follows FOLDER; mdb --help lists them"
hint_text hints.NoSuchCommand = codes "no command of this name; mdb --help lists them"
hint_text hints.Factor = codes "FACTOR is 2, 4, 16 or 256"
hint_text (hints.Expected argument) = argument_text argument
hint_text hints.NoMore = codes "no argument follows here; mdb --help lists those of each command"
hint_text hints.MapLines = codes "a line is put KEY VALUE, del KEY or # a comment; docs/guide.md has The lines of root"
hint_text hints.ScriptLines = codes "mdb --help lists the lines of apply; docs/guide.md has The lines of a script"
hint_text hints.VerifyLines = codes "a line is point ROOT KEY PROOF, range ROOT START END PROOF, changes ROOT START END PROOF or # a comment; docs/guide.md has The lines of verify"
hint_text hints.NoStore = codes "the files mdb0 and mdb1 of FOLDER are those of a store, and of no other program or version"
hint_text hints.KeptFactor = codes "a store keeps the factor that it was made with"
hint_text hints.Damaged = codes "no command mends a file; docs/guide.md has A store"
hint_text hints.Causes = codes "docs/guide.md has the causes under The lines of verify"
hint_text hints.HeldMaps = codes "a store holds its present map, which is now, and the empty one"
hint_text hints.Limits = codes "docs/guide.md has all limits under Limits"
hint_text hints.Input = codes "standard input has to be open, and no folder"
hint_text hints.Output = codes "standard output has to be open, with room for what is written"
hint_text hints.Folder = codes " has to be a folder that is there, in which you may write, with room on its disk"

-- bytes that a terminal shows as they are: printable ASCII
abbrev pub is_shown : List ℕ → Bool
is_shown = list_all (λ b. is_ascii_graphic b || (b == 32))

-- the folder as it is shown
abbrev pub shown_folder : List (List ℕ) → List ℕ
shown_folder [] = codes "FOLDER"
shown_folder (folder ∷ words) = if is_shown folder then folder else codes "FOLDER"

abbrev pub folder_text : List (List ℕ) → List ℕ
folder_text given = shown_folder given ++ hint_text hints.Folder

-- the second line with its end, or nothing
abbrev pub hint_lines : List (List ℕ) → Hint → List ℕ
hint_lines given hints.Nothing = []
hint_lines given hints.Folder = folder_text given ++ 10 ∷ []
hint_lines given other = hint_text other ++ 10 ∷ []

-- ---- the greeting
-- whether a command reads lines
abbrev pub command_reads : Command → Bool
command_reads Root = true
command_reads Apply = true
command_reads (Get key) = false
command_reads (Prove root key) = false
command_reads (Range root asked pairs bytes) = false
command_reads (Changes from to asked pairs bytes) = false
command_reads Verify = true

abbrev pub job_reads : Result Job ℕ → Bool
job_reads (Ok job) = command_reads job.command
job_reads (Err place) = false

-- whether a run of these words reads lines
abbrev pub reads_lines : List (List ℕ) → Bool
reads_lines given = job_reads (job_of given)
