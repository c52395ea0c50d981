-- What was read of a line, in the words of the definitions.
use Rattle.std.specs.Prelude.{◌≡◌, Option, Some, None, IfSome, Result, Ok, Err}
use Rattle.batch_text.specs.declared.line.InputKind.{InputKind as ReadInput}
use Rattle.batch_text.specs.declared.line.InputKind.TheVariants.{Batch as ReadBatch, Script as ReadScript, Verify as ReadVerify}
use Rattle.batch_text.specs.declared.line_kind.LineKind.{LineKind as ReadKind}
use Rattle.batch_text.specs.declared.line_kind.LineKind.TheVariants as read_kind
use Rattle.batch_text.specs.declared.line.Line.{Line as ReadLine}
use Rattle.batch_text.specs.declared.line.Line.TheVariants as read
use Rattle.batch_text.specs.declared.number_words.PlaceWord.{PlaceWord as ReadPlace}
use Rattle.batch_text.specs.declared.number_words.PlaceWord.TheVariants as read_place
use Rattle.batch_text.specs.declared.root_words.RootWord.{RootWord as ReadRoot}
use Rattle.batch_text.specs.declared.root_words.RootWord.TheVariants as read_root
use Rattle.text_model.specs.LineKind.{LineKind, TooLong, Word, Count, Hex, LongKey, LongValue, Number, Place, Root as NoRoot, Bounds}
use Rattle.text_model.specs.ReadLine.{InputKind, Batch, Script, Verify, Line, Skip, Put, Del, Commit, View, Take, Close, State, Get, Root, Prove, Point, RangeOf, ChangesOf, VerifyRange, VerifyChanges}
use Rattle.text_model.specs.Words.{PlaceWord, Db, View as OfView, RootWord, Id, Now, Empty, Back}

abbrev pub seen_input : ReadInput → InputKind
seen_input ReadBatch = Batch
seen_input ReadScript = Script
seen_input ReadVerify = Verify

abbrev pub seen_place : ReadPlace → PlaceWord
seen_place read_place.Db = Db
seen_place (read_place.View number) = OfView number

abbrev pub seen_root : ReadRoot → RootWord
seen_root (read_root.Id id) = Id id
seen_root read_root.Now = Now
seen_root read_root.Empty = Empty
seen_root (read_root.Back commits) = Back commits

abbrev pub seen_line : ReadLine → Line
seen_line read.Skip = Skip
seen_line (read.Put key value) = Put key.items value.items
seen_line (read.Del key) = Del key.items
seen_line read.Commit = Commit
seen_line (read.View place) = View (seen_place place)
seen_line (read.Take number) = Take number
seen_line (read.Close number) = Close number
seen_line (read.State number) = State number
seen_line (read.Get place key) = Get (seen_place place) key.items
seen_line (read.Root place) = Root (seen_place place)
seen_line (read.Prove root key) = Prove (seen_root root) key.items
seen_line (read.Point root key proof) = Point root key.items proof.items
seen_line (read.RangeOf root range pairs bytes) = RangeOf (seen_root root) range pairs bytes
seen_line (read.ChangesOf from to range pairs bytes) = ChangesOf (seen_root from) (seen_root to) range pairs bytes
seen_line (read.VerifyRange root range proof) = VerifyRange root range proof.items
seen_line (read.VerifyChanges root range proof) = VerifyChanges root range proof.items

-- the kind of a fault, or none for want of memory
abbrev pub seen_kind : ReadKind → Option LineKind
seen_kind read_kind.TooLong = Some TooLong
seen_kind read_kind.Word = Some Word
seen_kind read_kind.Count = Some Count
seen_kind read_kind.Hex = Some Hex
seen_kind read_kind.LongKey = Some LongKey
seen_kind read_kind.LongValue = Some LongValue
seen_kind read_kind.Number = Some Number
seen_kind read_kind.Place = Some Place
seen_kind read_kind.Root = Some NoRoot
seen_kind read_kind.Bounds = Some Bounds
seen_kind read_kind.NoMemory = None

-- the fault is the one that is meant, or memory ran out
abbrev pub IsFaultOf : {A : Type 0} → ReadKind → Result A LineKind → Type 0
IsFaultOf kind meant = IfSome (seen_kind kind) (λ k. meant ≡ Err k)

-- what was read, as it is seen, is what is meant, or memory ran out
abbrev pub IsRead : {A B : Type 0} → (A → B) → Result A ReadKind → Result B LineKind → Type 0
IsRead seen (Ok x) meant = meant ≡ Ok (seen x)
IsRead seen (Err kind) meant = IsFaultOf kind meant
