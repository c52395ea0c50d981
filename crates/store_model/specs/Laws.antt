-- What the words on journals say of each other.
use Rattle.std.specs.Prelude.{◌≡◌, ◌≢◌, ◌⊎◌, ℕ, ◌+◌, ◌<◌, ◌≤◌, List, [], ◌∷◌, ◌++◌, length, drop, Some, Result, Ok}
use Rattle.base_model.specs.Bytes.{AreBytes}
use Rattle.disk_model.specs.Files.{Files, written, first_touched}
use Rattle.disk_model.specs.Crash.{IsImage, at_rest, after_write}
use Rattle.trie_model.specs.Maps.{Limits, Map}
use Rattle.store_model.specs.Header.{Header, IsHeader, header_form, header_of, first_gate, open_gate}
use Rattle.store_model.specs.Record.{Record, IsRecord, record_form, record_at}
use Rattle.store_model.specs.Refusals.{Refusal, Found}
use Rattle.store_model.specs.Journal.{IsJournal, Hold, Stands, active, end_of, after_record, after_records}

-- a header that is spelled is read, whatever follows
abbrev pub SpelledHeadersAreRead : Type 0
SpelledHeadersAreRead =
    (file : ℕ) (h : Header) (gate : ℕ) (rest : List ℕ) → IsHeader h → header_of file (header_form h ++ gate ∷ rest) ≡ Ok (Some h)

-- a header that is read is spelled so
abbrev pub ReadHeadersAreSpelled : Type 0
ReadHeadersAreSpelled =
    (file : ℕ) (bytes : List ℕ) (h : Header) → AreBytes bytes → header_of file bytes ≡ Ok (Some h)
    → IsHeader h × (bytes ≡ header_form h ++ drop first_gate bytes)

-- a record that is spelled between two gates is read
abbrev pub SpelledRecordsAreRead : Type 0
SpelledRecordsAreRead =
    (r : Record) (damaged : ℕ) (front : List ℕ) (gate next : ℕ) (rest : List ℕ) → IsRecord r
    → record_at damaged (front ++ gate ∷ (record_form r ++ next ∷ rest)) (length front) ≡ Ok (r, length front + 1 + length (record_form r))

-- a record that is read is spelled so, and the next gate is there
abbrev pub ReadRecordsAreSpelled : Type 0
ReadRecordsAreSpelled =
    (damaged : ℕ) (bytes : List ℕ) (gate : ℕ) (r : Record) (next : ℕ) → AreBytes bytes → record_at damaged bytes gate ≡ Ok (r, next)
    → IsRecord r × (drop (gate + 1) bytes ≡ record_form r ++ drop next bytes) × (next < length bytes)

-- no record begins another
abbrev pub RecordsArePrefixFree : Type 0
RecordsArePrefixFree =
    (r s : Record) (x y : List ℕ) → IsRecord r → IsRecord s → record_form r ++ x ≡ record_form s ++ y → (r ≡ s) × (x ≡ y)

-- files hold at most one list of records
abbrev pub FilesHoldOneList : Type 0
FilesHoldOneList = (files : Files) (rs qs : List Record) → Hold files rs → Hold files qs → rs ≡ qs

-- files stand for at most one map
abbrev pub FilesStandForOneMap : Type 0
FilesStandForOneMap = (l : Limits) (files : Files) (m n : Map) → Stands l files m → Stands l files n → m ≡ n

-- files are found to be one thing: a map, or one reason why they are not opened
abbrev pub FilesAreFoundOnce : Type 0
FilesAreFoundOnce = (l : Limits) (w : ℕ) (files : Files) (a b : Result Map Refusal) → Found l w files a → Found l w files b → a ≡ b

-- one record more makes of the map what it makes of the map before it
abbrev pub MapsFollowRecords : Type 0
MapsFollowRecords =
    (l : Limits) (m n : Map) (rs : List Record) (r : Record) → after_records l m rs ≡ Ok n
    → after_records l m (rs ++ r ∷ []) ≡ after_record l n r

-- a record, and a closed gate behind it
abbrev pub gated : Record → List ℕ
gated r = record_form r ++ 0 ∷ []

-- a file after the first write of an append: all but the gate
abbrev pub staged : List ℕ → List Record → Record → List ℕ
staged bytes rs r = written bytes (end_of rs + 1) (gated r)

-- a file after both writes of an append
abbrev pub appended : List ℕ → List Record → Record → List ℕ
appended bytes rs r = written (staged bytes rs r) (end_of rs) (open_gate ∷ [])

-- an append adds the record
abbrev pub AppendsAdd : Type 0
AppendsAdd =
    (h : Header) (rs : List Record) (r : Record) (bytes : List ℕ) → IsRecord r → IsJournal h rs bytes
    → IsJournal h rs (staged bytes rs r) × IsJournal h (rs ++ r ∷ []) (appended bytes rs r)

-- a crash before the first sync of an append leaves the records before it
abbrev pub StagingIsSafe : Type 0
StagingIsSafe =
    (h : Header) (rs : List Record) (r : Record) (bytes image : List ℕ) → IsImage (at_rest bytes) bytes → IsJournal h rs bytes
    → IsImage (after_write (first_touched bytes (end_of rs + 1)) (end_of rs + 1 + length (gated r)) (at_rest bytes)) image
    → IsJournal h rs image

-- a crash before the second sync leaves the records before it, or with it
abbrev pub OpeningIsSafe : Type 0
OpeningIsSafe =
    (h : Header) (rs : List Record) (r : Record) (bytes image : List ℕ) → IsRecord r → IsJournal h rs bytes
    → IsImage (at_rest (staged bytes rs r)) (staged bytes rs r)
    → IsImage (after_write (first_touched (staged bytes rs r) (end_of rs)) (end_of rs + 1) (at_rest (staged bytes rs r))) image
    → IsJournal h rs image ⊎ IsJournal h (rs ++ r ∷ []) image

-- what becomes of the active file becomes of the records, as long as it keeps its header and the other of the two stays
abbrev pub ActiveFileCounts : Type 0
ActiveFileCounts =
    (files image : Files) (file : ℕ) (h : Header) (rs : List Record) → active files ≡ Ok (Some (file, h))
    → IsJournal h rs (image file) → ((other : ℕ) → other ≤ 1 → other ≢ file → image other ≡ files other) → Hold image rs
