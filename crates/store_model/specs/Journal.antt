-- What the two files of a journal stand for.
use Rattle.std.specs.Prelude.{◌≡◌, ℕ, ◌+◌, nat_lt, ◌==◌, if◌then◌else◌, List, [], ◌∷◌, ◌++◌, length, Option, Some, None, Result, Ok, Err}
use Rattle.std.specs.FinMap as map_of
use Rattle.base_model.specs.Fields.{◌>>=◌}
use Rattle.disk_model.specs.Files.{Files}
use Rattle.trie_model.specs.Maps.{Limits, Map}
use Rattle.store_model.specs.Header.{Header, IsHeader, StoreFault, header_form, header_of, first_gate}
use Rattle.store_model.specs.Record.{Record, Begins, records_form, batch_kind}
use Rattle.batch_model.specs.Batch.{BatchFault, batch_of, after_batch}

-- ---- one file

-- an open header, records, and then a gate that is not open
pub record IsJournal (h : Header) (rs : List Record) (bytes : List ℕ) : Type 0 where
  pub header : IsHeader h
  pub behind : List ℕ
  pub is : bytes ≡ header_form h ++ behind
  pub begins : Begins rs behind

-- where the first gate that is not open stands
abbrev pub end_of : List Record → ℕ
end_of rs = first_gate + length (records_form rs)

-- ---- two files

-- the file with the greater generation, and its header; None where both headers are closed
abbrev pub later : Option Header → Option Header → Option (ℕ × Header)
later None None = None
later (Some a) None = Some (0, a)
later None (Some b) = Some (1, b)
later (Some a) (Some b) = if nat_lt a.generation b.generation then Some (1, b) else Some (0, a)

-- the active file and its header
abbrev pub active : Files → Result (Option (ℕ × Header)) StoreFault
active files = do
  first ← header_of 0 (files 0)
  second ← header_of 1 (files 1)
  Ok (later first second)

-- the records of the active file; none where no header is open
abbrev pub RecordsOf : Files → List Record → Result (Option (ℕ × Header)) StoreFault → Type 0
RecordsOf files rs (Ok None) = rs ≡ []
RecordsOf files rs (Ok (Some a)) = IsJournal a.1 rs (files a.0)
RecordsOf files rs (Err fault) = ⊥

-- the files hold these records
abbrev pub Hold : Files → List Record → Type 0
Hold files rs = RecordsOf files rs (active files)

-- ---- maps

-- a map after a record: a batch changes it, and a clean record doesn't
abbrev pub after_record : Limits → Map → Record → Result Map BatchFault
after_record l m r = if r.kind == batch_kind then (batch_of l r.payload >>= λ cs. Ok (after_batch m cs)) else Ok m

-- a map after records
abbrev pub after_records : Limits → Map → List Record → Result Map BatchFault
after_records l m [] = Ok m
after_records l m (r ∷ rs) = do
  next ← after_record l m r
  after_records l next rs

-- The files stand for a map: that after all their records.
pub record Stands (l : Limits) (files : Files) (m : Map) : Type 0 where
  pub records : List Record
  pub hold : Hold files records
  pub is : after_records l map_of.empty records ≡ Ok m

-- files that stand for a map
abbrev pub AreSound : Limits → Files → Type 0
AreSound l files = (m : Map) × Stands l files m
