-- Walking a journal file from gate to gate.
use Rattle.std.specs.Prelude.{◌≡◌, ℕ, ◌+◌, List, length, drop, Option, Some, None, Result, Ok, Err}
use Rattle.store_model.specs.Header.{first_gate}
use Rattle.store_model.specs.Record.{Record as record_of, Begins, record_at}
use Rattle.store_model.specs.Journal.{end_of}
use Rattle.store_model.specs.Refusals.{IsOpen, IsDamaged}
use Rattle.mdb_journal.specs.declared.fault.JournalFault.{JournalFault}
use Rattle.mdb_journal.specs.declared.fault.JournalFault.TheVariants.{Damaged, Disk}
use Rattle.mdb_journal.specs.declared.record.Record.{Record}

-- the record behind the gate at that place
pub record IsFound (bytes : List ℕ) (at : ℕ) (r : Record) : Type 0 where
  pub payload : List ℕ
  pub is : record_at at bytes at ≡ Ok (record { kind = r.kind; payload = payload }, r.next)
  pub place : r.place ≡ at + 6
  pub length : r.length ≡ length payload

-- What is told of the gate at a place of this file: a record, or None where it is not open. A gate past the end is not open.
abbrev pub AtGate : List ℕ → ℕ → ℕ → Result (Option Record) JournalFault → Type 0
AtGate bytes file at (Ok None) = IsOpen bytes at → ⊥
AtGate bytes file at (Ok (Some r)) = IsOpen bytes at × IsFound bytes at r
AtGate bytes file at (Err (Damaged f p)) = (f ≡ file) × (p ≡ at) × IsOpen bytes at × (record_at at bytes at ≡ Err at)
AtGate bytes file at (Err Disk) = Unit {0}
AtGate bytes file at (Err fault) = ⊥

-- records, and then a gate at this place that is not open
pub record Ends (bytes : List ℕ) (end : ℕ) : Type 0 where
  pub records : List record_of
  pub begins : Begins records (drop first_gate bytes)
  pub place : end ≡ end_of records

-- what a walk comes to
abbrev pub Walked : List ℕ → ℕ → Result ℕ JournalFault → Type 0
Walked bytes file (Ok end) = Ends bytes end
Walked bytes file (Err (Damaged f at)) = (f ≡ file) × IsDamaged bytes at
Walked bytes file (Err Disk) = Unit {0}
Walked bytes file (Err fault) = ⊥
