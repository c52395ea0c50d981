-- What is read of the batches of a journal.
use Rattle.std.specs.Prelude.{◌≡◌, ℕ, ◌+◌, List, ◌∷◌, ◌++◌, length, take, drop, Option, Some, None, option_map, Result, Ok, Err}
use Rattle.std.specs.FinMap as map_of
use Rattle.base_model.specs.Fields.{Field, ◌>>=◌, number_at}
use Rattle.trie_model.specs.Maps.{Map, limits}
use Rattle.batch_model.specs.Batch.{BatchFault, Outside, after_batch, changes_at, batch_of}
use Rattle.store_model.specs.Record.{Record, batch_kind}
use Rattle.store_model.specs.Journal.{end_of, after_records}
use Rattle.mdb_journal.specs.declared.fault.JournalFault.{JournalFault}
use Rattle.mdb_journal.specs.declared.fault.JournalFault.TheVariants as journal
use Rattle.value_store.specs.declared.fault.ValueFault.{ValueFault}
use Rattle.value_store.specs.declared.fault.ValueFault.TheVariants.{Disk, NotAStore, BranchDiffers, Damaged, TooLarge, Full, Failed, NoMemory}
use Rattle.value_store.specs.Values.{Place, value_in}
use Rattle.value_store.specs.Index.{Places}
use Rattle.value_store.specs.PayloadPieces.{PieceState, AreAt}

-- a fault of the journal, as the store tells it
abbrev pub store_fault : JournalFault → ValueFault
store_fault journal.Disk = Disk
store_fault (journal.NotAStore file) = NotAStore file
store_fault (journal.BranchDiffers kept asked) = BranchDiffers kept asked
store_fault (journal.Damaged file at) = Damaged file at
store_fault (journal.TooLarge n) = TooLarge n
store_fault journal.Failed = Failed
store_fault journal.NoMemory = NoMemory

-- ---- places

-- the index with one key put at a place, or taken out
abbrev pub laid : Places → List ℕ → Option Place → Places
laid index key None = map_of.remove index key
laid index key (Some p) = map_of.insert index key p

-- where the value of a change stands, by its length; None where the key is deleted
abbrev pub place_behind : ℕ → Option ℕ → Option Place
place_behind start count = option_map (λ n. record { start = start; count = n }) count

-- the places hold the values of the map
pub record Shows (file : List ℕ) (m : Map) (index : Places) : Type 0 where
  pub at : (key : List ℕ) → map_of.get m key ≡ option_map (value_in file) (map_of.get index key)

-- ---- one batch

-- what n changes that are read from a place on make of a map, and the place behind them
abbrev pub changes_into : ℕ → Option (List ℕ) → List ℕ → ℕ → Map → Field BatchFault Map
changes_into n last bytes at m = changes_at limits n last bytes at >>= λ x. Ok (after_batch m x.0, x.1)

-- what a batch that is read makes of a map
abbrev pub batch_into : List ℕ → Map → Result Map BatchFault
batch_into bytes m = batch_of limits bytes >>= λ cs. Ok (after_batch m cs)

-- So many changes are left to be read. Those before them made this map of what it was, and what is left makes the whole of
-- it.
pub record Midway (file payload : List ℕ) (n : ℕ) (last : Option (List ℕ)) (p : PieceState) (index : Places) (whole : Field BatchFault Map) : Type 0 where
  pub at : ℕ
  pub map : Map
  pub are_at : AreAt file payload at p
  pub shows : Shows file map index
  pub whole_is : whole ≡ changes_into n last payload at map

-- the number of changes was read in front of a payload
pub record Counted (file payload : List ℕ) (count : ℕ) (p : PieceState) : Type 0 where
  pub at : ℕ
  pub is : number_at (λ _ _. Outside) payload 0 ≡ Ok (count, at)
  pub are_at : AreAt file payload at p

-- the payload at a place
abbrev pub payload_at : List ℕ → ℕ → ℕ → List ℕ
payload_at file place count = take count (drop place file)

-- the batch makes this map, and the places show it
pub record BatchRead (file payload : List ℕ) (m : Map) (index : Places) : Type 0 where
  pub map : Map
  pub is : batch_into payload m ≡ Ok map
  pub shows : Shows file map index

-- ---- all records

-- some of the records were read
pub record Standing (file : List ℕ) (rs : List Record) (at : ℕ) (index : Places) : Type 0 where
  pub before : List Record
  pub after : List Record
  pub split : rs ≡ before ++ after
  pub place : at ≡ end_of before
  pub map : Map
  pub is : after_records limits map_of.empty before ≡ Ok map
  pub shows : Shows file map index

-- all of them were
pub record Found (file : List ℕ) (rs : List Record) (index : Places) : Type 0 where
  pub map : Map
  pub is : after_records limits map_of.empty rs ≡ Ok map
  pub shows : Shows file map index

-- where the next record stands, if there is one
abbrev pub GoesOn : List ℕ → List Record → Places → Option ℕ → Type 0
GoesOn file rs index (Some at) = Standing file rs at index
GoesOn file rs index None = Found file rs index

-- the payload of this record is no batch, and those before it are
pub record WrongBatch (rs : List Record) (at : ℕ) : Type 0 where
  pub before : List Record
  pub wrong : Record
  pub after : List Record
  pub split : rs ≡ before ++ wrong ∷ after
  pub place : at ≡ end_of before
  pub map : Map
  pub good : after_records limits map_of.empty before ≡ Ok map
  pub kind : wrong.kind ≡ batch_kind
  pub outside : batch_of limits wrong.payload ≡ Err Outside

-- why the records are not read
abbrev pub RecordsFail : ℕ → List Record → ValueFault → Type 0
RecordsFail file rs (Damaged f at) = (f ≡ file) × WrongBatch rs at
RecordsFail file rs Disk = Unit {0}
RecordsFail file rs NoMemory = Unit {0}
RecordsFail file rs (NotAStore f) = ⊥
RecordsFail file rs (BranchDiffers kept asked) = ⊥
RecordsFail file rs (TooLarge n) = ⊥
RecordsFail file rs Full = ⊥
RecordsFail file rs Failed = ⊥
