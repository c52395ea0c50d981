-- What an append does to its file.
use Rattle.std.specs.Prelude.{◌⊎◌, ℕ, List, [], ◌∷◌, ◌++◌}
use Rattle.disk_model.specs.Files.{Files}
use Rattle.disk_model.specs.Moments.{Moments}
use Rattle.store_model.specs.Header.{Header}
use Rattle.store_model.specs.Record.{Record}
use Rattle.store_model.specs.Journal.{IsJournal}
use Rattle.mdb_journal.specs.DiskMoves.{OthersAsBefore}

-- the file has its records, with the new one or without
pub record WithOrWithout (old : Moments) (file : ℕ) (h : Header) (rs : List Record) (r : Record) (image : Files) : Type 0 where
  pub here : IsJournal h rs (image file) ⊎ IsJournal h (rs ++ r ∷ []) (image file)
  pub others : OthersAsBefore old file image
