-- What the calls of a journal do to a disk.
use Rattle.std.specs.Prelude.{◌≡◌, ◌≢◌, ◌⊎◌, ℕ, ◌≤◌, List}
use Rattle.disk_model.specs.Files.{Files, Torn}
use Rattle.disk_model.specs.Crash.{IsImage, at_rest}
use Rattle.disk_model.specs.Moments.{Moments}
use Rattle.store_model.specs.Record.{Record}
use Rattle.store_model.specs.Journal.{Hold}

-- a crash now leaves of the file what is read
abbrev pub IsSynced : ℕ → Files → Moments → Type 0
IsSynced file seen m = m.now file ≡ at_rest (seen file)

-- so it does of both files of the journal
abbrev pub AreSynced : Files → Moments → Type 0
AreSynced seen m = (file : ℕ) → file ≤ 1 → IsSynced file seen m

-- a crash now leaves of the file just these bytes
pub record Rests (file : ℕ) (bytes : List ℕ) (seen : Files) (m : Moments) : Type 0 where
  pub is : seen file ≡ bytes
  pub synced : m.now file ≡ at_rest bytes

-- all but one are the same
abbrev pub OthersStay : {X : Type 0} → ℕ → (ℕ → X) → (ℕ → X) → Type 0
OthersStay file old new = (other : ℕ) → other ≢ file → new other ≡ old other

-- of each file but one, the image is one of those from before
abbrev pub OthersAsBefore : Moments → ℕ → Files → Type 0
OthersAsBefore old file image = (other : ℕ) → other ≢ file → IsImage (old.now other) (image other)

-- the file is torn from one place to another
pub record TornAlone (old : Moments) (file from to : ℕ) (bytes : List ℕ) (image : Files) : Type 0 where
  pub here : Torn from to bytes (image file)
  pub others : OthersAsBefore old file image

-- the files hold these records, or those
pub record HoldEither (old : Moments) (file : ℕ) (rs qs : List Record) (image : Files) : Type 0 where
  pub hold : Hold image rs ⊎ Hold image qs
  pub others : OthersAsBefore old file image
