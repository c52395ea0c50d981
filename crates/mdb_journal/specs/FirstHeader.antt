-- Files without an open header, and the first header.
use Rattle.std.specs.Prelude.{◌≡◌, ◌≢◌, ℕ, List, [], ◌∷◌, None, Ok}
use Rattle.disk_model.specs.Files.{Files}
use Rattle.store_model.specs.Header.{Header, header_of, open_gate}
use Rattle.store_model.specs.Journal.{Hold}

-- no header is open
pub record BothClosed (files : Files) : Type 0 where
  pub first : header_of 0 (files 0) ≡ Ok None
  pub second : header_of 1 (files 1) ≡ Ok None

-- the file begins with a gate that is not open
pub record IsShut (bytes : List ℕ) : Type 0 where
  pub gate : ℕ
  pub rest : List ℕ
  pub is : bytes ≡ gate ∷ rest
  pub closed : gate ≢ open_gate

-- the header of the first generation
abbrev pub first_header : ℕ → Header
first_header width = record { width = width; generation = 1 }

-- the files hold no record
abbrev pub HoldNone : Files → Type 0
HoldNone image = Hold image []
