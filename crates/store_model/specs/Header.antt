-- The header of a journal file: its gate, the name and version, the bits of a token, zeros, the generation.
use Rattle.std.specs.Prelude.{◌≡◌, ℕ, ◌^◌, ◌<◌, Bool, true, ◌&&◌, ◌||◌, nat_lt, ◌==◌, if◌then◌else◌, List, [], ◌∷◌, ◌++◌, length, get_or, take, replicate, Option, Some, None, Result, Ok, Err}
use Rattle.std.specs.Int.{w64, to_be_bytes}
use Rattle.base_model.specs.Fields.{Field, ◌>>=◌}
use Rattle.store_model.specs.Fields.{byte_at, these_at, big_endian_at}

-- the bits of a token, and the number that rises with each compaction
pub record Header : Type 0 where
  pub width : ℕ
  pub generation : ℕ

-- the byte of a gate that is open; every other byte is a closed gate
abbrev pub open_gate : ℕ
open_gate = 0x01

-- MDBVALS and the version, 1
abbrev pub name_and_version : List ℕ
name_and_version = 0x4d ∷ 0x44 ∷ 0x42 ∷ 0x56 ∷ 0x41 ∷ 0x4c ∷ 0x53 ∷ 0x01 ∷ []

-- one, two, four or eight bits
abbrev pub is_width : ℕ → Bool
is_width w = w == 1 || w == 2 || w == 4 || w == 8

abbrev pub header_zeros : List ℕ
header_zeros = replicate 6 0

-- an open header
abbrev pub header_form : Header → List ℕ
header_form h = open_gate ∷ (name_and_version ++ (h.width ∷ (header_zeros ++ to_be_bytes w64 h.generation)))

-- generations count from 1
pub record IsHeader (h : Header) : Type 0 where
  pub width : is_width h.width ≡ true
  pub positive : 0 < h.generation
  pub fits : h.generation < 2 ^ 64

-- where the gate of the first record stands: behind the header
abbrev pub first_gate : ℕ
first_gate = 24

-- ---- reading

-- what is wrong with files: which one is no store's, or which one is damaged and where
pub data StoreFault : Type 0 where
  NotAStore : ℕ → StoreFault
  Damaged : ℕ → ℕ → StoreFault

-- the bits of a token
unfoldable pub width_at : ℕ → List ℕ → ℕ → Field StoreFault ℕ
width_at file bytes at = do
  w ← byte_at (Damaged file) bytes at
  if is_width w.0 then Ok w else Err (Damaged file at)

-- a generation
unfoldable pub generation_at : ℕ → List ℕ → ℕ → Field StoreFault ℕ
generation_at file bytes at = do
  g ← big_endian_at (Damaged file) w64 bytes at
  if g.0 == 0 then Err (Damaged file at) else Ok g

-- the header behind its gate, in the bytes in front of the first record's gate
unfoldable pub header_behind_gate : ℕ → List ℕ → Result Header StoreFault
header_behind_gate file bytes = do
  name_end ← these_at (λ _. NotAStore file) name_and_version bytes 1
  width ← width_at file bytes name_end
  zeros_end ← these_at (Damaged file) header_zeros bytes width.1
  generation ← generation_at file bytes zeros_end
  Ok (record { width = width.0; generation = generation.0 })

-- a header is open where its gate is, and where the gate of the first record is there
abbrev pub has_open_header : List ℕ → Bool
has_open_header bytes = nat_lt first_gate (length bytes) && get_or bytes 0 0 == open_gate

-- the header of the file with this number; None where it is closed
unfoldable pub header_of : ℕ → List ℕ → Result (Option Header) StoreFault
header_of file bytes =
    if has_open_header bytes then (header_behind_gate file (take first_gate bytes) >>= λ h. Ok (Some h)) else Ok None
