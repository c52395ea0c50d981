-- The records of a journal: each behind a gate, with its kind, its length and its payload.
use Rattle.std.specs.Prelude.{◌≡◌, ◌≢◌, ℕ, ◌+◌, ◌^◌, ◌<◌, Bool, true, ◌&&◌, ◌||◌, nat_lt, ◌==◌, if◌then◌else◌, List, [], ◌∷◌, ◌++◌, length, Ok, Err}
use Rattle.std.specs.Int.{w32, to_be_bytes}
use Rattle.std.specs.List.{AllByRecursion}
use Rattle.base_model.specs.Fields.{Field, ◌>>=◌, bytes_at}
use Rattle.store_model.specs.Fields.{byte_at, big_endian_at}
use Rattle.store_model.specs.Header.{open_gate}

pub record Record : Type 0 where
  pub kind : ℕ
  pub payload : List ℕ

-- the changes of one commit
abbrev pub batch_kind : ℕ
batch_kind = 1

-- no changes: all that was known at that time is on the disk
abbrev pub clean_kind : ℕ
clean_kind = 2

-- a record behind its gate
abbrev pub record_form : Record → List ℕ
record_form r = r.kind ∷ (to_be_bytes w32 (length r.payload) ++ r.payload)

-- records behind open gates
abbrev pub records_form : List Record → List ℕ
records_form [] = []
records_form (r ∷ rs) = open_gate ∷ (record_form r ++ records_form rs)

-- a batch, or a clean record, which has no payload
abbrev pub is_known : ℕ → ℕ → Bool
is_known kind n = kind == batch_kind || (kind == clean_kind && n == 0)

pub record IsRecord (r : Record) : Type 0 where
  pub known : is_known r.kind (length r.payload) ≡ true
  pub short : length r.payload < 2 ^ 32

-- Records from the first byte on, and then a gate that is not open. What stands behind that gate doesn't count.
pub record Begins (rs : List Record) (bytes : List ℕ) : Type 0 where
  pub gate : ℕ
  pub junk : List ℕ
  pub is : bytes ≡ records_form rs ++ gate ∷ junk
  pub closed : gate ≢ open_gate
  pub records : AllByRecursion IsRecord rs

-- ---- reading

-- the record behind an open gate, and the place of the next gate, which has to be there; whatever is wrong, it is one fault
unfoldable pub record_at : {E : Type 0} → E → List ℕ → ℕ → Field E Record
record_at damaged bytes gate = do
  kind ← byte_at (λ _. damaged) bytes (gate + 1)
  count ← big_endian_at (λ _. damaged) w32 bytes kind.1
  payload ← bytes_at (λ _. damaged) count.0 bytes count.1
  if is_known kind.0 count.0 && nat_lt payload.1 (length bytes) then Ok (record { kind = kind.0; payload = payload.0 }, payload.1) else Err damaged
