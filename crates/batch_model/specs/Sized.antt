-- One field more: bytes behind their length.
use Rattle.std.specs.Prelude.{ℕ, nat_lt, if◌then◌else◌, List, ◌++◌, length, Err}
use Rattle.base_model.specs.Uvarint.{uvarint}
use Rattle.base_model.specs.Fields.{Field, ◌>>=◌, number_at, bytes_at}

-- how bytes are spelled behind their length
abbrev pub sized_form : List ℕ → List ℕ
sized_form x = uvarint (length x) ++ x

-- bytes behind their length, no more than the limit; whatever is wrong, it is one fault
unfoldable pub sized_at : {E : Type 0} → E → ℕ → List ℕ → ℕ → Field E (List ℕ)
sized_at fault limit bytes at = do
  n ← number_at (λ _ _. fault) bytes at
  if nat_lt limit n.0 then Err fault else bytes_at (λ _. fault) n.0 bytes n.1
