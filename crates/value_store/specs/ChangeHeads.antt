-- The head of a change: all that stands before the bytes of its value.
use Rattle.std.specs.Prelude.{ℕ, nat_lt, if◌then◌else◌, List, Option, Some, None, Result, Ok, Err}
use Rattle.base_model.specs.Fields.{Field, ◌>>=◌, number_at, bytes_at, flag_at}
use Rattle.trie_model.specs.Maps.{Limits}
use Rattle.batch_model.specs.Batch.{BatchFault, Outside, key_at}

-- a key, and how many bytes its value has; None where it is deleted
pub record Head : Type 0 where
  pub key : List ℕ
  pub count : Option ℕ

-- what is not there is outside the grammar
abbrev pub or_outside : {A : Type 0} → Option A → Result A BatchFault
or_outside None = Err Outside
or_outside (Some x) = Ok x

-- a length within a limit
unfoldable pub limited_at : ℕ → List ℕ → ℕ → Field BatchFault ℕ
limited_at limit bytes at = do
  n ← number_at (λ _ _. Outside) bytes at
  if nat_lt limit n.0 then Err Outside else Ok n

-- the flag, and where it is 1 the length of the value
unfoldable pub count_at : Limits → List ℕ → ℕ → Field BatchFault (Option ℕ)
count_at l bytes at = do
  flag ← flag_at (λ _. Outside) (λ _. Outside) bytes at
  if flag.0 then (limited_at l.value bytes flag.1 >>= λ n. Ok (Some n.0, n.1)) else Ok (None, flag.1)

unfoldable pub head_at : Limits → Option (List ℕ) → List ℕ → ℕ → Field BatchFault Head
head_at l last bytes at = do
  key ← key_at l last bytes at
  count ← count_at l bytes key.1
  Ok (record { key = key.0; count = count.0 }, count.1)

-- the bytes of the value behind its head
abbrev pub value_behind : Option ℕ → List ℕ → ℕ → Field BatchFault (Option (List ℕ))
value_behind None bytes at = Ok (None, at)
value_behind (Some n) bytes at = bytes_at (λ _. Outside) n bytes at >>= λ v. Ok (Some v.0, v.1)

-- how many bytes of a head are looked at, at most
abbrev pub head_limit : ℕ
head_limit = 300
