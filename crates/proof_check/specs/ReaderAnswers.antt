-- What a reader of proofs answers, in the words of the definitions.
use Rattle.std.specs.Prelude.{◌≡◌, ℕ, List, Option, Some, None, Result, Ok, Err}
use Rattle.base_model.specs.Fields.{Field, ◌>>=◌, bytes_at}
use Rattle.mdb_base.specs.ReadNumbers.{uvarint_fault}
use Rattle.trie_model.specs.Hashing.{hash_length}
use Rattle.trie_model.specs.Maps.{key_limit, value_limit}
use Rattle.proof_model.specs.Wire.{wrong, index_at}
use Rattle.proof_model.specs.Wire as wire
use Rattle.proof_check.specs.declared.wire_fault.WireKind.{WireKind}
use Rattle.proof_check.specs.declared.wire_fault.WireKind.TheVariants as kinds
use Rattle.proof_check.specs.declared.wire_fault.WireFault.{WireFault}
use Rattle.proof_check.specs.declared.sized_field.SizedField.{SizedField}
use Rattle.proof_check.specs.declared.sized_field.SizedField.TheVariants as sizes

-- what is wrong with a field; None where memory ran out
abbrev pub seen_kind : WireKind → Option wire.WireKind
seen_kind kinds.Short = Some wire.Short
seen_kind (kinds.Varint why) = Some (wire.Varint (uvarint_fault why))
seen_kind kinds.Version = Some wire.Version
seen_kind kinds.Kind = Some wire.Kind
seen_kind kinds.Flag = Some wire.Flag
seen_kind kinds.LongKey = Some wire.LongKey
seen_kind kinds.LongValue = Some wire.LongValue
seen_kind kinds.LongDigest = Some wire.LongDigest
seen_kind kinds.Tokens = Some wire.Tokens
seen_kind kinds.Padding = Some wire.Padding
seen_kind kinds.Index = Some wire.Index
seen_kind kinds.Order = Some wire.Order
seen_kind kinds.Bounds = Some wire.Bounds
seen_kind kinds.Limits = Some wire.Limited
seen_kind kinds.Trailing = Some wire.Trailing
seen_kind kinds.NoMemory = None

-- reading gives this fault; want of memory may come in the place of any answer
abbrev pub IsFault : {A : Type 0} → ℕ → Option wire.WireKind → Result A wire.WireFault → Type 0
IsFault at None read = Unit {0}
IsFault at (Some kind) read = read ≡ Err (wrong kind at)

abbrev pub Fails : {A : Type 0} → WireFault → Result A wire.WireFault → Type 0
Fails e read = IsFault e.at (seen_kind e.kind) read

-- what a function returned, seen by view, is what reading gives, unless memory ran out
abbrev pub Gives : {X A : Type 0} → (X → A) → Result X WireFault → Result A wire.WireFault → Type 0
Gives view (Ok x) read = read ≡ Ok (view x)
Gives view (Err e) read = Fails e read

-- ---- fields

-- how long bytes may be that stand behind their length
abbrev pub size_limit : SizedField → ℕ
size_limit sizes.Key = key_limit
size_limit sizes.Value = value_limit
size_limit sizes.Digest = hash_length

-- what is wrong where they are longer
abbrev pub size_fault : SizedField → wire.WireKind
size_fault sizes.Key = wire.LongKey
size_fault sizes.Value = wire.LongValue
size_fault sizes.Digest = wire.LongDigest

-- a child, whose index is below the factor, and from low on
unfoldable pub child_at : ℕ → ℕ → List ℕ → ℕ → Field wire.WireFault (ℕ × List ℕ)
child_at w low bytes at = do
  index ← index_at w low bytes at
  id ← bytes_at (wrong wire.Short) hash_length bytes index.1
  Ok ((index.0, id.0), id.1)
