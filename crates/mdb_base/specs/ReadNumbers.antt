-- What `read_uvarint` answers, in the words of the definitions.
use Rattle.std.specs.Prelude.{ℕ, Result, Ok, Err}
use Rattle.base_model.specs.ReadUvarint.{UvarintFault}
use Rattle.base_model.specs.ReadUvarint as model
use Rattle.mdb_base.specs.declared.uvarint.VarintFault.{VarintFault}
use Rattle.mdb_base.specs.declared.uvarint.VarintFault.TheVariants.{Long, Short, NotShortest}

-- a fault of the code, as the definitions name it
abbrev pub uvarint_fault : VarintFault → UvarintFault
uvarint_fault Long = model.Long
uvarint_fault Short = model.Short
uvarint_fault NotShortest = model.NotShortest

-- an answer of the code, as the definitions give it
abbrev pub seen : Result (ℕ × ℕ) VarintFault → Result (ℕ × ℕ) UvarintFault
seen (Ok x) = Ok x
seen (Err e) = Err (uvarint_fault e)
