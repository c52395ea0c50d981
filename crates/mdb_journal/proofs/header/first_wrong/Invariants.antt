use Rattle.std.proofs.Common.{◌≡◌, ℕ, ◌+◌, drop}
use Rattle.store_model.specs.Fields.{these_at}
use Rattle.store_model.specs.Header.{StoreFault}
use Rattle.mdb_journal.proofs.header.first_wrong.Given as goal

abbrev pub invariant-loop-i : goal.invariant-loop-i
invariant-loop-i l = (wrong : ℕ → StoreFault) → these_at wrong l.wanted l.bytes l.at ≡ these_at wrong (drop l.i l.wanted) l.bytes (l.at + l.i)
