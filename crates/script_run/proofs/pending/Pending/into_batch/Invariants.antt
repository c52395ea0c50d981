use Rattle.std.proofs.Common.{◌≡◌, ◌++◌, map}
use Rattle.script_run.specs.PendingChange.{waiting}
use Rattle.script_run.proofs.pending.Pending.into_batch.Given as goal

abbrev pub invariant-loop-key : goal.invariant-loop-key
invariant-loop-key l = l.batch ++ map waiting l.key-iterator ≡ l.fn.self
