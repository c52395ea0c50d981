use Rattle.std.proofs.Common.{◌≤◌, ◌-◌, length, take}
use Rattle.std.specs.Io.KnownBytes.{Appends}
use Rattle.base_model.specs.Faults.{TellsAlike}
use Rattle.mdb_base.proofs.writing.write_all.Given as goal

abbrev pub invariant-pieces : goal.invariant-pieces
invariant-pieces g l = let taken = g.K.Sink.taken in record {
  within : l.done ≤ length l.text;
  bytes : Appends (taken l.fn.out) (taken l.out) (take l.done l.text);
  tells : TellsAlike (taken l.fn.out) (taken l.out);
  later : g.K.Sink.faults l.fn.out ≤ g.K.Sink.faults l.out;
}

abbrev pub decreases-pieces : goal.decreases-pieces
decreases-pieces g l = length l.text - l.done
