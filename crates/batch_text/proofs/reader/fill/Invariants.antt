use Rattle.std.proofs.Common.{◌≡◌, ◌≤◌, ◌+◌, ◌-◌, length, take, IsTrue}
use Rattle.base_model.specs.Faults.{TellsAlike}
use Rattle.batch_text.specs.Stream.{NoNewline, Pulls}
use Rattle.batch_text.proofs.reader.fill.Given as goal

abbrev pub invariant-pulls : goal.invariant-pulls
invariant-pulls g l = let left = g.S.Source.left in record {
  passed : l.scanned ≤ length l.held;
  usable : l.scanned ≤ l.allowed;
  none : NoNewline (take l.scanned l.held);
  bytes : Pulls l.fn.held (left l.fn.input) l.held (left l.input);
  tells : TellsAlike (left l.fn.input) (left l.input);
  alone : IsTrue l.ended → l.input ≡ l.fn.input;
  later : g.S.Source.faults l.fn.input ≤ g.S.Source.faults l.input;
}

abbrev pub decreases-pulls : goal.decreases-pulls
decreases-pulls g l = l.allowed + 1 - length l.held
