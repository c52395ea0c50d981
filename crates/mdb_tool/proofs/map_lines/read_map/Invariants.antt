use Rattle.std.proofs.Common.{◌≤◌, ◌+◌}
use Rattle.base_model.specs.Faults.{TellsAlike}
use Rattle.text_model.specs.Lines.{input_limit}
use Rattle.batch_text.specs.Stream.{EndHolds}
use Rattle.mdb_tool.proofs.ReadingOfLines.{SoFar}
use Rattle.batch_text.proofs.UsedBytes.{HasUsed}
use Rattle.text_model.specs.ReadLine.{Batch, is_line}
use Rattle.mdb_tool.proofs.map_lines.read_map.Given as goal

abbrev pub invariant-lines : goal.invariant-lines
invariant-lines g l = let left = g.S.Source.left in record {
  so_far : SoFar (left l.fn.input) l.number l.digests l.reader (left l.input);
  used : HasUsed (is_line Batch) (left l.fn.input) l.reader (left l.input);
  room : l.number + l.reader.allowed ≤ input_limit + 1;
  ended : EndHolds l.reader.ended (left l.input);
  tells : TellsAlike (left l.fn.input) (left l.input);
  later : g.S.Source.faults l.fn.input ≤ g.S.Source.faults l.input;
}

abbrev pub decreases-lines : goal.decreases-lines
decreases-lines g l = l.reader.allowed
