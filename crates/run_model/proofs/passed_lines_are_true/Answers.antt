use Rattle.run_model.proofs.VerifyLines.{passed_lines_are_true}
use Rattle.run_model.proofs.passed_lines_are_true.Goals as goal

pub returns : goal.returns
returns c = passed_lines_are_true (record {
  points = c.accepted_points_are_true.ensures;
  points_read = c.read_points_are_spelled.ensures;
  ranges = c.accepted_ranges_are_true.ensures;
  ranges_read = c.read_ranges_are_spelled.ensures;
  changes = c.accepted_changes_are_true.ensures;
  changes_read = c.read_changes_are_spelled.ensures;
})
