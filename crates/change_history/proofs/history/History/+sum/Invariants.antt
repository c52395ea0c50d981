use Rattle.std.proofs.Common.{◌-◌}
use Rattle.change_history.proofs.history.History.+sum.Given as goal

abbrev pub decreases-sum : goal.decreases-sum
decreases-sum l = l.former - l.later
