use Rattle.std.proofs.Common.{ap}
use Rattle.std.specs.Option.{option_copied}
use Rattle.change_proof.proofs.LaidPairs.{values_compare}
use Rattle.change_proof.proofs.laying.same_value.Goals as goal

pub returns-in-Some-Some : goal.returns-in-Some-Some
returns-in-Some-Some c = values_compare _ _ _ _ _ c.eq.ensures (ap option_copied c.in-Some-Some.is-0) (ap option_copied c.in-Some-Some.is-1)
