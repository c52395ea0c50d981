use Rattle.text_model.proofs.AskedRanges.{asked_ranges_are_within}
use Rattle.text_model.proofs.asked_ranges_are_within.Goals as goal

pub returns : goal.returns
returns c = asked_ranges_are_within
