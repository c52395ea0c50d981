use Rattle.run_model.proofs.RangeWords.{range_words_are_within}
use Rattle.run_model.proofs.range_words_are_within.Goals as goal

pub returns : goal.returns
returns c = range_words_are_within
