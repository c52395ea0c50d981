use Rattle.text_model.proofs.NumberWords.{numbers_are_decimal}
use Rattle.text_model.proofs.numbers_are_decimal.Goals as goal

pub returns : goal.returns
returns c = numbers_are_decimal
