use Rattle.view_model.proofs.Numbers.{numbers_are_given_once}
use Rattle.view_model.proofs.numbers_are_given_once.Goals as goal

pub returns : goal.returns
returns c = numbers_are_given_once
