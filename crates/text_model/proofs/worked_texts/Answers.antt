use Rattle.text_model.proofs.WorkedTexts.{worked_texts}
use Rattle.text_model.proofs.worked_texts.Goals as goal

pub returns : goal.returns
returns c = worked_texts
