-- The worked texts, by computing.
use Rattle.std.proofs.Common.{refl}
use Rattle.std.specs.Fmt.{digits}
use Rattle.hex.specs.Hex.{encode_with}
use Rattle.text_model.specs.WorkedTexts.{WorkedTexts}

pub worked_texts : WorkedTexts
unfolding digits encode_with
worked_texts = (refl, refl, refl, refl, refl, refl, refl, refl, refl, refl, refl, refl, refl, refl, refl, refl, refl, refl, refl, refl)
