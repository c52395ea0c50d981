use Rattle.std.proofs.Common.{◌≡◌, true, List, ℕ, ◌∙◌, subst}
use Rattle.std.specs.Str.Parse.{ParsesUnsigned}
use Rattle.text_model.specs.Words.{is_numeral}
use Rattle.batch_text.proofs.NumberWords.{numeral_text, numeral_parsed}
use Rattle.batch_text.proofs.number_words.read_number_word.Goals as goal

pub returns-in_default : goal.returns-in_default
returns-in_default c =
    let is : is_numeral c.args.word.now ≡ true = cc in
    absurd (c.in_default.ensures.cases.0 (numeral_text c.args.word.now is))

pub returns : goal.returns
returns c =
    let is : is_numeral c.args.word.now ≡ true = cc in
    let parsed = subst (λ (text : List ℕ). ParsesUnsigned 64 10 text c.parse.result) c.in-Ok.ensures.cases.0 c.parse.ensures.value.0 in
    c.ok.ensures.value ∙ numeral_parsed c.args.word.now c.parse.result is parsed
