use Rattle.std.proofs.Common.{refl, sym, subst, arith}
use Rattle.batch_text.specs.declared.hex_words.TheConstants.{VALUE_LIMIT}
use Rattle.batch_text.specs.declared.line_kind.LineKind.TheVariants.{LongValue as told_long}
use Rattle.text_model.specs.LineKind.{LongValue}
use Rattle.batch_text.specs.SeenLine.{IsRead}
use Rattle.batch_text.proofs.HexWords.{long_told, fits_told}
use Rattle.batch_text.proofs.hex_words.read_value.Goals as goal

pub returns-then-digits : goal.returns-then-digits
returns-then-digits c =
    long_told VALUE_LIMIT LongValue told_long c.fault_of_long.result _ c.in-Some.digits.now refl c.in-Some.ensures.spelled c.in-Some.ensures.even c.if-digits.true
    c.fault_of_long.ensures.hex c.fault_of_long.ensures.other

pub returns : goal.returns
returns c =
    subst (λ meant. IsRead (λ value. value.items) c.bytes_of.result meant)
    (sym (fits_told VALUE_LIMIT LongValue _ c.in-Some.digits.now c.in-Some.ensures.spelled (let over = c.if-digits.false in omega arith)))
    c.bytes_of.ensures
