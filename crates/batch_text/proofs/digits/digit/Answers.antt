use Rattle.std.proofs.Common.{◌<◌, ◌≤◌, get_or, refl, arith}
use Rattle.std.proofs.lemmas.Bool.Decides.{nat_tests}
use Rattle.hex.specs.Hex.{hex_digit_value}
use Rattle.batch_text.specs.declared.digits.TheConstants.{VALUES}
use Rattle.batch_text.proofs.DigitTable.{value_told, told_some, told_none}
use Rattle.batch_text.proofs.digits.digit.Goals as goal

pub returns-then-value-lt16 : goal.returns-then-value-lt16
returns-then-value-lt16 c =
    let small : get_or VALUES c.args.byte 0 < 16 = grind (arith, nat_tests) in
    told_some (get_or VALUES c.args.byte 0) (hex_digit_value c.args.byte) (value_told c.args.byte (omega arith)) small

pub returns-else-value-lt16 : goal.returns-else-value-lt16
returns-else-value-lt16 c =
    let large : 16 ≤ get_or VALUES c.args.byte 0 = grind (arith, nat_tests) in
    told_none c.args.byte (get_or VALUES c.args.byte 0) (hex_digit_value c.args.byte) refl (value_told c.args.byte (omega arith)) large
