use Rattle.std.proofs.Common.{length, refl, arith}
use Rattle.batch_text.specs.declared.line_kind.LineKind.TheVariants.{LongKey as told_long}
use Rattle.text_model.specs.LineKind.{LongKey}
use Rattle.batch_text.proofs.HexWords.{long_told}
use Rattle.batch_text.proofs.hex_words.read_short.Goals as goal

pub returns-then-count-room-clause-read : goal.returns-then-count-room-clause-read
returns-then-count-room-clause-read c =
    long_told (length c.args.room.now) LongKey told_long c.fault_of_long.result _ c.in-Some.digits.now refl c.in-Some.ensures.spelled c.in-Some.ensures.even (let over = c.if-count-room.true in omega arith)
    c.fault_of_long.ensures.hex c.fault_of_long.ensures.other
