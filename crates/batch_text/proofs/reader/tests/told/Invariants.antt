use Rattle.batch_text.specs.Stream.{EndHolds}
use Rattle.batch_text.proofs.reader.tests.told.Given as goal

abbrev pub invariant-steps : goal.invariant-steps
invariant-steps g l = EndHolds l.reader.ended (g.S.Source.left l.source)
