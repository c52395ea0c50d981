use Rattle.std.proofs.Common.{◌∙◌, arith}
use Rattle.mdb_journal.proofs.GivenBytes.{these_at_passed, these_at_stopped, these_at_done}
use Rattle.mdb_journal.proofs.header.first_wrong.Goals as goal

pub returns-then-bytes-at-clause-some : goal.returns-then-bytes-at-clause-some
returns-then-bytes-at-clause-some c = λ wrong.
    c.loop-i.invariant wrong ∙ these_at_stopped c.args.wanted.now c.args.bytes.now c.args.at c.loop-i.i c.loop-i-test.true c.requires c.if-bytes-at.true wrong

pub loop-i-preserved : goal.loop-i-preserved
loop-i-preserved c = λ wrong.
    c.loop-i.invariant wrong ∙ these_at_passed c.args.wanted.now c.args.bytes.now c.args.at c.loop-i.i c.loop-i-test.true c.requires c.if-bytes-at.false wrong

pub returns-clause-none : goal.returns-clause-none
returns-clause-none c = λ wrong.
    c.loop-i.invariant wrong ∙ these_at_done c.args.wanted.now c.args.bytes.now c.args.at c.loop-i.i (omega arith) (omega arith) wrong
