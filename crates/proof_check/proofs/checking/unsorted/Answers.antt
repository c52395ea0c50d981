use Rattle.std.proofs.Common.{sym, ◌∙◌}
use Rattle.proof_check.specs.Claims.{entry_less}
use Rattle.proof_check.proofs.PathOrders.{short_end}
use Rattle.proof_check.proofs.checking.unsorted.Goals as goal

pub returns : goal.returns
returns c = sym (c.loop-i.invariant ∙ short_end entry_less _ c.loop-i.i c.args.entries.now c.loop-i-test.false)
