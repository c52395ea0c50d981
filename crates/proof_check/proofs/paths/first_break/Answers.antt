use Rattle.std.proofs.Common.{sym, ◌∙◌}
use Rattle.proof_check.proofs.PathOrders.{short_end}
use Rattle.proof_model.specs.Refusals.{extends}
use Rattle.proof_check.proofs.paths.first_break.Goals as goal

pub returns : goal.returns
returns c = sym (c.loop-i.invariant ∙ short_end extends _ c.loop-i.i c.args.path.now c.loop-i-test.false)
