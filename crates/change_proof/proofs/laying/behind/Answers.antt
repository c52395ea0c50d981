use Rattle.std.proofs.Common.{ap, ◌∙◌}
use Rattle.proof_model.specs.Proofs.{Pair}
use Rattle.change_proof.proofs.LaidPairs.{past_first, past_none}
use Rattle.change_proof.proofs.laying.behind.Goals as goal

pub returns-in-len1-up : goal.returns-in-len1-up
returns-in-len1-up c = past_first c.args.pairs.now c.first-item.result c.args.key.now c.as_slice.result.now c.eq.result c.in-len1-up.len_at_least c.first-item.is (c.as_slice.ensures.value ∙ ap (λ (e : Pair). e.0) c.first.view_is) c.eq.ensures c.if-eq.true

pub returns-in_default-2 : goal.returns-in_default-2
returns-in_default-2 c = past_none c.args.pairs.now c.first-item.result c.args.key.now c.as_slice.result.now c.eq.result c.in-len1-up.len_at_least c.first-item.is (c.as_slice.ensures.value ∙ ap (λ (e : Pair). e.0) c.first.view_is) c.eq.ensures c.if-eq.false
