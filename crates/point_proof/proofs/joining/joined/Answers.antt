use Rattle.point_proof.proofs.JoinedKeys.{all_tokens}
use Rattle.point_proof.proofs.joining.joined.Goals as goal

pub returns : goal.returns
returns c = all_tokens c.with_tokens-2.result c.args.front c.in_ok-front.front c.args.rest.now c.bits-bits.result _ c.with_tokens-2.ensures c.bits-bits.ensures c.in_ok-front.ensures
