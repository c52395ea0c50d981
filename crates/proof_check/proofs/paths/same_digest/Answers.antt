use Rattle.proof_check.proofs.PathOrders.{digests_compare}
use Rattle.proof_check.proofs.paths.same_digest.Goals as goal

pub returns-in-Some-Some : goal.returns-in-Some-Some
returns-in-Some-Some c = digests_compare _ _ _ _ _ _ _ c.eq.ensures c.bytes.ensures.value c.bytes-in-Some-Some.ensures.value c.in-Some-Some.is-0 c.in-Some-Some.is-1
