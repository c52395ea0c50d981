use Rattle.std.proofs.Common.{arith}
use Rattle.point_proof.proofs.AcceptedProofs.{only-IsRange, is_there}
use Rattle.point_proof.proofs.verifying.only.Goals as goal

pub unwrap-requires : goal.unwrap-requires
unwrap-requires c =
    is_there c.new.result _ _ c.new.ensures (only-IsRange c.args.key.now c.in_ok-start.start.items c.in_ok-end.end.items (λ i. omega (arith, c.type_inv.key i)) c.requires c.in_ok-start.ensures.items c.in_ok-end.ensures.items)
