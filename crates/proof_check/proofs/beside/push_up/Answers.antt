use Rattle.std.proofs.Common.{◌-◌, arith}
use Rattle.bit_keys.specs.Branch.{width_of}
use Rattle.proof_check.specs.Claims.{claim_of}
use Rattle.proof_check.proofs.Descents.{path_at}
use Rattle.proof_check.proofs.beside.push_up.Goals as goal

pub push_behind-requires-clause-path : goal.push_behind-requires-clause-path
push_behind-requires-clause-path c =
    let l = c.loop-left.invariant.within in
    let m = c.loop-left-test.true in
    path_at (width_of c.args.branch) (c.loop-left.left - 1) (claim_of c.args.claim.now) c.args.path.now _ (omega (arith, l, m)) c.index-path-left.is c.requires.path
