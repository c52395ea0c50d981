use Rattle.std.proofs.Common.{arith}
use Rattle.bit_keys.specs.Branch.{width_of}
use Rattle.proof_check.specs.Claims.{claim_of}
use Rattle.proof_check.proofs.Descents.{path_at}
use Rattle.proof_check.proofs.beside.push_down.Goals as goal

pub push_ahead-requires-clause-path : goal.push_ahead-requires-clause-path
push_ahead-requires-clause-path c = path_at (width_of c.args.branch) c.loop-i.i (claim_of c.args.claim.now) c.args.path.now _ (let l = c.loop-i-test.true in omega (arith, l)) c.index-path-i.is c.requires.path
