use Rattle.std.proofs.Common.{◌≡◌, ◌++◌, map, drop}
use Rattle.proof_check.specs.Claims.{pair_of}
use Rattle.change_proof.proofs.laying.push_pairs.Given as goal

-- what was added, and what is left to add, are what was there and all pairs
abbrev pub invariant-loop-pair : goal.invariant-loop-pair
invariant-loop-pair l = map pair_of l.laid.items ++ drop l.pair-index l.pairs ≡ map pair_of l.fn.laid.items ++ l.pairs
