use Rattle.std.proofs.Common.{◌≡◌, map, take}
use Rattle.proof_model.specs.RangeProofs.{keys_of as listed_keys}
use Rattle.proof_check.specs.Claims.{pair_of, keys_of}
use Rattle.proof_check.proofs.range.RangeProof.entries.Given as goal

-- what was listed are the pairs up to here
abbrev pub invariant-loop-pair : goal.invariant-loop-pair
invariant-loop-pair l = record {
  pairs : map pair_of l.entries.items ≡ take l.pair-index l.self.pairs;
  keys : keys_of l.entries.items ≡ listed_keys (take l.pair-index l.self.pairs);
}
