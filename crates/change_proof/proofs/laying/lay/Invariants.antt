use Rattle.std.proofs.Common.{◌≡◌, ◌++◌, map, drop}
use Rattle.proof_model.specs.SoundProofs.{AreSorted}
use Rattle.proof_check.specs.Claims.{pair_of}
use Rattle.change_proof.specs.LaidChanges.{laid}
use Rattle.change_proof.proofs.laying.lay.Given as goal

-- what was made, and what the changes that are left make of the rest, are the pairs after all changes
abbrev pub invariant-loop-change : goal.invariant-loop-change
invariant-loop-change l = record {
  so_far : map pair_of l.made.items ++ laid l.rest (drop l.change-index l.changes) ≡ laid l.local l.changes;
  sorted : AreSorted l.rest;
}
