use Rattle.std.proofs.Common.{◌≡◌, take}
use Rattle.proof_model.specs.ChangeProofs.{changed_keys}
use Rattle.proof_check.specs.Claims.{keys_of}
use Rattle.proof_check.proofs.change.ChangeProof.entries.Given as goal

-- what was listed are the changes up to here
abbrev pub invariant-loop-change : goal.invariant-loop-change
invariant-loop-change l = keys_of l.entries.items ≡ changed_keys (take l.change-index l.self.changes)
