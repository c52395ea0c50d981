use Rattle.std.proofs.Common.{◌≡◌, drop}
use Rattle.std.specs.FinMap.{find}
use Rattle.base_model.specs.Bytes.{bytes_cmp}
use Rattle.base_model.specs.Member.{Member}
use Rattle.batch_model.specs.Batch.{Change}
use Rattle.proof_model.specs.Refusals.{first_place}
use Rattle.proof_model.specs.SoundProofs.{AreSorted}
use Rattle.change_proof.specs.LaidChanges.{is_idle_in}
use Rattle.change_proof.proofs.laying.first_idle.Given as goal

-- no change up to here is idle, and the later ones find in the rest what they find in all pairs
abbrev pub invariant-loop-i : goal.invariant-loop-i
invariant-loop-i l = record {
  none : first_place (is_idle_in l.local) 0 l.changes ≡ first_place (is_idle_in l.local) l.i (drop l.i l.changes);
  sorted : AreSorted l.rest;
  same : (c : Change) → Member (drop l.i l.changes) c → find bytes_cmp c.key l.rest ≡ find bytes_cmp c.key l.local;
}
