use Rattle.std.proofs.Common.{refl}
use Rattle.verify_run.proofs.change_lines.check.Goals as goal

pub returns-clause-told : goal.returns-clause-told
returns-clause-told g c = λ tells m keeps. c.verify.ensures.refusal m (record { tells = tells; stored = m; keeps = keeps; spot = refl })
