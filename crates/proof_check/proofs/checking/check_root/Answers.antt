use Rattle.proof_check.proofs.FirstReasons.{root_differs, root_same}
use Rattle.proof_check.proofs.checking.check_root.Goals as goal

pub returns-then-ne-clause-told : goal.returns-then-ne-clause-told
returns-then-ne-clause-told g c = root_differs _ _ _ _ c.in_ok-have.ensures.id c.ne.ensures c.if-ne.true

pub returns-clause-told : goal.returns-clause-told
returns-clause-told g c = root_same _ _ _ _ c.in_ok-have.ensures.id c.ne.ensures c.if-ne.false
