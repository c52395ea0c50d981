use Rattle.std.proofs.Common.{sym, subst, refl}
use Rattle.proof_check.specs.CheckResults.{Tells}
use Rattle.proof_check.proofs.FirstReasons.{order_told, difference_told}
use Rattle.proof_check.proofs.paths.check_paths.Goals as goal

pub returns-in-Some : goal.returns-in-Some
returns-in-Some c = order_told _ _ _ _ _ c.first_break.ensures c.first_break-2.ensures c.in-Some.place c.in-Some.ensures

pub returns-in-None : goal.returns-in-None
returns-in-None c = subst (Tells c.check_shared.result) (sym (difference_told _ _ _ _ _ c.first_break.ensures c.first_break-2.ensures c.in-None.ensures _ refl)) c.check_shared.ensures
