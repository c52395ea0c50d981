use Rattle.proof_check.proofs.ItemsBeside.{leads_to-append, shown_first, shown_second}
use Rattle.proof_check.proofs.beside.is_shown.Goals as goal

pub returns-then-leads_to : goal.returns-then-leads_to
returns-then-leads_to c = shown_first _ _ _ _ c.leads_to.ensures c.if-leads_to.true (leads_to-append c.args.slot.now c.args.claim.now.start.now c.args.claim.now.end.now)

pub returns-else-leads_to : goal.returns-else-leads_to
returns-else-leads_to c = shown_second _ _ _ _ _ c.leads_to.ensures c.if-leads_to.false c.leads_to-else-leads_to.ensures (leads_to-append c.args.slot.now c.args.claim.now.start.now c.args.claim.now.end.now)
