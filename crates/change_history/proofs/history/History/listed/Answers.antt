use Rattle.std.proofs.Common.{◌≡◌, ◌∙◌, ap, map, subst}
use Rattle.history_model.specs.Changes.{change_of}
use Rattle.change_history.specs.declared.telling.Taken.{Taken}
use Rattle.change_history.specs.NetChanges.{nets_of}
use Rattle.change_history.specs.ToldChanges.{IsTaken, AreListed}
use Rattle.change_history.proofs.CallAnswers.{if_ok}
use Rattle.change_history.proofs.history.History.listed.Goals as goal

pub returns : goal.returns
returns c =
    if_ok (λ (t : Taken). IsTaken c.args.pairs c.args.bytes (map change_of (nets_of c.deref.result.now)) t) (AreListed c.args.self.now c.args.range.now c.args.former c.args.later c.args.pairs c.args.bytes) c.take.result
    (λ t taken w maps r. subst (λ cs. IsTaken c.args.pairs c.args.bytes cs t) (ap (λ ns. map change_of (nets_of ns)) c.deref.ensures.value ∙ ap (map change_of) (c.in_ok-nets.ensures w maps r)) taken) c.take.ensures
