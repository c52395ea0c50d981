use Rattle.std.proofs.Common.{ap, ◌∙◌, refl}
use Rattle.std.specs.Option.{option_copied}
use Rattle.batch_model.specs.Batch.{Change}
use Rattle.range_proof.proofs.CheckedRange.{last_is}
use Rattle.change_proof.proofs.LastChange.{reached_end-cut}
use Rattle.change_proof.proofs.proving.reached_end.Goals as goal

pub returns-in-Some : goal.returns-in-Some
returns-in-Some c =
    let last = last_is (λ (c : Change). c.key) c.args.changes.now c.args.changes.now (option_copied c.last.result) c.in-Some.last.now c.last.ensures.value refl (ap option_copied c.in-Some.is) in
    let key = c.deref.ensures.value ∙ ap (λ (c : Change). c.key) c.last-in-Some.view_is in
    reached_end-cut c.args.range.now c.args.cut c.args.changes.now c.in-Some.last.now.key c.deref.result.now c.if-not-cut.false last key
