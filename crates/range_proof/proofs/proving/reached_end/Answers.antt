use Rattle.std.proofs.Common.{ap, ◌∙◌, refl}
use Rattle.std.specs.Option.{option_copied}
use Rattle.proof_model.specs.Proofs.{Pair}
use Rattle.range_proof.proofs.CheckedRange.{last_is, reached_end-cut}
use Rattle.range_proof.proofs.proving.reached_end.Goals as goal

pub returns-in-Some : goal.returns-in-Some
returns-in-Some c =
    let last = last_is (λ (e : Pair). e.0) c.args.pairs.now c.args.pairs.now (option_copied c.last.result) c.in-Some.last.now c.last.ensures.value refl (ap option_copied c.in-Some.is) in
    let key = c.deref.ensures.value ∙ ap (λ (e : Pair). e.0) c.last-in-Some.view_is in
    reached_end-cut c.args.range.now c.args.cut c.args.pairs.now c.in-Some.last.now.0 c.deref.result.now c.if-not-cut.false last key
