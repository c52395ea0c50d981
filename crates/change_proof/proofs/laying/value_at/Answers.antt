use Rattle.std.proofs.Common.{ap, ◌∙◌}
use Rattle.std.specs.Option.{option_copied}
use Rattle.proof_model.specs.Proofs.{Pair}
use Rattle.change_proof.proofs.LaidPairs.{first_is, value_first, value_none}
use Rattle.change_proof.proofs.laying.value_at.Goals as goal

pub returns-then-eq : goal.returns-then-eq
returns-then-eq c =
    let first = first_is c.args.pairs.now (option_copied c.first.result) c.in-Some.first.now c.first.ensures.value (ap option_copied c.in-Some.is) in
    value_first c.args.pairs.now c.in-Some.first.now c.args.key.now c.as_slice.result.now c.eq.result first.0 first.1 (c.as_slice.ensures.value ∙ ap (λ (e : Pair). e.0) c.first-2.view_is) c.eq.ensures c.if-eq.true
    c.deref.result.now (c.deref.ensures.value ∙ ap (λ (e : Pair). e.1) c.first-2.view_is)

pub returns : goal.returns
returns c =
    let first = first_is c.args.pairs.now (option_copied c.first.result) c.in-Some.first.now c.first.ensures.value (ap option_copied c.in-Some.is) in
    value_none c.args.pairs.now c.in-Some.first.now c.args.key.now c.as_slice.result.now c.eq.result first.0 first.1 (c.as_slice.ensures.value ∙ ap (λ (e : Pair). e.0) c.first-2.view_is) c.eq.ensures c.if-eq.false
