use Rattle.std.proofs.Common.{ap, ◌∙◌, sym, refl, inl, inr, Some}
use Rattle.std.specs.Option.{option_copied}
use Rattle.range_model.specs.Ranges.{holds}
use Rattle.proof_model.specs.Proofs.{Pair}
use Rattle.proof_model.specs.RangeProofs.{RangeProof}
use Rattle.proof_model.specs.TakenEntries.{end_or}
use Rattle.range_proof.proofs.CheckedRange.{last_is, reached_range-cut}
use Rattle.range_proof.proofs.reaching.shorter.Goals as goal

pub returns-then-not-holds : goal.returns-then-not-holds
returns-then-not-holds c =
    let pairs = c.deref.ensures.value ∙ ap (λ (p : RangeProof). p.pairs) c.proof.view_is in
    let last = last_is (λ (e : Pair). e.0) c.args.proof.now.pairs c.deref.result.now (option_copied c.last.result) c.in-Some.last.now c.last.ensures.value pairs (ap option_copied c.in-Some.is) in
    let key = c.deref-2.ensures.value ∙ ap (λ (e : Pair). e.0) c.last-2.view_is in
    record { range = c.start-start.ensures.range; tells = inr (refl, (c.in-Some.last.now.0, last, ap (holds c.args.asked.now) (sym key) ∙ sym c.holds.ensures ∙ c.if-not-holds.true)) }

pub returns : goal.returns
returns c =
    let pairs = c.deref.ensures.value ∙ ap (λ (p : RangeProof). p.pairs) c.proof.view_is in
    let last = last_is (λ (e : Pair). e.0) c.args.proof.now.pairs c.deref.result.now (option_copied c.last.result) c.in-Some.last.now c.last.ensures.value pairs (ap option_copied c.in-Some.is) in
    let key = c.deref-3.ensures.value ∙ ap (λ (e : Pair). e.0) c.last-2.view_is in
    let cut = sym (ap (λ (p : RangeProof). p.cut) c.proof.view_is) ∙ c.if-not-proof.false in
    record {
      range = c.in_ok-up_to.ensures.range;
      tells = inl (c.in_ok-up_to.ensures.bounds ∙ ap (λ k. end_or (Some k) c.args.asked.now) key ∙ reached_range-cut c.args.asked.now c.args.proof.now.cut c.args.proof.now.pairs c.in-Some.last.now.0 cut last);
    }
