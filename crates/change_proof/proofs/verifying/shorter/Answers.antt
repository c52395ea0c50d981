use Rattle.std.proofs.Common.{ap, ◌∙◌, sym, Some}
use Rattle.std.specs.Option.{option_copied}
use Rattle.batch_model.specs.Batch.{Change}
use Rattle.proof_model.specs.ChangeProofs.{ChangeProof}
use Rattle.proof_model.specs.TakenEntries.{end_or}
use Rattle.range_proof.proofs.CheckedRange.{last_is}
use Rattle.change_proof.proofs.LastChange.{changes_reach-cut}
use Rattle.change_proof.proofs.verifying.shorter.Goals as goal

pub returns-clause-reach : goal.returns-clause-reach
returns-clause-reach c =
    let changes = c.deref.ensures.value ∙ ap (λ (p : ChangeProof). p.changes) c.proof.view_is in
    let last = last_is (λ (c : Change). c.key) c.args.proof.now.changes c.deref.result.now (option_copied c.last.result) c.in-Some.last.now c.last.ensures.value changes (ap option_copied c.in-Some.is) in
    let key = c.deref-2.ensures.value ∙ ap (λ (c : Change). c.key) c.last-2.view_is in
    let cut = sym (ap (λ (p : ChangeProof). p.cut) c.proof.view_is) ∙ c.if-not-proof.false in
    c.in_ok-up_to.ensures.bounds ∙ ap (λ k. end_or (Some k) c.args.asked.now) key ∙ changes_reach-cut c.args.asked.now c.args.proof.now.cut c.args.proof.now.changes c.in-Some.last.now.key cut last
