use Rattle.std.proofs.Common.{ap, ◌∙◌, sym, Err}
use Rattle.std.proofs.lemmas.Result.{err_from_is_err_and}
use Rattle.bit_keys.specs.Branch.{width_of}
use Rattle.range_proof.specs.ReachedRanges.{or_asked}
use Rattle.change_proof.proofs.EarlyReasons.{told_by_map, told_early, costs_none, short_keys, asked_holds, rising, reached_holds, told_late}
use Rattle.change_proof.proofs.verifying.check_changes.Goals as goal

pub returns-in_err-check_early-clause-refusal : goal.returns-in_err-check_early-clause-refusal
returns-in_err-check_early-clause-refusal g c = λ m t.
    let p = err_from_is_err_and c.from_residual.result c.from_residual.ensures.1 in
    rw (p.1, p.2) (told_by_map c.args.range.now c.args.proof.now (width_of c.args.branch) m c.args.root.now _ c.in_err-check_early.ensures)

pub returns-in_err-check_early-clause-early : goal.returns-in_err-check_early-clause-early
returns-in_err-check_early-clause-early g c =
    let p = err_from_is_err_and c.from_residual.result c.from_residual.ensures.1 in
    rw (p.1, p.2) (told_early c.args.range.now c.args.proof.now (Err _) c.in_err-check_early.ensures)

pub returns-in_err-check_early-clause-cost : goal.returns-in_err-check_early-clause-cost
returns-in_err-check_early-clause-cost g c = λ m t.
    let p = err_from_is_err_and c.from_residual.result c.from_residual.ensures.1 in
    rw (p.1, p.2) (costs_none c.args.range.now c.args.proof.now _ c.args.steps.now _ c.in_err-check_early.ensures)

pub shorter-requires-clause-claim : goal.shorter-requires-clause-claim
shorter-requires-clause-claim g c = short_keys (width_of c.args.branch) c.args.proof.now c.requires.claim

pub shorter-requires-clause-inside : goal.shorter-requires-clause-inside
shorter-requires-clause-inside g c = asked_holds c.args.range.now c.args.proof.now c.in_ok-check_early.ensures

pub check_local-requires-clause-rising : goal.check_local-requires-clause-rising
check_local-requires-clause-rising g c = rising c.args.range.now c.args.proof.now c.in_ok-check_early.ensures

pub check_local-requires-in-None-clause-rising : goal.check_local-requires-in-None-clause-rising
check_local-requires-in-None-clause-rising g c = rising c.args.range.now c.args.proof.now c.in_ok-check_early.ensures

pub check_local-requires-clause-inside : goal.check_local-requires-clause-inside
check_local-requires-clause-inside g c =
    reached_holds c.args.range.now c.args.proof.now c.in_ok-check_early.ensures c.in-Some.reached (sym (ap (or_asked c.args.range.now) c.in-Some.is) ∙ c.in_ok-reached.ensures.reach)

pub check_local-requires-in-None-clause-inside : goal.check_local-requires-in-None-clause-inside
check_local-requires-in-None-clause-inside g c =
    reached_holds c.args.range.now c.args.proof.now c.in_ok-check_early.ensures c.args.range.now (sym (ap (or_asked c.args.range.now) c.in-None.is) ∙ c.in_ok-reached.ensures.reach)

pub returns-in-Some-clause-refusal : goal.returns-in-Some-clause-refusal
returns-in-Some-clause-refusal g c = λ m t.
    told_late c.args.range.now c.args.proof.now (width_of c.args.branch) m c.args.root.now c.in-Some.reached c.check_local.result c.in_ok-check_early.ensures (sym (ap (or_asked c.args.range.now) c.in-Some.is) ∙ c.in_ok-reached.ensures.reach)
    (c.check_local.ensures.refusal m t)

pub returns-in-None-clause-refusal : goal.returns-in-None-clause-refusal
returns-in-None-clause-refusal g c = λ m t.
    told_late c.args.range.now c.args.proof.now (width_of c.args.branch) m c.args.root.now c.args.range.now c.check_local-in-None.result c.in_ok-check_early.ensures (sym (ap (or_asked c.args.range.now) c.in-None.is) ∙ c.in_ok-reached.ensures.reach)
    (c.check_local-in-None.ensures.refusal m t)
