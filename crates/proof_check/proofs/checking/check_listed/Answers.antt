use Rattle.std.proofs.lemmas.Result.{err_from_is_err_and}
use Rattle.proof_check.proofs.FirstReasons.{listed_first, listed_next}
use Rattle.proof_check.proofs.checking.check_listed.Goals as goal

pub returns-in_err-check_entries : goal.returns-in_err-check_entries
returns-in_err-check_entries c =
    let p = err_from_is_err_and c.from_residual.result c.from_residual.ensures.1 in
    rw (p.1, p.2) (listed_first c.args.asked.now c.args.entries.now c.args.start.now c.args.end.now _ c.in_err-check_entries.ensures.told)

pub returns : goal.returns
returns c = listed_next c.args.asked.now c.args.entries.now c.args.start.now c.args.end.now c.check_paths.result c.in_ok-check_entries.ensures.told c.check_paths.ensures
