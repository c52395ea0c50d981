use Rattle.std.proofs.Common.{ap, ◌∙◌}
use Rattle.std.proofs.lemmas.Result.{err_from_is_err_and}
use Rattle.bit_keys.specs.Branch.{width_of}
use Rattle.trie_model.specs.Ids.{id}
use Rattle.proof_check.proofs.FirstReasons.{entries_told, paths_told, root_told, is_claim, paths_cost}
use Rattle.proof_check.proofs.checking.check.Goals as goal

pub returns-in_err-check_entries-clause-told : goal.returns-in_err-check_entries-clause-told
returns-in_err-check_entries-clause-told g c =
    let p = err_from_is_err_and c.from_residual.result c.from_residual.ensures.1 in
    rw (p.1, p.2) (entries_told (width_of c.args.branch) c.args.asked.now c.args.root.now c.args.claim.now _ c.in_err-check_entries.ensures.told)

pub items_of-requires : goal.items_of-requires
items_of-requires g c = is_claim (width_of c.args.branch) c.args.asked.now c.args.claim.now c.requires c.in_ok-check_entries.ensures.told c.in_ok-check_entries.ensures.bytes

pub returns-in_err-items-clause-told : goal.returns-in_err-items-clause-told
returns-in_err-items-clause-told g c =
    let p = err_from_is_err_and c.from_residual-in_err-items.result c.from_residual-in_err-items.ensures.1 in
    rw (p.1, p.2) (paths_told (width_of c.args.branch) c.args.asked.now c.args.root.now c.args.claim.now _ c.in_ok-check_entries.ensures.told c.in_err-items.ensures.told)

pub returns-in_err-items-clause-cost : goal.returns-in_err-items-clause-cost
returns-in_err-items-clause-cost g c =
    let p = err_from_is_err_and c.from_residual-in_err-items.result c.from_residual-in_err-items.ensures.1 in
    rw (p.1, p.2) (paths_cost c.args.claim.now.start.now c.args.claim.now.end.now _ c.args.steps.now _ c.in_err-items.ensures.told)

pub returns-clause-told : goal.returns-clause-told
returns-clause-told g c =
    root_told (width_of c.args.branch) c.args.asked.now c.args.root.now c.args.claim.now c.check_root.result (id c.in_ok-items.items.width c.in_ok-items.items.items) c.in_ok-check_entries.ensures.told c.in_ok-items.ensures.told
    (ap (λ w. id w c.in_ok-items.items.items) c.in_ok-items.ensures.width ∙ ap (id (width_of c.args.branch)) c.in_ok-items.ensures.items) c.check_root.ensures.told
