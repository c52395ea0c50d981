use Rattle.std.proofs.Common.{rules, ap, sym, ◌∙◌, length, drop, ◌≡◌}
use Rattle.view_model.specs.Calls.{view_refused}
use Rattle.view_model.specs.Forest.{path_of}
use Rattle.mdb_core.specs.Stores.{DbState, is_failed}
use Rattle.mdb_core.proofs.Refusals.{take_fails, not_refused, may_commit, live_state}
use Rattle.mdb_core.proofs.store.Db.admit_next.Goals as goal

pub returns-in-Err-clause-fault : goal.returns-in-Err-clause-fault
returns-in-Err-clause-fault c =
    let works = ap is_failed (sym c.self.view_is) ∙ (sym c.failed.ensures ∙ c.if-failed.false) in
    take_fails c.args.self.now c.args.id.number c.live.result c.in-Err.fault works c.live.ensures c.in-Err.is

pub returns-in-Ok-clause-may : goal.returns-in-Ok-clause-may
returns-in-Ok-clause-may c =
    let n = c.args.id.number in
    let f = c.args.self.now.forest in
    let live = live_state f n (not_refused (view_refused f n) c.live.result c.in_default.field-0 c.live.ensures c.in_default.is) in
    let same = ap (λ (s : DbState). drop (length s.forest.store) (path_of s.forest n)) c.self.view_is in
    let one : length c.in-Ok.ids.items ≡ 1 = search rules in
    record { works = ap is_failed (sym c.self.view_is) ∙ (sym c.failed.ensures ∙ c.if-failed.false); next = may_commit f n c.in-Ok.ids.items live (c.in-Ok.ensures ∙ same) one }
