use Rattle.std.proofs.Common.{List, ℕ, length, ap, ◌∙◌, ◌≡◌, arith}
use Rattle.batch_model.specs.Batch.{Change, change_form}
use Rattle.mdb_base.proofs.ChangePlaces.{place_along, gap_along}
use Rattle.mdb_base.proofs.HeldChanges.{one_of_all, held-set, held-insert}
use Rattle.mdb_base.proofs.batch.Batch.put.Goals as goal

pub overflow_sub-self-inside : goal.overflow_sub-self-inside
overflow_sub-self-inside c =
    let place = place_along c.deref.result.now c.self.inside.changes.items c.deref-2.result.now c.deref-2.result.now c.in-Ok.at c.deref.ensures.value (λ _. c.deref-2.result.now) c.in-Ok.ensures.found in
    let one = one_of_all c.self.inside.changes.items c.self.inside.bytes c.in-Ok.at c.index.result.now c.self.invariant place.inside in
    let e = ap (λ (x : Change). length (change_form x)) c.index.ensures in
    omega (arith, one, e, c.change_len.ensures.exact)

pub invariant_of-self : goal.invariant_of-self
invariant_of-self c =
    let key : ◌≡◌ {A = List ℕ} c.deref-2.result.now c.args.change.key = c.deref-2.ensures.value ∙ ap (λ (x : Change). x.key) c.change.view_is in
    let place = place_along c.deref.result.now c.self.inside.changes.items c.deref-2.result.now c.args.change.key c.in-Ok.at c.deref.ensures.value key c.in-Ok.ensures.found in
    let e = ap (λ (x : Change). length (change_form x)) c.index.ensures in
    held-set c.self.inside.changes.items c.self.inside.bytes c.in-Ok.at c.args.change c.index.result.now c.in_ok-bytes-in-Ok.bytes c.self.invariant place c.requires
    (omega (arith, e, c.change_len.ensures.exact, c.change_len-added.ensures.exact, c.in_ok-bytes-in-Ok.ensures.sum)) c.in_ok-bytes-in-Ok.ensures.few

pub invariant_of-self-in-Err : goal.invariant_of-self-in-Err
invariant_of-self-in-Err c =
    let key : ◌≡◌ {A = List ℕ} c.deref-2.result.now c.args.change.key = c.deref-2.ensures.value ∙ ap (λ (x : Change). x.key) c.change.view_is in
    let gap = gap_along c.deref.result.now c.self.inside.changes.items c.deref-2.result.now c.args.change.key c.in-Err.at c.deref.ensures.value key c.in-Err.ensures.absent in
    rw c.in_ok-insert-in-Err.ensures.items (held-insert c.self.inside.changes.items c.self.inside.bytes c.in-Err.at c.args.change c.in_ok-bytes-in-Err.bytes c.self.invariant gap c.requires
    (omega (arith, c.change_len-added.ensures.exact, c.in_ok-bytes-in-Err.ensures.sum)) c.in_ok-bytes-in-Err.ensures.few)
