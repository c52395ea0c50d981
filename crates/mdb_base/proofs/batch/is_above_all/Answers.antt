use Rattle.std.proofs.Common.{◌≡◌, List, ℕ, ap, sym, ◌∙◌}
use Rattle.std.specs.Ordering.{is_lt}
use Rattle.base_model.specs.Bytes.{bytes_cmp}
use Rattle.batch_model.specs.Batch.{Change}
use Rattle.mdb_base.proofs.ChangePlaces.{above_all}
use Rattle.mdb_base.proofs.batch.is_above_all.Goals as goal

pub returns-in-Some : goal.returns-in-Some
returns-in-Some c = λ t.
    let same : ◌≡◌ {A = List ℕ} c.as_slice.result.now c.in-Some.last.now.key = c.as_slice.ensures.value ∙ ap (λ (x : Change). x.key) c.last-in-Some.view_is in
    let below = ap (λ (key : List ℕ). is_lt (bytes_cmp key c.args.key.now)) (sym same) ∙ ap is_lt (sym c.cmp.ensures) ∙ sym c.is_lt.ensures ∙ t in
    above_all c.args.changes.now c.args.key.now c.in-Some.last.now c.requires (sym c.in-Some.ensures.value) below
