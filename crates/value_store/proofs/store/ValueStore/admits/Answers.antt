use Rattle.std.proofs.Common.{false, sym, ap, ◌∙◌, arith}
use Rattle.value_store.specs.Values.{ValueState}
use Rattle.value_store.proofs.WrittenBatches.{keys_counted}
use Rattle.value_store.proofs.store.ValueStore.admits.Goals as goal

pub returns-then-len_after-gt-PAIRS_LIMIT-clause-fault : goal.returns-then-len_after-gt-PAIRS_LIMIT-clause-fault
returns-then-len_after-gt-PAIRS_LIMIT-clause-fault c =
    let s = c.args.self.now in
    let is = sym c.self.view_is in
    let works = ap (λ (v : ValueState). v.journal.failed) is ∙ sym c.failed.ensures ∙ c.if-failed.false in (
      record { works = works; fits = omega (arith, c.if-count-gt-PAYLOAD_LIMIT.false, c.payload_len-count.ensures) },
      λ m has. omega (arith, keys_counted s m c.self.inside.index c.args.batch.now c.changes.result.now c.len_after.result (ap (λ (v : ValueState). v.index) is) c.changes.ensures.all (c.len_after.ensures 0) has, c.if-len_after-gt-PAIRS_LIMIT.true),
    )

pub returns-clause-admitted : goal.returns-clause-admitted
returns-clause-admitted c =
    let s = c.args.self.now in
    let is = sym c.self.view_is in
    let works = ap (λ (v : ValueState). v.journal.failed) is ∙ sym c.failed.ensures ∙ c.if-failed.false in
    record {
      may = record { works = works; fits = omega (arith, c.if-count-gt-PAYLOAD_LIMIT.false, c.payload_len-count.ensures) };
      room = λ m has. omega (arith, keys_counted s m c.self.inside.index c.args.batch.now c.changes.result.now c.len_after.result (ap (λ (v : ValueState). v.index) is) c.changes.ensures.all (c.len_after.ensures 0) has, c.if-len_after-gt-PAIRS_LIMIT.false);
    }
