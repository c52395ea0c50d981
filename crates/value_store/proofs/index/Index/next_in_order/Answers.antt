use Rattle.std.proofs.Common.{false, true, not, ap, ◌∙◌, sym}
use Rattle.std.specs.Prelude.{◌&&◌}
use Rattle.std.specs.FinMap.{keys}
use Rattle.std.specs.Ordering.{is_lt, is_le}
use Rattle.base_model.specs.Bytes.{bytes_cmp}
use Rattle.value_store.specs.Index.{Places}
use Rattle.value_store.specs.Values.{next_of}
use Rattle.value_store.proofs.NextKeys.{Entry, keys-places_of, next_from, first-lent, past_test, from_test}
use Rattle.value_store.proofs.index.Index.next_in_order.Goals as goal

pub returns-then-past : goal.returns-then-past
returns-then-past c =
    let es = c.self.inside.places.entries in
    let from = c.args.from.items in
    c.key_of.ensures
    ∙ first-lent c.next.result c.range.result c.next.new.self c.next.ensures.steps
    ∙ next_from es c.range.result from true (λ (e : Entry). is_lt (bytes_cmp from e.0.items) && not false) (λ e. past_test _) (c.range.ensures.between tt)
    ∙ ap (λ ks. next_of ks from true) (sym (keys-places_of es c.self.invariant.0) ∙ ap (λ (m : Places). keys m) c.self.view_is)
    ∙ ap (λ b. next_of (keys c.args.self.now) from b) (sym c.if-past.true)

pub returns-else-past : goal.returns-else-past
returns-else-past c =
    let es = c.self.inside.places.entries in
    let from = c.args.from.items in
    c.key_of-else-past.ensures
    ∙ first-lent c.next-else-past.result c.range-else-past.result c.next-else-past.new.self c.next-else-past.ensures.steps
    ∙ next_from es c.range-else-past.result from false (λ (e : Entry). is_le (bytes_cmp from e.0.items) && not false) (λ e. from_test _) (c.range-else-past.ensures.between tt)
    ∙ ap (λ ks. next_of ks from false) (sym (keys-places_of es c.self.invariant.0) ∙ ap (λ (m : Places). keys m) c.self.view_is)
    ∙ ap (λ b. next_of (keys c.args.self.now) from b) (sym c.if-past.false)
