use Rattle.std.proofs.Common.{false, true, not, ap, ◌∙◌, sym}
use Rattle.std.specs.Prelude.{◌&&◌}
use Rattle.std.specs.Ordering.{is_lt, is_le}
use Rattle.base_model.specs.Bytes.{bytes_cmp}
use Rattle.trie_items.specs.Sources.{next_key}
use Rattle.mdb_core.specs.Stores.{keys_of}
use Rattle.mdb_core.proofs.NextDigests.{Entry, next_from, first-lent, past_test, from_test}
use Rattle.mdb_core.proofs.digests.Digests.next_in_order.Goals as goal

pub returns-then-past : goal.returns-then-past
returns-then-past c =
    let es = c.self.inside.entries.entries in
    let from = c.args.from.items in
    c.key_of.ensures
    ∙ first-lent c.next.result c.range.result c.next.new.self c.next.ensures.steps
    ∙ next_from es c.range.result from true (λ (e : Entry). is_lt (bytes_cmp from e.0.items) && not false) (λ e. past_test _) (c.range.ensures.between tt)
    ∙ ap (λ ds. next_key true from (keys_of ds)) c.self.view_is
    ∙ ap (λ b. next_key b from (keys_of c.args.self.now)) (sym c.if-past.true)

pub returns-else-past : goal.returns-else-past
returns-else-past c =
    let es = c.self.inside.entries.entries in
    let from = c.args.from.items in
    c.key_of-else-past.ensures
    ∙ first-lent c.next-else-past.result c.range-else-past.result c.next-else-past.new.self c.next-else-past.ensures.steps
    ∙ next_from es c.range-else-past.result from false (λ (e : Entry). is_le (bytes_cmp from e.0.items) && not false) (λ e. from_test _) (c.range-else-past.ensures.between tt)
    ∙ ap (λ ds. next_key false from (keys_of ds)) c.self.view_is
    ∙ ap (λ b. next_key b from (keys_of c.args.self.now)) (sym c.if-past.false)
