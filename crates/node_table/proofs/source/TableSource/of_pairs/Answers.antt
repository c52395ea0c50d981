use Rattle.std.proofs.Common.{None, sym, ap, ◌∙◌, subst}
use Rattle.bit_keys.specs.Branch.{width_of}
use Rattle.map_root.specs.BuilderPairs.{pair_items}
use Rattle.trie_items.specs.Sources.{AreAscending}
use Rattle.node_table.specs.Pairs.{are_good, keys_of}
use Rattle.node_table.proofs.KeysInOrder.{good_keys, keys_pass}
use Rattle.node_table.proofs.RowsByKey.{table_rises}
use Rattle.node_table.proofs.source.TableSource.of_pairs.Goals as goal

pub returns-then-not-are_in_order-clause-found : goal.returns-then-not-are_in_order-clause-found
returns-then-not-are_in_order-clause-found c =
    let tested = c.are_in_order.ensures ∙ ap (λ ps. are_good None (keys_of ps)) c.deref.ensures.value in
    (λ e. absurd (cc), λ good. sym c.if-not-are_in_order.true ∙ tested ∙ keys_pass (keys_of c.args.pairs.items) good.0 good.1)

pub told-requires : goal.told-requires
told-requires c =
    let tested = c.are_in_order.ensures ∙ ap (λ ps. are_good None (keys_of ps)) c.deref.ensures.value in
    subst (λ ps. AreAscending (keys_of ps)) (sym c.deref-2.ensures.value) (good_keys None (keys_of c.args.pairs.items) (sym tested ∙ c.if-not-are_in_order.false)).0

pub new-requires : goal.new-requires
new-requires c = table_rises (width_of c.in_ok-builder.builder.branch) (pair_items c.in_ok-builder.builder.pairs) c.in_ok-_root.rows.items c.in_ok-_root.ensures.nodes

pub invariant_of-result : goal.invariant_of-result
invariant_of-result c =
    let tested = c.are_in_order.ensures ∙ ap (λ ps. are_good None (keys_of ps)) c.deref.ensures.value in
    let good = good_keys None (keys_of c.args.pairs.items) (sym tested ∙ c.if-not-are_in_order.false) in
    record { in_order = good.0; short = good.1 }
