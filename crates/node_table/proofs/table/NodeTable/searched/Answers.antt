use Rattle.std.proofs.Common.{sym, ap, ◌∙◌, subst, map, rules, Some, Ok, Err, get_or}
use Rattle.std.proofs.lemmas.Fn.{always_returns_same}
use Rattle.trie_model.specs.Bits.{key_cmp, IsRising}
use Rattle.trie_model.specs.Table.{Row}
use Rattle.trie_items.specs.Sources.{row_of}
use Rattle.node_table.specs.Rows.{row_key}
use Rattle.node_table.proofs.RowsByKey.{searched}
use Rattle.node_table.proofs.table.NodeTable.searched.Goals as goal

pub returns-in-Ok : goal.returns-in-Ok
returns-in-Ok c =
    let rows = c.deref.result.now in
    let rises : IsRising (map row_key rows) = subst (λ rs. IsRising (map row_key rs)) (sym c.deref.ensures.value) c.self.invariant in
    let by_key = c.in-Ok.ensures.position (λ (r : Row). key_cmp r.0 c.args.key.now) (always_returns_same _ _ _ (λ a r g called. search rules)) in
    let found = (searched rows c.args.key.now rises (Ok c.in-Ok.at) c.in-Ok.ensures.bound by_key).found in
    let here = ap (λ rs. get_or rs c.in-Ok.at c.index.result.now) c.deref.ensures.value ∙ sym c.index.ensures in
    sym (ap (row_of c.args.key.now) (sym c.self.view_is ∙ sym c.deref.ensures.value) ∙ found c.index.result.now ∙ ap (λ (r : Row). Some r.1) here)

pub returns-in-Err : goal.returns-in-Err
returns-in-Err c =
    let rows = c.deref.result.now in
    let rises : IsRising (map row_key rows) = subst (λ rs. IsRising (map row_key rs)) (sym c.deref.ensures.value) c.self.invariant in
    let by_key = c.in-Err.ensures.position (λ (r : Row). key_cmp r.0 c.args.key.now) (always_returns_same _ _ _ (λ a r g called. search rules)) in
    sym (ap (row_of c.args.key.now) (sym c.self.view_is ∙ sym c.deref.ensures.value) ∙ (searched rows c.args.key.now rises (Err c.in-Err.field-0) c.in-Err.ensures.bound by_key).absent)
