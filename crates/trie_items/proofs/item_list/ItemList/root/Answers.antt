use Rattle.std.proofs.Common.{sym, ap, ◌∙◌, arith}
use Rattle.trie_model.specs.Hashing.{zero_id}
use Rattle.trie_items.specs.Items.{item_of}
use Rattle.trie_items.proofs.RootRuns.{nothing_seen, no_id, no_strings_at_all}
use Rattle.trie_items.proofs.item_list.ItemList.root.Goals as goal

pub returns-then-is_empty-clause-id : goal.returns-then-is_empty-clause-id
unfolding zero_id
returns-then-is_empty-clause-id g c =
    no_id c.args.self.now.width c.args.self.now.items (sym (ap (λ s. s.items) c.self.view_is) ∙ nothing_seen item_of c.self.inside.items.items c.as_slice-items.result.now c.as_slice-items.ensures.value c.if-is_empty.ensures)

pub returns-then-is_empty-clause-cost : goal.returns-then-is_empty-clause-cost
returns-then-is_empty-clause-cost g c =
    let e = no_strings_at_all c.args.self.now.width c.args.self.now.items (sym (ap (λ s. s.items) c.self.view_is) ∙ nothing_seen item_of c.self.inside.items.items c.as_slice-items.result.now c.as_slice-items.ensures.value c.if-is_empty.ensures) in
    omega (arith, e)
