use Rattle.std.proofs.Common.{◌+◌, length, reverse, sym, ap, ◌∙◌, subst}
use Rattle.trie_model.specs.Ids.{id}
use Rattle.trie_model.specs.Laws.{AreStored}
use Rattle.trie_model.specs.Strings.{strings}
use Rattle.trie_model.specs.Table.{items_table}
use Rattle.bit_keys.specs.Branch.{width_of}
use Rattle.map_root.proofs.Pairs.{items_of_map}
use Rattle.map_root.proofs.builder.Builder.finish.Goals as goal

pub returns-clause-root : goal.returns-clause-root
returns-clause-root g c = λ m f. c.in_ok-id.ensures.id ∙ ap (id (width_of c.args.self.branch)) (sym (items_of_map m c.args.self.pairs f))

pub returns-clause-table : goal.returns-clause-table
returns-clause-table g c = λ m f. c.reverse.ensures.items ∙ c.in_ok-id.ensures.rows ∙ ap (items_table (width_of c.args.self.branch)) (sym (items_of_map m c.args.self.pairs f))

pub returns-clause-cost : goal.returns-clause-cost
returns-clause-cost g c = λ m f. c.in_ok-id.ensures.cost ∙ ap (λ is. c.args.steps.now + length (strings (width_of c.args.self.branch) is)) (sym (items_of_map m c.args.self.pairs f))

pub pass_over-requires : goal.pass_over-requires
pass_over-requires g c = ap reverse c.new.ensures.items

pub returns-clause-stored : goal.returns-clause-stored
returns-clause-stored g c = λ l w. subst (AreStored l (width_of c.args.self.branch)) (sym (c.reverse.ensures.items ∙ c.in_ok-id.ensures.rows)) (c.in_ok-id.ensures.stored l w)
