use Rattle.std.proofs.Common.{◌+◌, length, sym, ap, ◌∙◌}
use Rattle.std.proofs.lemmas.Result.{IfOk-weaker, on_ok_weaker}
use Rattle.trie_model.specs.Ids.{id}
use Rattle.trie_model.specs.Strings.{strings}
use Rattle.bit_keys.specs.Branch.{width_of}
use Rattle.map_root.proofs.Pairs.{items_of_map}
use Rattle.map_root.proofs.builder.Builder.finish_root.Goals as goal

pub returns-clause-root : goal.returns-clause-root
returns-clause-root g c = IfOk-weaker c.pass_over.result _ _ (λ made e m f. e ∙ ap (id (width_of c.args.self.branch)) (sym (items_of_map m c.args.self.pairs f))) c.pass_over.ensures.id

pub returns-clause-cost : goal.returns-clause-cost
returns-clause-cost g c = on_ok_weaker c.pass_over.result (λ e m f. e ∙ ap (λ is. c.args.steps.now + length (strings (width_of c.args.self.branch) is)) (sym (items_of_map m c.args.self.pairs f))) c.pass_over.ensures.cost
