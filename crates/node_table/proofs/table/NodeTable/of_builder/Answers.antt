use Rattle.std.proofs.Common.{sym, subst}
use Rattle.trie_model.specs.Laws.{AreStored}
use Rattle.bit_keys.specs.Branch.{width_of}
use Rattle.map_root.specs.BuilderPairs.{pair_items}
use Rattle.node_table.proofs.RowsByKey.{table_rises}
use Rattle.node_table.proofs.table.NodeTable.of_builder.Goals as goal

pub new-requires : goal.new-requires
new-requires g c = table_rises (width_of c.args.builder.branch) (pair_items c.args.builder.pairs) c.in_ok-root.rows.items c.in_ok-root.ensures.nodes

pub returns-clause-stored : goal.returns-clause-stored
returns-clause-stored g c = λ l w. subst (AreStored l (width_of c.args.builder.branch)) (sym c.in_ok-new.ensures) (c.in_ok-root.ensures.stored l w)
