use Rattle.bit_keys.specs.Branch.{width_of}
use Rattle.map_root.specs.BuilderPairs.{pair_items}
use Rattle.node_table.proofs.RowsByKey.{table_rises}
use Rattle.mdb_core.proofs.digests.Digests.nodes.Goals as goal

pub new-requires : goal.new-requires
new-requires c =
    let builder = c.in_ok-builder.field-0 in
    table_rises (width_of builder.branch) (pair_items builder.pairs) c.in_ok-_root.rows.items c.in_ok-_root.ensures.nodes
