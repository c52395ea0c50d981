use Rattle.std.proofs.Common.{arith, sym, ◌∙◌}
use Rattle.node_table.proofs.RowsByKey.{row_of-seen}
use Rattle.node_table.proofs.table.NodeTable.led.Goals as goal

pub returns-then-eq : goal.returns-then-eq
returns-then-eq c =
    row_of-seen c.self.inside.rows.items c.args.self.now c.self.inside.next c.args.key.now c.index.result.now c.index-then-eq.result.now c.self.invariant c.self.view_is
    (omega (arith, c.len.ensures)) c.index.ensures c.index-then-eq.ensures (sym c.if-eq.true ∙ c.eq.ensures)
