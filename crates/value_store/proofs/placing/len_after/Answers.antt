use Rattle.std.proofs.Common.{arith}
use Rattle.value_store.proofs.PlacesAfter.{len_after}
use Rattle.value_store.proofs.placing.len_after.Goals as goal

pub overflow_sub-result : goal.overflow_sub-result
overflow_sub-result c = omega (arith, len_after 0 c.args.changes.now c.args.index.now c.requires, c.len.ensures.len, c.count_added.ensures.count, c.count_taken.ensures)

pub returns : goal.returns
returns c = λ at. omega (arith, len_after at c.args.changes.now c.args.index.now c.requires, c.len.ensures.len, c.count_added.ensures.count, c.count_taken.ensures)
