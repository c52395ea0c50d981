use Rattle.std.proofs.Common.{arith}
use Rattle.node_codec.proofs.WholeNodes.{is_found, is_given}
use Rattle.node_codec.proofs.reading.decode.Goals as goal

pub returns-clause-found : goal.returns-clause-found
returns-clause-found c = is_found c.args.branch c.args.bytes.now c.whole_node_of.result (λ i. omega (arith, c.type_inv.bytes i)) c.whole_node_of.ensures

pub returns-clause-only : goal.returns-clause-only
returns-clause-only c = λ n fits e. is_given c.args.branch c.args.bytes.now c.whole_node_of.result c.whole_node_of.ensures n fits e
