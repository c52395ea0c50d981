use Rattle.std.proofs.Common.{◌-◌, ◌+◌}
use Rattle.std.proofs.lemmas.Result.{err_from_is_err_and}
use Rattle.bit_keys.specs.Branch.{width_of}
use Rattle.trie_model.specs.Maps.{limits}
use Rattle.proof_model.specs.Wire.{node_at, nodes_at}
use Rattle.proof_check.proofs.ListFields.{goes_on, ends, is_done}
use Rattle.proof_check.proofs.ListSteps.{more_nodes, no_nodes}
use Rattle.proof_check.proofs.path_reading.nodes_of.Goals as goal

pub returns-in_err-node-clause-exact : goal.returns-in_err-node-clause-exact
returns-in_err-node-clause-exact c =
    let p = err_from_is_err_and c.from_residual.result c.from_residual.ensures.1 in
    let w = width_of c.args.branch in
    let bytes = c.args.bytes.now in
    rw (p.1, p.2) (ends c.in_err-node.field-0.0 c.loop.nodes.items (node_at limits w bytes c.loop.next) (λ x. nodes_at limits (c.args.count - (c.loop.counter + 1)) w bytes x.1) (nodes_at limits (c.args.count - c.loop.counter) w bytes c.loop.next) (nodes_at limits c.args.count w bytes c.args.at)
    (more_nodes limits c.args.count c.loop.counter w bytes c.loop.next c.loop-test.true) c.in_err-node.ensures.exact c.loop.invariant.so_far)

pub loop-preserved : goal.loop-preserved
loop-preserved c =
    let w = width_of c.args.branch in
    let bytes = c.args.bytes.now in
    record {
      inside = c.in_ok-node.ensures.inside;
      so_far = rw c.in_ok-push.ensures.items (goes_on c.loop.nodes.items c.in_ok-node.node c.in_ok-node.after (node_at limits w bytes c.loop.next) (λ x. nodes_at limits (c.args.count - (c.loop.counter + 1)) w bytes x.1) (nodes_at limits (c.args.count - c.loop.counter) w bytes c.loop.next) (nodes_at limits c.args.count w bytes c.args.at)
          (more_nodes limits c.args.count c.loop.counter w bytes c.loop.next c.loop-test.true) c.in_ok-node.ensures.exact c.loop.invariant.so_far);
    }

pub returns-clause-exact : goal.returns-clause-exact
returns-clause-exact c =
    let w = width_of c.args.branch in
    let bytes = c.args.bytes.now in
    is_done c.loop.nodes.items c.loop.next (nodes_at limits (c.args.count - c.loop.counter) w bytes c.loop.next) (nodes_at limits c.args.count w bytes c.args.at)
    (no_nodes limits c.args.count c.loop.counter w bytes c.loop.next c.loop-test.false) c.loop.invariant.so_far
