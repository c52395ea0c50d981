use Rattle.std.proofs.Common.{◌≡◌, ℕ, suc, ◌+◌, ◌++◌, ◌∷◌, [], arith}
use Rattle.std.proofs.lemmas.Result.{err_from_is_err_and}
use Rattle.std.proofs.lemmas.List.{map_push}
use Rattle.bit_keys.specs.Branch.{width_of}
use Rattle.trie_model.specs.Maps.{limits}
use Rattle.trie_model.specs.StoredNode.{children_at}
use Rattle.node_codec.specs.StoredNodes.{stored_child, stored_children}
use Rattle.node_codec.proofs.Children.{goes_on, ends, is_done}
use Rattle.node_codec.proofs.reading.children_of.Goals as goal

pub returns-in_err-child-clause-exact : goal.returns-in_err-child-clause-exact
returns-in_err-child-clause-exact c =
    let p = err_from_is_err_and c.from_residual-in_err-child.result c.from_residual-in_err-child.ensures.1 in
    rw (p.1, p.2) (ends limits c.in_err-child.field-0.0 (stored_children c.loop.children.items) c.args.count c.loop.counter (width_of c.args.branch) c.loop.low c.args.bytes.now c.loop.next (children_at limits c.args.count (width_of c.args.branch) 0 c.args.bytes.now c.args.at) c.loop-test.true c.in_err-child.ensures.exact c.loop.invariant.so_far)

next_index : (i : ℕ) → i + 1 ≡ suc i
next_index i = omega arith

pub loop-preserved : goal.loop-preserved
loop-preserved c =
    let child = c.in_ok-child.child in
    let e : stored_children c.push.new.self.items ≡ stored_children c.loop.children.items ++ stored_child child ∷ [] = rw c.in_ok-push.ensures.items (map_push _ c.loop.children.items child) in
    record {
      inside = c.in_ok-child.ensures.inside;
      so_far = rw e (goes_on limits (stored_children c.loop.children.items) c.args.count c.loop.counter (width_of c.args.branch) c.loop.low (child.index + 1) c.args.bytes.now c.loop.next (stored_child child) c.in_ok-child.after (children_at limits c.args.count (width_of c.args.branch) 0 c.args.bytes.now c.args.at) c.loop-test.true c.in_ok-child.ensures.exact (next_index child.index) c.loop.invariant.so_far);
    }

pub returns-clause-exact : goal.returns-clause-exact
returns-clause-exact c = is_done limits (stored_children c.loop.children.items) c.args.count c.loop.counter (width_of c.args.branch) c.loop.low c.args.bytes.now c.loop.next (children_at limits c.args.count (width_of c.args.branch) 0 c.args.bytes.now c.args.at) c.loop-test.false c.loop.invariant.so_far
