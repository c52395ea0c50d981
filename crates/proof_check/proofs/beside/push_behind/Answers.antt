use Rattle.std.proofs.Common.{ap, ◌∙◌}
use Rattle.bit_keys.specs.Branch.{width_of}
use Rattle.trie_items.specs.Children.{children_of}
use Rattle.proof_model.specs.Paths.{ProofNode}
use Rattle.proof_check.proofs.Descents.{split_within, back_whole}
use Rattle.proof_check.proofs.beside.push_behind.Goals as goal

pub split_at-requires : goal.split_at-requires
split_at-requires c =
    split_within (width_of c.args.branch) c.in_front.result c.args.node.now c.args.deeper.now c.as_slice.result.now c.requires.path.whole.0
    (ap children_of c.as_slice.ensures.value ∙ ap (λ (n : ProofNode). n.children) c.node.view_is) c.in_front.ensures

pub push_stubs-requires-clause-children : goal.push_stubs-requires-clause-children
push_stubs-requires-clause-children c =
    back_whole (width_of c.args.branch) c.in_front.result c.args.node.now c.args.deeper.now c.as_slice.result.now c.requires.path.whole.0
    (ap children_of c.as_slice.ensures.value ∙ ap (λ (n : ProofNode). n.children) c.node.view_is) c.in_front.ensures c.split_at.result.1.now c.split_at.ensures.back
