use Rattle.std.proofs.Common.{rules, length, ap, ◌∙◌}
use Rattle.std.specs.Ordering.{nat_cmp}
use Rattle.std.proofs.lemmas.Fn.{always_returns_same}
use Rattle.proof_model.specs.Paths.{ProofNode}
use Rattle.proof_check.proofs.PathOrders.{found_disagrees, none_found}
use Rattle.proof_check.proofs.paths.disagrees.Goals as goal

pub returns-in-Ok : goal.returns-in-Ok
returns-in-Ok c =
    let by_length = c.in-Ok.ensures.position (λ (m : ProofNode). nat_cmp (length m.key) c.bits-bits.result) (always_returns_same _ _ _ (λ a r g called. search rules)) in
    c.disagree.ensures
    ∙ found_disagrees c.args.path.now c.args.node.now _ c.in-Ok.place c.bits-bits.result c.requires c.in-Ok.ensures.bound c.index-path-place.is by_length (c.bits-bits.ensures ∙ ap (λ (n : ProofNode). length n.key) c.node.view_is)

pub returns-in-Err : goal.returns-in-Err
returns-in-Err c =
    let by_length = c.in-Err.ensures.position (λ (m : ProofNode). nat_cmp (length m.key) c.bits-bits.result) (always_returns_same _ _ _ (λ a r g called. search rules)) in
    none_found c.args.path.now c.args.node.now c.in-Err.field-0 c.bits-bits.result c.requires (c.bits-bits.ensures ∙ ap (λ (n : ProofNode). length n.key) c.node.view_is) by_length
