use Rattle.std.proofs.Common.{ap, ◌∙◌, [], ◌∷◌, ◌++◌}
use Rattle.trie_items.specs.Shown.{Shown}
use Rattle.bit_keys.specs.Branch.{width_of}
use Rattle.point_proof.specs.WaysDown.{key_toward}
use Rattle.point_proof.proofs.WaysDown.{proof_node, starts, steps, further, ends_at_gap, ends_below}
use Rattle.point_proof.proofs.SourceCalls.{nothing_called, then_well, lacks_memory}
use Rattle.point_proof.proofs.TokenWidths.{width_pos}
use Rattle.point_proof.proofs.walking.path_to.Goals as goal
use Rattle.point_proof.proofs.walking.path_to.Goals.{in-Some+in_ok-node+in_default-2, in_default}

pub loop-next-init : goal.loop-next-init
loop-next-init g c =
    let w = g.N.NodeSource.words in
    let laws = g.met.N.NodeSource.lawful in
    record {
      on_way = λ m t. starts (width_of c.args.branch) (w.width c.args.source.now) m c.args.wanted.now c.in_ok-next.next c.in_ok-path.path.items c.requires c.in_ok-path.ensures.items (c.in_ok-next.ensures.key m t);
      well = then_well w laws _ _ _ _ (nothing_called w laws c.args.source.now) c.in_ok-next.ensures.answers;
    }

pub loop-next-smaller : goal.loop-next-smaller
loop-next-smaller g c = further (width_of c.args.branch) c.args.wanted.now c.in-Some.at c.in-Some-2.node.rest c.loop-next.next c.in_ok-next-2.next (width_pos c.args.branch) c.in-Some.is
    (c.in_ok-next-2.ensures ∙ ap (λ (s : Shown). key_toward (width_of c.args.branch) c.args.wanted.now c.in-Some.at s.rest) c.node.view_is)

pub loop-next-preserved : goal.loop-next-preserved
loop-next-preserved g c =
    let w = g.N.NodeSource.words in
    let laws = g.met.N.NodeSource.lawful in
    let now = c.loop-next.source in
    let before = c.loop-next.invariant in
    record {
      on_way = λ m t. steps (width_of c.args.branch) (w.width now) m c.args.wanted.now c.in-Some.at c.token_toward-token.result c.in-Some-2.node c.loop-next.next c.in_ok-next-2.next c.in_ok-node.field-0 c.loop-next.path.items c.push.new.self.items (width_pos c.args.branch)
          (laws.calm_width c.args.source.now now before.well.calm ∙ c.requires) c.in-Some.is c.token_toward-token.ensures (c.in_ok-node.ensures.shown m (laws.calm_told c.args.source.now now m before.well.calm t)) c.in-Some-2.is
          (c.in_ok-next-2.ensures ∙ ap (λ (s : Shown). key_toward (width_of c.args.branch) c.args.wanted.now c.in-Some.at s.rest) c.node.view_is)
          (c.in_ok-push.ensures.items ∙ ap (λ (s : Shown). c.loop-next.path.items ++ proof_node c.in-Some.at s ∷ []) c.node.view_is) (before.on_way m t);
      well = then_well w laws _ _ _ _ before.well c.in_ok-node.ensures.answers;
    }

pub returns-in_err-push-clause-answers : goal.returns-in_err-push-clause-answers
returns-in_err-push-clause-answers g c =
    let w = g.N.NodeSource.words in
    let laws = g.met.N.NodeSource.lawful in
    lacks_memory w laws _ _ _ c.from_residual-in_err-push.result c.from_residual-in_err-push.ensures.1 (then_well w laws _ _ _ _ c.loop-next.invariant.well c.in_ok-node.ensures.answers)

pub returns-clause-path : goal.returns-clause-path
returns-clause-path g c = λ m t.
    let w = g.N.NodeSource.words in
    let laws = g.met.N.NodeSource.lawful in
    let now = c.loop-next.source in
    let before = c.loop-next.invariant in
    elim c.match-next.branch [
      | in-Some+in_ok-node+in_default-2 w' ↦ ends_at_gap (width_of c.args.branch) (w.width now) m c.args.wanted.now w'.in-Some.at w'.token_toward-token.result c.loop-next.next w'.in_ok-node.field-0 c.loop-next.path.items
          (laws.calm_width c.args.source.now now before.well.calm ∙ c.requires) w'.in-Some.is (w'.in_ok-node.ensures.shown m (laws.calm_told c.args.source.now now m before.well.calm t)) w'.in_default-2.is (before.on_way m t)
      | in_default w' ↦ ends_below (width_of c.args.branch) m c.args.wanted.now c.loop-next.next c.loop-next.path.items w'.in_default.is (before.on_way m t)
    ]
