use Rattle.std.proofs.Common.{◌∷◌, ap, reverse, ◌∙◌}
use Rattle.map_root.proofs.KeptChildren.{first_child, stored_row}
use Rattle.map_root.proofs.sinks.KeptNodesNodeSink.take.Goals as goal

pub returns : goal.returns
returns c = λ r rows h e. first_child c.push.new.self.items c.args.self.now.last_first.items _ c.in_ok-push.ensures.items ∙ ap (λ x. x ∷ reverse c.args.self.now.last_first.items) (stored_row c.args.node r h) ∙ ap (λ rows. r ∷ rows) e
