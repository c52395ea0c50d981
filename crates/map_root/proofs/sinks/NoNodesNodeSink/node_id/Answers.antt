use Rattle.std.proofs.Common.{◌∙◌}
use Rattle.std.specs.Option.{option_copied}
use Rattle.trie_items.specs.Children.{children_of}
use Rattle.map_root.specs.KeptNodes.{hashed}
use Rattle.map_root.proofs.KeptChildren.{row_id, hashed_ids}
use Rattle.map_root.proofs.sinks.NoNodesNodeSink.node_id.Goals as goal

pub returns-clause-id : goal.returns-clause-id
returns-clause-id g c = λ r h.
    c.id_of.ensures.id ∙ row_id hashed c.args.node.now r (option_copied c.as_ref.result) (children_of c.as_slice.result.now) h c.as_ref.ensures.value (hashed_ids c.args.node.now r c.as_slice.result.now h c.as_slice.ensures.value)
