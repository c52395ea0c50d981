use Rattle.std.proofs.Common.{ap, ◌∙◌}
use Rattle.std.specs.Option.{option_copied}
use Rattle.trie_items.specs.Children.{children_of}
use Rattle.map_root.specs.KeptNodes.{stored}
use Rattle.map_root.proofs.KeptChildren.{row_id, stored_ids}
use Rattle.map_root.proofs.sinks.KeptNodesNodeSink.node_id.Goals as goal

pub returns-clause-id : goal.returns-clause-id
returns-clause-id g c = λ r h.
    c.id_of.ensures.id
    ∙ row_id stored c.args.node.now r (option_copied c.as_ref.result) (children_of c.as_slice-2.result.now) h c.as_ref.ensures.value
    (ap children_of c.as_slice-2.ensures.value ∙ c.in_ok-children.ensures ∙ stored_ids c.args.node.now r c.as_slice.result.now h c.as_slice.ensures.value)
