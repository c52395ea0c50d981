use Rattle.std.proofs.Common.{List, ◌∙◌, sym, ap}
use Rattle.trie_items.specs.Shown.{child_named, rest_of}
use Rattle.trie_items.specs.declared.child.ChildId.{ChildId}
use Rattle.node_table.specs.KeptNodes.{joined_all}
use Rattle.node_table.specs.declared.kept.Below.{Below}
use Rattle.node_table.proofs.KeptChildren.{shown_is}
use Rattle.node_table.proofs.kept.KeptNode.shown.Goals as goal

pub returns : goal.returns
returns c =
    let inside = c.self.inside in
    let below = c.as_slice.result.now in
    let rest = c.apart-rest.ensures
    ∙ c.in_ok-led_by.ensures
    ∙ ap (λ (ids : List ChildId). rest_of (child_named c.args.token (joined_all ids below))) c.as_slice-ids.ensures.value
    ∙ ap (λ (bs : List Below). rest_of (child_named c.args.token (joined_all inside.ids.items bs))) c.as_slice.ensures.value in
    shown_is c.args.self.now inside.digest c.copy_digest.result inside.ids.items c.in_ok-from_slice.field-0.items inside.below.items c.apart-rest.result.0 c.args.token (sym c.self.view_is) c.self.invariant c.copy_digest.ensures
    (c.in_ok-from_slice.ensures.items ∙ c.as_slice-ids.ensures.value) rest
