use Rattle.std.proofs.Common.{◌≤◌, sym, ap, ◌∙◌, length, take, subst, map}
use Rattle.bit_keys.specs.Branch.{width_of}
use Rattle.trie_model.specs.Items.{place_of}
use Rattle.trie_model.specs.Ids.{node_key}
use Rattle.trie_model.proofs.Prefixes.{length-is_prefix, take-is_prefix}
use Rattle.trie_items.specs.Items.{item_of}
use Rattle.trie_items.proofs.NodeKeys.{first_begins}
use Rattle.trie_items.proofs.roots.root_key.Goals as goal

pub first-requires : goal.first-requires
first-requires c =
    let k = node_key (width_of c.args.branch) (map item_of c.args.items.now) in
    let b = first_begins item_of (width_of c.args.branch) c.args.items.now c.index-items-0.result c.requires.some c.index-items-0.is in
    subst (λ n. n ≤ length c.place.result.now) (sym c.node_bits-bits.ensures) (subst (λ p. length k ≤ length p) (sym c.place.ensures) (length-is_prefix k (place_of (item_of c.index-items-0.result)) b))

pub returns : goal.returns
returns c =
    let k = node_key (width_of c.args.branch) (map item_of c.args.items.now) in
    let b = first_begins item_of (width_of c.args.branch) c.args.items.now c.index-items-0.result c.requires.some c.index-items-0.is in
    c.in-Ok.ensures ∙ ap (λ n. take n c.place.result.now) c.node_bits-bits.ensures ∙ ap (take (length k)) c.place.ensures ∙ take-is_prefix k (place_of (item_of c.index-items-0.result)) b
