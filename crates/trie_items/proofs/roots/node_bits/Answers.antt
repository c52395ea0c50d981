use Rattle.std.proofs.Common.{sym, ap, ◌∙◌, length}
use Rattle.trie_model.specs.Bits.{whole_tokens, common_prefix}
use Rattle.trie_model.specs.Items.{place_of}
use Rattle.bit_keys.specs.Branch.{width_of}
use Rattle.bit_keys.proofs.KeyFacts.{width_pos}
use Rattle.trie_items.specs.Items.{item_of}
use Rattle.trie_items.proofs.NodeKeys.{many_seen}
use Rattle.trie_items.proofs.roots.node_bits.Goals as goal

pub returns : goal.returns
returns c =
    let w = width_of c.args.branch in
    let k = many_seen item_of w c.args.items.now c.index-items-0.result c.index-items-items.result (width_pos c.args.branch) c.requires.valid c.requires.some c.if-items-eq1.false c.index-items-0.is c.index-items-items.is in
    c.common.ensures
    ∙ ap (λ p. length (whole_tokens w (common_prefix p c.place-2.result.now))) c.place.ensures
    ∙ ap (λ p. length (whole_tokens w (common_prefix (place_of (item_of c.index-items-0.result)) p))) c.place-2.ensures
    ∙ ap length (sym k)
