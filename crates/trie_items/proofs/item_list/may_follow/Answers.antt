use Rattle.std.proofs.Common.{map}
use Rattle.trie_items.specs.Items.{item_of}
use Rattle.trie_items.proofs.OrderedItems.{last_got, got_mapped}
use Rattle.trie_items.proofs.item_list.may_follow.Goals as goal

pub returns-in-Some : goal.returns-in-Some
returns-in-Some c =
    let l = last_got (map item_of c.args.items.now) _ (item_of c.args.item.now) (got_mapped item_of c.args.items.now c.in-Some.last.now c.in-Some.ensures.value) in
    (λ h. l.1 (c.is_followed_by.ensures.0 h), λ h. c.is_followed_by.ensures.1 (l.0 h))
