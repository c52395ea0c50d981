use Rattle.std.proofs.Common.{◌-◌, ◌++◌, map, take, drop, ap, ◌∙◌}
use Rattle.trie_model.specs.Maps.{entry_item}
use Rattle.trie_items.specs.Items.{item_of}
use Rattle.proof_check.specs.Claims.{pair_of}
use Rattle.proof_check.specs.ItemFronts.{put_before}
use Rattle.proof_check.proofs.ItemsInRange.{turned_twice}
use Rattle.proof_check.proofs.items.put_in.Goals as goal

pub returns : goal.returns
returns c =
    let listed = map entry_item (map pair_of c.args.entries.now) in
    let room = c.reserve.new.self in
    let before = c.count_before-before.result in
    turned_twice before (c.len.result - before) room.items c.rotate_left.new.self.items c.push_entries.new.items.items c.rotate_left-2.new.self.items listed c.rotate_left.ensures.items c.in_ok-push_entries.ensures c.rotate_left-2.ensures.items
    (ap (λ n. n - before) (c.len.ensures ∙ room.ok.0))
    ∙ ap (λ n. take n (map item_of room.items) ++ (listed ++ drop n (map item_of room.items))) c.count_before-before.ensures.count
    ∙ ap (λ is. put_before c.args.key.now listed (map item_of is)) c.reserve.ensures.items
