use Rattle.std.proofs.Common.{◌≡◌, ◌++◌, length, map, drop, sym, ap, ◌∙◌, arith}
use Rattle.std.specs.List.{prefix_len}
use Rattle.trie_model.specs.Maps.{entry_item}
use Rattle.bit_keys.specs.Branch.{width_of}
use Rattle.trie_items.specs.Items.{item_of}
use Rattle.proof_check.specs.Claims.{claim_of, pair_of}
use Rattle.proof_check.specs.Descents.{told_down, told_up}
use Rattle.proof_check.specs.ItemFronts.{is_before, begins_before}
use Rattle.proof_check.proofs.EntriesBetween.{between}
use Rattle.proof_check.proofs.items.put_between.Goals as goal

pub returns : goal.returns
returns c =
    let w = width_of c.args.branch in
    let k = claim_of c.args.claim.now in
    let key = c.args.key.now in
    let ahead = c.push_down.new.told in
    let listed = c.push_entries.new.items in
    let all = c.push_up.new.told in
    let count = c.count_before.ensures.count in
    let within = c.count_before.ensures.within in
    let whole = c.if-count_before-len.false in
    let len = c.len.ensures in
    let held = ahead.ok.0 in
    let most : prefix_len (is_before key) (map item_of ahead.items) ≡ length ahead.items = omega (arith, count, within, whole, len, held) in
    between key (map entry_item (map pair_of c.args.claim.now.entries.now)) (told_down w k c.args.claim.now.start.now) (told_up w k c.args.claim.now.start.now) ahead.items listed.items all.items
    (c.in_ok-push_down.ensures ∙ ap (λ is. map item_of is ++ told_down w k c.args.claim.now.start.now) c.in_ok-items.ensures.items) c.in_ok-push_entries.ensures c.in_ok-push_up.ensures most
    (ap (λ n. begins_before key (map item_of (drop n all.items))) (sym (c.len-behind.ensures ∙ listed.ok.0)) ∙ sym c.starts_before.ensures ∙ c.if-starts_before.false)
