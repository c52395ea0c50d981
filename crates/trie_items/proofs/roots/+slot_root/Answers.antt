use Rattle.std.proofs.Common.{◌≡◌, ◌+◌, ◌<◌, ◌++◌, length, drop, map, sym, ap, ◌∙◌, subst, rules, None}
use Rattle.std.specs.Option.{option_copied}
use Rattle.std.proofs.lemmas.List.{map-append, drop-drop}
use Rattle.bit_keys.specs.Branch.{width_of}
use Rattle.bit_keys.proofs.KeyFacts.{width_pos}
use Rattle.trie_model.specs.Ids.{node_key, children, id}
use Rattle.trie_model.specs.Strings.{strings, strings_below}
use Rattle.trie_items.specs.Children.{children_of}
use Rattle.trie_items.specs.Items.{item_of}
use Rattle.trie_items.specs.SlotIds.{depth, lone, slot_id, slot_strings}
use Rattle.trie_items.proofs.RootRuns.{tokens_are, run_fits, split_fits, start, turned, shallower, root_is, cost_is, one_child_more, one_run_more}
use Rattle.trie_items.proofs.roots.+slot_root.Goals as goal

pub loop-rest-init : goal.loop-rest-init
loop-rest-init g t c =
    let w = width_of c.args.branch in
    let s = start item_of w c.args.items.now c.below_node-rest.result.now c.in_ok-key.key (width_pos c.args.branch) c.requires.valid c.requires.some c.in_ok-key.ensures c.below_node-rest.ensures in
    record {
      children = ap (λ cs. children_of cs ++ children (id w) w (node_key w (map item_of c.args.items.now)) (map item_of c.below_node-rest.result.now)) c.in_ok-children.ensures ∙ s.child;
      cost = ap (λ x. c.args.steps.now + length x) s.hashed;
      hang = s.hang;
      valid = s.valid;
      part = s.part;
    }

pub run_len-requires : goal.run_len-requires
run_len-requires g t c =
    let w = width_of c.args.branch in
    let l = tokens_are w c.bits.result c.from.result (map item_of c.args.items.now) c.in_ok-key.key (width_pos c.args.branch) c.in_ok-key.ensures c.bits.ensures (c.from.ensures ∙ c.width.ensures) in
    run_fits w _ (node_key w (map item_of c.args.items.now)) (map item_of c.loop-rest.rest.now) l c.loop-rest.invariant.hang

pub split_at-requires : goal.split_at-requires
split_at-requires g t c = split_fits item_of _ c.loop-rest.rest.now c.run_len.result c.run_len.ensures

pub slot_root-requires : goal.slot_root-requires
slot_root-requires g t c κs within =
    let w = width_of c.args.branch in
    let k = node_key w (map item_of c.args.items.now) in
    let i = c.loop-rest.invariant in
    let l = tokens_are w c.bits.result c.from.result (map item_of c.args.items.now) c.in_ok-key.key (width_pos c.args.branch) c.in_ok-key.ensures c.bits.ensures (c.from.ensures ∙ c.width.ensures) in
    let u = turned item_of w _ c.token-index.result c.run_len.result k c.place.result.now c.loop-rest.rest.now c.split_at.result.0.now c.split_at.result.1.now c.next-item.result (width_pos c.args.branch) l c.in-len1-up.len_at_least c.next-item.is
    i.hang i.valid c.place.ensures c.token-index.ensures c.run_len.ensures c.split_at.ensures.front c.split_at.ensures.back in
    let none : lone c.args.slot (map item_of c.args.items.now) ≡ None = sym c.lone_stub.ensures ∙ c.in_default.is in
    let d = shallower item_of w _ c.args.slot c.token-index.result c.run_len.result i.part.0 c.args.items.now c.split_at.result.0.now c.loop-rest.rest.now (width_pos c.args.branch) c.requires.some none l i.part.1 c.split_at.ensures.front u.valid_group u.slot in
    let q : depth c.slot_bits-below.result (map item_of c.split_at.result.0.now) < depth c.args.slot (map item_of c.args.items.now) = subst (λ n. depth n (map item_of c.split_at.result.0.now) < depth c.args.slot (map item_of c.args.items.now)) (sym c.slot_bits-below.ensures) d in
    (search (rules, q), (within, (u.valid_group, u.some)))

pub loop-rest-preserved : goal.loop-rest-preserved
loop-rest-preserved g t c =
    let w = width_of c.args.branch in
    let k = node_key w (map item_of c.args.items.now) in
    let i = c.loop-rest.invariant in
    let l = tokens_are w c.bits.result c.from.result (map item_of c.args.items.now) c.in_ok-key.key (width_pos c.args.branch) c.in_ok-key.ensures c.bits.ensures (c.from.ensures ∙ c.width.ensures) in
    let u = turned item_of w _ c.token-index.result c.run_len.result k c.place.result.now c.loop-rest.rest.now c.split_at.result.0.now c.split_at.result.1.now c.next-item.result (width_pos c.args.branch) l c.in-len1-up.len_at_least c.next-item.is
    i.hang i.valid c.place.ensures c.token-index.ensures c.run_len.ensures c.split_at.ensures.front c.split_at.ensures.back in
    record {
      children = one_child_more (children_of c.loop-rest.children.items) (children_of c.push.new.self.items) (children (id w) w k (map item_of c.loop-rest.rest.now)) (children (id w) w k (map item_of c.split_at.result.1.now)) _ c.token-index.result c.in_ok-id.id _
          (ap children_of c.in_ok-push.ensures.items ∙ map-append _ c.loop-rest.children.items _) (c.in_ok-id.ensures.id ∙ ap (λ n. slot_id w n (map item_of c.split_at.result.0.now)) c.slot_bits-below.ensures) u.child i.children;
      cost = one_run_more c.loop-rest.steps c.slot_root.new.steps c.args.steps.now _ _ (strings_below (strings w) w k (map item_of c.loop-rest.rest.now)) (strings_below (strings w) w k (map item_of c.split_at.result.1.now)) _
          c.in_ok-id.ensures.cost (ap (λ n. slot_strings w n (map item_of c.split_at.result.0.now)) c.slot_bits-below.ensures) u.hashed i.cost;
      hang = u.hang_after;
      valid = u.valid_after;
      part = (i.part.0 + c.run_len.result, c.split_at.ensures.back ∙ ap (drop c.run_len.result) i.part.1 ∙ drop-drop c.run_len.result i.part.0 c.args.items.now);
    }

pub returns-clause-id : goal.returns-clause-id
returns-clause-id g t c =
    let w = width_of c.args.branch in
    let k = node_key w (map item_of c.args.items.now) in
    let none : lone c.args.slot (map item_of c.args.items.now) ≡ None = sym c.lone_stub.ensures ∙ c.in_default.is in
    c.id_of.ensures.id
    ∙ root_is item_of w c.args.slot c.args.items.now c.loop-rest.rest.now c.in_ok-key.key (option_copied c.own_digest.result) (children_of c.as_slice.result.now) (width_pos c.args.branch) c.requires.some c.requires.valid none c.in_default-rest.len_below
    c.in_ok-key.ensures c.own_digest.ensures (ap (λ xs. children_of xs ++ children (id w) w k (map item_of c.loop-rest.rest.now)) c.as_slice.ensures.value ∙ c.loop-rest.invariant.children)

pub returns-clause-cost : goal.returns-clause-cost
returns-clause-cost g t c =
    let w = width_of c.args.branch in
    let none : lone c.args.slot (map item_of c.args.items.now) ≡ None = sym c.lone_stub.ensures ∙ c.in_default.is in
    cost_is item_of w c.args.slot c.args.items.now c.loop-rest.rest.now c.args.steps.now c.loop-rest.steps c.id_of.new.steps (width_pos c.args.branch) c.requires.some none c.in_default-rest.len_below c.loop-rest.invariant.cost c.id_of.ensures.cost
