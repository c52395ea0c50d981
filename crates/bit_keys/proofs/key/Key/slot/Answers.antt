use Rattle.std.proofs.Common.{◌≡◌, ◌++◌, ◌/◌, ap, ◌∙◌, arith, inl, inr, take, length}
use Rattle.trie_model.specs.Bits.{packed, bits_of}
use Rattle.bit_keys.specs.Branch.{width_of}
use Rattle.bit_keys.proofs.KeyFacts.{key_bits, key_packed, packed_key, packed_fits, token_below, width_pos, width_small}
use Rattle.bit_keys.proofs.Slots.{slot_bytes, length-slot, high_small}
use Rattle.bit_keys.proofs.key.Key.slot.Goals as goal
use Rattle.bit_keys.proofs.key.Key.slot.Goals.{then-used-width-gt8+in_ok-push-2, else-used-width-gt8}

pub overflow_add-byte : goal.overflow_add-byte
overflow_add-byte c =
    let m = key_bits c.self.inside.bits c.self.inside.bytes.items c.args.self.now (c.self.view_is, c.self.invariant.0, c.self.invariant.1) in
    let s = high_small c.self.inside.bits c.from-width.result (width_of c.args.branch) c.args.token c.byte.result c.args.self.now m (c.from-width.ensures ∙ c.width.ensures) (width_pos c.args.branch) (width_small c.args.branch) (token_below c.args.branch c.args.token c.requires) c.byte.ensures in
    omega arith

bytes_are : (c : goal.Joined-used-width-gt8) → c.if-used-width-gt8.bytes.items ≡ packed (c.args.self.now ++ bits_of (width_of c.args.branch) c.args.token)
bytes_are c = slot_bytes c.self.inside.bits c.from-width.result (width_of c.args.branch) c.args.token c.byte.result c.self.inside.bytes.items c.extend_from_slice.new.self.items c.push.new.self.items c.if-used-width-gt8.bytes.items c.args.self.now
    (key_bits c.self.inside.bits c.self.inside.bytes.items c.args.self.now (c.self.view_is, c.self.invariant.0, c.self.invariant.1)) (c.from-width.ensures ∙ c.width.ensures) (width_pos c.args.branch) (width_small c.args.branch) (token_below c.args.branch c.args.token c.requires)
    (key_packed c.self.inside.bits c.self.inside.bytes.items c.args.self.now (c.self.view_is, c.self.invariant.0, c.self.invariant.1)) c.byte.ensures
    (c.in_ok-extend_from_slice.ensures.ok ∙ ap (λ xs. xs ++ take (c.self.inside.bits / 8) c.as_slice.result.now) c.in_ok-bytes.ensures.items ∙ ap (take (c.self.inside.bits / 8)) c.as_slice.ensures) c.in_ok-push.ensures.ok
    (elim c.if-used-width-gt8.branch [
      | then-used-width-gt8+in_ok-push-2 w ↦ inr (w.if-used-width-gt8.true, ap (λ b. b.items) w.bytes-is ∙ w.in_ok-push-2.ensures.ok)
      | else-used-width-gt8 w ↦ inl (w.if-used-width-gt8.false, ap (λ b. b.items) w.bytes-is)
    ])

bits_are : (c : goal.Joined-used-width-gt8) → c.in-Some.bits ≡ length (c.args.self.now ++ bits_of (width_of c.args.branch) c.args.token)
bits_are c = length-slot c.self.inside.bits c.from-width.result (width_of c.args.branch) c.args.token c.in-Some.bits c.args.self.now
    (key_bits c.self.inside.bits c.self.inside.bytes.items c.args.self.now (c.self.view_is, c.self.invariant.0, c.self.invariant.1)) (c.from-width.ensures ∙ c.width.ensures) c.in-Some.ensures.1

pub invariant_of-result : goal.invariant_of-result
invariant_of-result c = packed_fits c.in-Some.bits c.if-used-width-gt8.bytes.items _ (bytes_are c) (bits_are c)

pub returns : goal.returns
returns c = packed_key c.in-Some.bits c.if-used-width-gt8.bytes.items _ (bytes_are c) (bits_are c)
