use Rattle.std.proofs.Common.{◌≡◌, ◌/◌, ◌++◌, ap, ◌∙◌, take, get_or}
use Rattle.trie_model.specs.Bits.{packed}
use Rattle.bit_keys.proofs.CutBytes.{with_part, without_part, cut_bytes, length-cut}
use Rattle.bit_keys.proofs.KeyFacts.{packed_key, packed_fits}
use Rattle.bit_keys.proofs.key.Key.first.Goals as goal
use Rattle.bit_keys.proofs.key.Key.first.Goals.{then-bits-gt0+in_ok-push, else-bits-gt0}

bytes_are : (c : goal.Joined-bits-gt0) → c.if-bits-gt0.bytes.items ≡ packed (take c.args.bits c.args.self.now)
bytes_are c =
    let w : c.extend_from_slice.new.self.items ≡ take (c.args.bits / 8) c.self.inside.bytes.items =
    c.in_ok-extend_from_slice.ensures.ok ∙ ap (λ xs. xs ++ take (c.args.bits / 8) c.as_slice.result.now) c.in_ok-bytes.ensures.items ∙ ap (take (c.args.bits / 8)) c.as_slice.ensures in
    cut_bytes c.args.bits c.self.inside.bits c.self.inside.bytes.items c.if-bits-gt0.bytes.items c.args.self.now (c.self.view_is, c.self.invariant.0, c.self.invariant.1) c.requires (elim c.if-bits-gt0.branch [
      | then-bits-gt0+in_ok-push v ↦ with_part c.args.bits (get_or v.as_slice-then-bits-gt0.result.now (c.args.bits / 8) 0) c.self.inside.bytes.items c.if-bits-gt0.bytes.items c.extend_from_slice.new.self.items v.if-bits-gt0.true w (ap (λ bs. get_or bs (c.args.bits / 8) 0) v.as_slice-then-bits-gt0.ensures) (ap (λ b. b.items) v.bytes-is ∙ v.in_ok-push.ensures.ok)
      | else-bits-gt0 v ↦ without_part c.args.bits c.self.inside.bytes.items c.if-bits-gt0.bytes.items v.if-bits-gt0.false (ap (λ b. b.items) v.bytes-is ∙ w)
    ])

pub invariant_of-result : goal.invariant_of-result
invariant_of-result c = packed_fits c.args.bits c.if-bits-gt0.bytes.items (take c.args.bits c.args.self.now) (bytes_are c) (length-cut c.args.bits c.args.self.now c.requires)

pub returns : goal.returns
returns c = packed_key c.args.bits c.if-bits-gt0.bytes.items (take c.args.bits c.args.self.now) (bytes_are c) (length-cut c.args.bits c.args.self.now c.requires)
