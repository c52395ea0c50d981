use Rattle.std.proofs.Common.{◌≡◌, ◌≤◌, ◌*◌, arith, sym, subst, refl, length, take}
use Rattle.trie_model.specs.Bits.{bits_of_bytes, packed}
use Rattle.bit_keys.proofs.FilledBytes.{filled_packed}
use Rattle.bit_keys.proofs.key.Key.from_parts.Goals as goal

pub invariant_of-result : goal.invariant_of-result
invariant_of-result c =
    let parts = filled_packed c.args.bytes.now c.args.bits (λ i. omega (arith, c.type_inv.bytes i)) (c.if-not-is_filled_up.ensures.0 refl) in
    subst (λ bs. (c.args.bits ≤ 8 * length bs) × (bs ≡ packed (take c.args.bits (bits_of_bytes bs)))) (sym c.in_ok-bytes.ensures.ok) parts
