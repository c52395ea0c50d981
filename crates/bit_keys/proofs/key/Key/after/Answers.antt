use Rattle.std.proofs.Common.{◌≡◌, ◌-◌, arith, ap, ◌∙◌, drop, length, refl}
use Rattle.std.proofs.Common.{length-drop}
use Rattle.trie_model.specs.Bits.{packed}
use Rattle.bit_keys.proofs.KeyFacts.{key_bits, packed_key, packed_fits}
use Rattle.bit_keys.proofs.Windows.{next_byte, all_bytes}
use Rattle.bit_keys.proofs.key.Key.after.Goals as goal

pub window-requires : goal.window-requires
window-requires c =
    let m = key_bits c.self.inside.bits c.self.inside.bytes.items c.args.self.now (c.self.view_is, c.self.invariant.0, c.self.invariant.1) in
    omega (arith, m)

pub loop-i-preserved : goal.loop-i-preserved
loop-i-preserved c =
    let m = key_bits c.self.inside.bits c.self.inside.bytes.items c.args.self.now (c.self.view_is, c.self.invariant.0, c.self.invariant.1) in
    let n = next_byte c.args.bits c.loop-i.i c.window.result c.loop-i.bytes.items c.args.self.now (omega (arith, m)) c.loop-i.invariant c.window.ensures in
    rw c.in_ok-push.ensures.ok n

bytes_are : (c : goal.After-loop-i) → c.loop-i.bytes.items ≡ packed (drop c.args.bits c.args.self.now)
bytes_are c = c.loop-i.invariant ∙ ap packed (all_bytes c.args.bits c.self.inside.bits c.loop-i.i (c.self.inside.bits - c.args.bits) c.args.self.now (key_bits c.self.inside.bits c.self.inside.bytes.items c.args.self.now (c.self.view_is, c.self.invariant.0, c.self.invariant.1)) refl (omega arith))

bits_are : (c : goal.After-loop-i) → c.self.inside.bits - c.args.bits ≡ length (drop c.args.bits c.args.self.now)
bits_are c =
    let m = key_bits c.self.inside.bits c.self.inside.bytes.items c.args.self.now (c.self.view_is, c.self.invariant.0, c.self.invariant.1) in
    omega (arith, m, length-drop c.args.bits c.args.self.now)

pub invariant_of-result : goal.invariant_of-result
invariant_of-result c = packed_fits (c.self.inside.bits - c.args.bits) c.loop-i.bytes.items (drop c.args.bits c.args.self.now) (bytes_are c) (bits_are c)

pub returns : goal.returns
returns c = packed_key (c.self.inside.bits - c.args.bits) c.loop-i.bytes.items (drop c.args.bits c.args.self.now) (bytes_are c) (bits_are c)
