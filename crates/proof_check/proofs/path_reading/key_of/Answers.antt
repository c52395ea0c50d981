use Rattle.std.proofs.Common.{sym, ap, ◌∙◌, subst, take, SomeIff}
use Rattle.base_model.specs.Fields.{bytes_at}
use Rattle.proof_model.specs.Wire.{Short, Padding, wrong}
use Rattle.trie_model.specs.Bits.{bits_of_bytes}
use Rattle.bit_keys.specs.Keys.{IsFilledUp}
use Rattle.node_codec.proofs.RestBits.{bytes_needed, bits_found, bits_dirty}
use Rattle.proof_check.proofs.path_reading.key_of.Goals as goal

pub returns-in-Some-clause-exact : goal.returns-in-Some-clause-exact
returns-in-Some-clause-exact c =
    let count = bytes_needed c.args.bits c.div_ceil.result c.div_ceil.ensures in
    let read = ap (λ k. bytes_at (wrong Short) k c.args.bytes.now c.args.at) (sym count) ∙ c.in_ok-packed.ensures.exact in
    let key = subst (λ made. SomeIff made (IsFilledUp c.args.bits c.in_ok-packed.packed.now) (take c.args.bits (bits_of_bytes c.in_ok-packed.packed.now))) c.in-Some.is c.in_ok-key.ensures in
    bits_found (wrong Short) (wrong Padding) c.args.bits c.args.at c.in_ok-packed.next c.args.bytes.now c.in_ok-packed.packed.now c.in-Some.key read key.0 key.1

pub returns-in-None-clause-exact : goal.returns-in-None-clause-exact
returns-in-None-clause-exact c =
    let count = bytes_needed c.args.bits c.div_ceil.result c.div_ceil.ensures in
    let read = ap (λ k. bytes_at (wrong Short) k c.args.bytes.now c.args.at) (sym count) ∙ c.in_ok-packed.ensures.exact in
    let dirty = subst (λ made. SomeIff made (IsFilledUp c.args.bits c.in_ok-packed.packed.now) (take c.args.bits (bits_of_bytes c.in_ok-packed.packed.now))) c.in-None.is c.in_ok-key.ensures in
    rw c.at.ensures (bits_dirty (wrong Short) (wrong Padding) c.args.bits c.args.at c.in_ok-packed.next c.args.bytes.now c.in_ok-packed.packed.now read (c.in_ok-packed.ensures.count ∙ count) dirty)
