use Rattle.std.proofs.Common.{arith}
use Rattle.trie_model.proofs.Keys.{made, made_view}
use Rattle.bit_keys.proofs.key.Key.from_bytes.Goals as goal

pub invariant_of-result : goal.invariant_of-result
invariant_of-result c = made _ _ c.args.bytes.now c.in_ok-bytes.ensures.ok (c.in-Some.ensures.1) (λ i. omega (arith, c.type_inv.bytes i))

pub returns : goal.returns
returns c = made_view _ _ _ c.in_ok-bytes.ensures.ok (c.in-Some.ensures.1)
