use Rattle.std.proofs.Common.{arith}
use Rattle.trie_model.proofs.Keys.{made, made_view}
use Rattle.bit_keys.proofs.FilledBytes.{small_within}
use Rattle.bit_keys.proofs.Bounds.{are_bytes}
use Rattle.bit_keys.proofs.key.Key.from_vec.Goals as goal

pub invariant_of-result : goal.invariant_of-result
invariant_of-result c = made _ _ c.args.bytes.items c.from_vec.ensures.items (omega arith) (small_within c.args.bytes.items (λ i h. omega arith))

pub returns-clause-key : goal.returns-clause-key
returns-clause-key c = made_view _ _ c.args.bytes.items c.from_vec.ensures.items (omega arith)

pub returns-clause-bytes : goal.returns-clause-bytes
returns-clause-bytes c = are_bytes c.args.bytes.items (small_within c.args.bytes.items (λ i h. omega arith))
