use Rattle.std.proofs.Common.{◌≡◌, ◌*◌, take, drop}
use Rattle.trie_model.specs.Bits.{packed}
use Rattle.bit_keys.proofs.key.Key.after.Given as goal

abbrev pub invariant-loop-i : goal.invariant-loop-i
invariant-loop-i l = l.bytes.items ≡ packed (take (8 * l.i) (drop l.bits l.self))
