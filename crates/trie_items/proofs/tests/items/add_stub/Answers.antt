use Rattle.std.proofs.Common.{◌*◌, ◌-◌, length, ap, ◌∙◌, arith, rules}
use Rattle.base_model.proofs.PackedBits.{length-bits_of_bytes}
use Rattle.trie_items.proofs.tests.items.add_stub.Goals as goal

pub push-requires : goal.push-requires
push-requires c = let l = ap length c.in-Ok.ensures ∙ length-bits_of_bytes c.args.key.now in let s = c.requires.some in ((2 * length c.args.key.now - 1, rw c.requires.width (omega (arith, l, s))), search rules)
