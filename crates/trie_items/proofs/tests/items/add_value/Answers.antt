use Rattle.std.proofs.Common.{◌*◌, length, ap, ◌∙◌, arith}
use Rattle.base_model.proofs.PackedBits.{length-bits_of_bytes}
use Rattle.trie_items.proofs.tests.items.add_value.Goals as goal

pub push-requires : goal.push-requires
push-requires c = let l = ap length c.in-Ok.ensures ∙ length-bits_of_bytes c.args.key.now in (2 * length c.args.key.now, rw c.requires (omega (arith, l)))
