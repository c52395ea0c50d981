use Rattle.std.proofs.Common.{◌≡◌, ◌-◌, ◌*◌, ◌<◌, ◌%◌, ◌/◌, ◌^◌, ℕ, sym, ap, ◌∙◌, subst, arith, get_or}
use Rattle.trie_model.specs.Bits.{bits_of_bytes}
use Rattle.bit_keys.specs.Branch.{width_of}
use Rattle.bit_keys.proofs.KeyFacts.{packed-small, width_pos}
use Rattle.bit_keys.proofs.Tokens.{token_is, in_byte, ends_at, begin_fits}
use Rattle.bit_keys.proofs.key.Key.token.Goals as goal

pub overflow_mul-at : goal.overflow_mul-at
overflow_mul-at c = let t = begin_fits c.from-width.result (width_of c.args.branch) c.args.i c.self.inside.bits 18446744073709551616 (bits_of_bytes c.self.inside.bytes.items) c.args.self.now c.self.view_is (c.from-width.ensures ∙ c.width.ensures) c.requires (omega arith) in omega arith

pub returns : goal.returns
returns c =
    let w : ℕ = width_of c.args.branch in
    let e : c.from-width.result ≡ w = c.from-width.ensures ∙ c.width.ensures in
    ap (λ y. y % c.factor.result) c.from.ensures
    ∙ ap (λ f. get_or c.as_slice.result.now (c.from-width.result * c.args.i / 8) 0 / 2 ^ (8 - c.from-width.result - c.from-width.result * c.args.i % 8) % f) (c.factor.ensures.value ∙ c.factor.ensures.power)
    ∙ ap (λ bs. get_or bs (c.from-width.result * c.args.i / 8) 0 / 2 ^ (8 - c.from-width.result - c.from-width.result * c.args.i % 8) % 2 ^ w) c.as_slice.ensures
    ∙ ap (λ v. get_or c.self.inside.bytes.items (v * c.args.i / 8) 0 / 2 ^ (8 - v - v * c.args.i % 8) % 2 ^ w) e
    ∙ token_is w (w * c.args.i) c.self.inside.bits c.self.inside.bytes.items c.args.self.now c.self.view_is c.self.invariant.0
    (λ i. subst (λ bs. get_or bs i 0 < 256) (sym c.self.invariant.1) (packed-small _ i)) (width_pos c.args.branch) (in_byte c.args.branch c.args.i)
    (omega (arith, c.requires, ends_at w c.args.i))
