use Rattle.std.proofs.Common.{ap, ◌∙◌, length}
use Rattle.std.specs.Hash.{le_bytes, slice, u8}
use Rattle.std.specs.List.{fold}
use Rattle.bit_keys.proofs.KeyFacts.{key_bits, key_packed}
use Rattle.bit_keys.proofs.key.KeyHash.hash.Goals as goal

pub returns : goal.returns
returns g c =
    c.hash-2.ensures
    ∙ ap (λ s. fold g.H.Hasher.write s (slice u8 c.self.inside.bytes.items)) c.hash.ensures
    ∙ ap (λ n. fold g.H.Hasher.write (g.H.Hasher.write c.args.state.now (le_bytes 8 n)) (slice u8 c.self.inside.bytes.items)) (key_bits c.self.inside.bits c.self.inside.bytes.items c.args.self.now (c.self.view_is, c.self.invariant.0, c.self.invariant.1))
    ∙ ap (λ bs. fold g.H.Hasher.write (g.H.Hasher.write c.args.state.now (le_bytes 8 (length c.args.self.now))) (slice u8 bs)) (key_packed c.self.inside.bits c.self.inside.bytes.items c.args.self.now (c.self.view_is, c.self.invariant.0, c.self.invariant.1))
