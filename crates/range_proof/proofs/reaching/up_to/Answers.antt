use Rattle.std.proofs.Common.{arith, ◌∙◌}
use Rattle.std.specs.Prelude.{option_map}
use Rattle.bit_keys.proofs.Bounds.{are_bytes}
use Rattle.point_proof.proofs.AcceptedProofs.{is_there}
use Rattle.range_proof.proofs.CheckedRange.{up_to-bounds}
use Rattle.range_proof.proofs.reaching.up_to.Goals as goal

pub unwrap-requires : goal.unwrap-requires
unwrap-requires c =
    is_there c.new.result _ _ c.new.ensures
    (up_to-bounds c.args.range.now c.args.last.now c.in_ok-end.end.items (option_map (λ b. b.items) c.in_ok-start.start) c.start.ensures.range (are_bytes c.args.last.now (λ i. omega (arith, c.type_inv.last i)))
    c.requires.short c.requires.inside (c.in_ok-start.ensures ∙ c.start.ensures.value) c.in_ok-end.ensures.items)
