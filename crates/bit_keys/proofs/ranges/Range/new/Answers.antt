use Rattle.std.proofs.Common.{refl, sym, ◌∙◌}
use Rattle.bit_keys.proofs.Bounds.{kept, tested, seen}
use Rattle.bit_keys.proofs.ranges.Range.new.Goals as goal

pub invariant_of-result : goal.invariant_of-result
invariant_of-result c = kept _ _ _ _ c.bound_key.ensures.key c.bound_key-2.ensures.key c.bound_key.ensures.bytes c.bound_key-2.ensures.bytes
    (c.if-not-is_short.ensures.0 refl) (c.if-not-is_short-2.ensures.0 refl) (sym c.is_in_order.ensures ∙ c.if-not-is_in_order.false)

pub returns : goal.returns
returns c = (
  tested _ _ c.bound_key.ensures.bytes c.bound_key-2.ensures.bytes (c.if-not-is_short.ensures.0 refl) (c.if-not-is_short-2.ensures.0 refl) (sym c.is_in_order.ensures ∙ c.if-not-is_in_order.false),
  seen _ _ _ _ c.bound_key.ensures.key c.bound_key-2.ensures.key c.bound_key.ensures.bytes c.bound_key-2.ensures.bytes,
)
