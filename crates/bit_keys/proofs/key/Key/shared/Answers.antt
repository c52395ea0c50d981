use Rattle.std.proofs.Common.{◌+◌, ◌*◌, arith, inl, inr, sym, subst, ◌∙◌}
use Rattle.bit_keys.proofs.KeyFacts.{IsKey}
use Rattle.bit_keys.proofs.SharedBits.{before_fits, shared_apart, shared_along}
use Rattle.bit_keys.proofs.key.Key.shared.Goals as goal
use Rattle.bit_keys.proofs.key.Key.shared.Goals.{then-equal-own-via-then-equal-own, then-equal-own-via-else-equal-own+then-equal-others}

pub returns-then-equal-own : goal.returns-then-equal-own
returns-then-equal-own c =
    let a : IsKey c.self.inside.bits c.as_slice-own.result.now c.args.self.now = subst (λ bs. IsKey c.self.inside.bits bs c.args.self.now) (sym c.as_slice-own.ensures) (c.self.view_is, c.self.invariant.0, c.self.invariant.1) in
    let b : IsKey c.other.inside.bits c.as_slice-others.result.now c.args.other.now = subst (λ bs. IsKey c.other.inside.bits bs c.args.other.now) (sym c.as_slice-others.ensures) (c.other.view_is, c.other.invariant.0, c.other.invariant.1) in
    c.min-most.ensures ∙ shared_along c.self.inside.bits c.other.inside.bits c.equal_bytes-equal.result c.as_slice-own.result.now c.as_slice-others.result.now c.args.self.now c.args.other.now a b c.equal_bytes-equal.ensures (elim c.then-equal-own.branch [
      | then-equal-own-via-then-equal-own w ↦ inl (omega arith)
      | then-equal-own-via-else-equal-own+then-equal-others w ↦ inr (omega arith)
    ])

pub overflow_mul-equal : goal.overflow_mul-equal
overflow_mul-equal c =
    let a : IsKey c.self.inside.bits c.as_slice-own.result.now c.args.self.now = subst (λ bs. IsKey c.self.inside.bits bs c.args.self.now) (sym c.as_slice-own.ensures) (c.self.view_is, c.self.invariant.0, c.self.invariant.1) in
    let b : IsKey c.other.inside.bits c.as_slice-others.result.now c.args.other.now = subst (λ bs. IsKey c.other.inside.bits bs c.args.other.now) (sym c.as_slice-others.ensures) (c.other.view_is, c.other.invariant.0, c.other.invariant.1) in
    let s = before_fits c.self.inside.bits c.other.inside.bits c.equal_bytes-equal.result c.as_slice-own.result.now c.as_slice-others.result.now c.args.self.now c.args.other.now a b c.equal_bytes-equal.ensures (omega arith) (omega arith) in
    omega arith

pub overflow_add-equal : goal.overflow_add-equal
overflow_add-equal c =
    let a : IsKey c.self.inside.bits c.as_slice-own.result.now c.args.self.now = subst (λ bs. IsKey c.self.inside.bits bs c.args.self.now) (sym c.as_slice-own.ensures) (c.self.view_is, c.self.invariant.0, c.self.invariant.1) in
    let b : IsKey c.other.inside.bits c.as_slice-others.result.now c.args.other.now = subst (λ bs. IsKey c.other.inside.bits bs c.args.other.now) (sym c.as_slice-others.ensures) (c.other.view_is, c.other.invariant.0, c.other.invariant.1) in
    let s = before_fits c.self.inside.bits c.other.inside.bits c.equal_bytes-equal.result c.as_slice-own.result.now c.as_slice-others.result.now c.args.self.now c.args.other.now a b c.equal_bytes-equal.ensures (omega arith) (omega arith) in
    omega (arith, c.from.ensures)

pub returns : goal.returns
returns c =
    let a : IsKey c.self.inside.bits c.as_slice-own.result.now c.args.self.now = subst (λ bs. IsKey c.self.inside.bits bs c.args.self.now) (sym c.as_slice-own.ensures) (c.self.view_is, c.self.invariant.0, c.self.invariant.1) in
    let b : IsKey c.other.inside.bits c.as_slice-others.result.now c.args.other.now = subst (λ bs. IsKey c.other.inside.bits bs c.args.other.now) (sym c.as_slice-others.ensures) (c.other.view_is, c.other.invariant.0, c.other.invariant.1) in
    let s = shared_apart c.self.inside.bits c.other.inside.bits c.equal_bytes-equal.result (8 * c.equal_bytes-equal.result + c.from.result) c.as_slice-own.result.now c.as_slice-others.result.now c.args.self.now c.args.other.now a b c.equal_bytes-equal.ensures (omega arith) (omega arith) (omega (arith, c.from.ensures)) in
    omega (arith, s)
