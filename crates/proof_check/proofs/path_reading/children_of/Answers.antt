use Rattle.std.proofs.Common.{◌≡◌, ℕ, suc, ◌-◌, ◌+◌, ◌++◌, ◌∷◌, [], arith}
use Rattle.std.proofs.lemmas.Result.{err_from_is_err_and}
use Rattle.std.proofs.lemmas.List.{map_push}
use Rattle.bit_keys.specs.Branch.{width_of}
use Rattle.trie_items.specs.Children.{children_of}
use Rattle.proof_model.specs.Wire.{children_at}
use Rattle.proof_check.specs.ReaderAnswers.{child_at}
use Rattle.proof_check.proofs.ListFields.{goes_on, ends, is_done}
use Rattle.proof_check.proofs.ListSteps.{more_children, no_children}
use Rattle.proof_check.proofs.path_reading.children_of.Goals as goal

pub returns-in_err-child-clause-exact : goal.returns-in_err-child-clause-exact
returns-in_err-child-clause-exact c =
    let p = err_from_is_err_and c.from_residual-in_err-child.result c.from_residual-in_err-child.ensures.1 in
    let w = width_of c.args.branch in
    let bytes = c.args.bytes.now in
    rw (p.1, p.2) (ends c.in_err-child.field-0.0 (children_of c.loop.children.items) (child_at w c.loop.low bytes c.loop.next) (λ x. children_at (c.args.count - (c.loop.counter + 1)) w (suc x.0.0) bytes x.1) (children_at (c.args.count - c.loop.counter) w c.loop.low bytes c.loop.next) (children_at c.args.count w 0 bytes c.args.at)
    (more_children c.args.count c.loop.counter w c.loop.low bytes c.loop.next c.loop-test.true) c.in_err-child.ensures.exact c.loop.invariant.so_far)

next_index : (n i : ℕ) → n ≡ i → n + 1 ≡ suc i
next_index n i e = omega (arith, e)

pub loop-preserved : goal.loop-preserved
loop-preserved c =
    let child = c.in_ok-child.child in
    let w = width_of c.args.branch in
    let bytes = c.args.bytes.now in
    let e : children_of c.push.new.self.items ≡ children_of c.loop.children.items ++ (child.index, child.id) ∷ [] = rw c.in_ok-push.ensures.items (map_push _ c.loop.children.items child) in
    record {
      inside = c.in_ok-child.ensures.inside;
      so_far = rw (e, next_index c.from-low.result child.index c.from-low.ensures) (goes_on (children_of c.loop.children.items) (child.index, child.id) c.in_ok-child.after (child_at w c.loop.low bytes c.loop.next) (λ x. children_at (c.args.count - (c.loop.counter + 1)) w (suc x.0.0) bytes x.1) (children_at (c.args.count - c.loop.counter) w c.loop.low bytes c.loop.next) (children_at c.args.count w 0 bytes c.args.at)
          (more_children c.args.count c.loop.counter w c.loop.low bytes c.loop.next c.loop-test.true) c.in_ok-child.ensures.exact c.loop.invariant.so_far);
    }

pub returns-clause-exact : goal.returns-clause-exact
returns-clause-exact c =
    let w = width_of c.args.branch in
    let bytes = c.args.bytes.now in
    is_done (children_of c.loop.children.items) c.loop.next (children_at (c.args.count - c.loop.counter) w c.loop.low bytes c.loop.next) (children_at c.args.count w 0 bytes c.args.at)
    (no_children c.args.count c.loop.counter w c.loop.low bytes c.loop.next c.loop-test.false) c.loop.invariant.so_far
