use Rattle.std.proofs.Common.{◌-◌, ◌+◌}
use Rattle.std.proofs.lemmas.Result.{err_from_is_err_and}
use Rattle.trie_model.specs.Maps.{limits}
use Rattle.proof_model.specs.Wire.{listed_at}
use Rattle.proof_model.specs.ChangeWire.{change_at}
use Rattle.proof_check.proofs.ListFields.{goes_on, ends, is_done}
use Rattle.proof_check.proofs.ListSteps.{more_listed, no_listed}
use Rattle.proof_check.proofs.change_reading.listed_of.Goals as goal

pub returns-in_err-change-clause-exact : goal.returns-in_err-change-clause-exact
returns-in_err-change-clause-exact c =
    let p = err_from_is_err_and c.from_residual.result c.from_residual.ensures.1 in
    let bytes = c.args.bytes.now in
    rw (p.1, p.2) (ends c.in_err-change.field-0.0 c.loop.changes.items (change_at limits bytes c.loop.next) (λ x. listed_at (change_at limits) (c.args.count - (c.loop.counter + 1)) bytes x.1) (listed_at (change_at limits) (c.args.count - c.loop.counter) bytes c.loop.next) (listed_at (change_at limits) c.args.count bytes c.args.at)
    (more_listed (change_at limits) c.args.count c.loop.counter bytes c.loop.next c.loop-test.true) c.in_err-change.ensures.exact c.loop.invariant.so_far)

pub loop-preserved : goal.loop-preserved
loop-preserved c =
    let bytes = c.args.bytes.now in
    record {
      inside = c.in_ok-change.ensures.inside;
      so_far = rw c.in_ok-push.ensures.items (goes_on c.loop.changes.items c.in_ok-change.change c.in_ok-change.after (change_at limits bytes c.loop.next) (λ x. listed_at (change_at limits) (c.args.count - (c.loop.counter + 1)) bytes x.1) (listed_at (change_at limits) (c.args.count - c.loop.counter) bytes c.loop.next) (listed_at (change_at limits) c.args.count bytes c.args.at)
          (more_listed (change_at limits) c.args.count c.loop.counter bytes c.loop.next c.loop-test.true) c.in_ok-change.ensures.exact c.loop.invariant.so_far);
    }

pub returns-clause-exact : goal.returns-clause-exact
returns-clause-exact c =
    let bytes = c.args.bytes.now in
    is_done c.loop.changes.items c.loop.next (listed_at (change_at limits) (c.args.count - c.loop.counter) bytes c.loop.next) (listed_at (change_at limits) c.args.count bytes c.args.at)
    (no_listed (change_at limits) c.args.count c.loop.counter bytes c.loop.next c.loop-test.false) c.loop.invariant.so_far
