use Rattle.std.proofs.Common.{◌++◌, map, ap, ◌∙◌}
use Rattle.proof_check.specs.Claims.{pair_of}
use Rattle.change_proof.proofs.LaidPairs.{from-shorter, below-taken}
use Rattle.change_proof.proofs.laying.push_below.Goals as goal

pub slice_bounds-push_pairs-count : goal.slice_bounds-push_pairs-count
slice_bounds-push_pairs-count c = from-shorter c.args.key.now c.args.pairs.now c.from-rest.result.now c.from-rest.ensures

pub returns-clause-pushed : goal.returns-clause-pushed
returns-clause-pushed c = c.in_ok-push_pairs.ensures ∙ ap (λ x. map pair_of c.args.laid.now.items ++ x) (below-taken c.args.key.now c.args.pairs.now c.from-rest.result.now c.from-rest.ensures)
