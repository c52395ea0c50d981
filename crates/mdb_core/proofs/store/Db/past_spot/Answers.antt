use Rattle.std.proofs.Common.{sym, ◌∙◌, subst, List, ℕ}
use Rattle.batch_model.specs.Batch.{after_batch}
use Rattle.node_table.specs.Pairs.{AreShort}
use Rattle.mdb_core.specs.Stores.{keys_of}
use Rattle.mdb_core.proofs.store.Db.past_spot.Goals as goal

pub invariant_of-result : goal.invariant_of-result
invariant_of-result c =
    let some = c.self.invariant.digests in
    (after_batch some.0 c.args.undo, c.in_ok-lay.ensures.laid some.0 (c.in_ok-digests.ensures ∙ some.1), c.in_ok-lay.ensures.short (subst (λ (ds : List (List ℕ × List ℕ)). AreShort (keys_of ds)) (sym c.in_ok-digests.ensures) some.2))
