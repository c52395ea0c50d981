use Rattle.std.proofs.Common.{ap, sym, ◌∙◌}
use Rattle.view_model.specs.Maps.{view_map}
use Rattle.mdb_core.specs.Stores.{DbState}
use Rattle.mdb_core.proofs.store.Db.view_spot.Goals as goal

pub invariant_of-result : goal.invariant_of-result
invariant_of-result c =
    let some = c.self.invariant.digests in
    (view_map c.args.self.now.forest some.0 c.args.id.number, c.in_ok-digests.ensures.digests some.0 (ap (λ (s : DbState). s.digests) (sym c.self.view_is) ∙ some.1), c.in_ok-digests.ensures.short)
