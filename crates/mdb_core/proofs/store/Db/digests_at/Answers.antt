use Rattle.std.proofs.Common.{ap, ◌∙◌}
use Rattle.view_stack.specs.ViewAnswers.{numbers}
use Rattle.mdb_core.proofs.Refusals.{chain_live}
use Rattle.mdb_core.proofs.store.Db.digests_at.Goals as goal

pub lay_all-requires : goal.lay_all-requires
lay_all-requires c =
    chain_live _ c.args.self.now c.args.parent c.in-Some.id c.deref.result.now c.self.view_is c.self.invariant.forest c.in-Some.is c.requires (ap numbers c.deref.ensures.value ∙ c.in_ok-ids.ensures)
