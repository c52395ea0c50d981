use Rattle.std.proofs.Common.{◌∙◌}
use Rattle.value_store.proofs.IndexEntries.{same_places}
use Rattle.value_store.proofs.placing.add_room.Goals as goal

pub returns-in-Err-clause-err : goal.returns-in-Err-clause-err
returns-in-Err-clause-err c = same_places _ _ (λ q. c.cut.ensures q ∙ c.in-Err.ensures.back c.requires.before q)
