use Rattle.std.proofs.Common.{List, [], ℕ, subst}
use Rattle.std.specs.FinMap.{entries}
use Rattle.value_store.specs.PairSinks.{TakesAll}
use Rattle.mdb_core.proofs.TakenDigests.{puts_digest, taken_digests, some_digests}
use Rattle.mdb_core.proofs.MapDigests.{none-AreDigests}
use Rattle.mdb_core.proofs.opening.read_digests.Goals as goal

pub returns-in-Ok-clause-digests : goal.returns-in-Ok-clause-digests
returns-in-Ok-clause-digests g c = λ told m keeps.
    taken_digests m c.each.new.pairs
    (subst (λ (ds : List (List ℕ × List ℕ)). TakesAll puts_digest ds (entries m) c.each.new.pairs) c.new-digests.ensures (c.in-Ok.ensures.taken told m keeps))

pub returns-in-Ok-clause-some : goal.returns-in-Ok-clause-some
returns-in-Ok-clause-some g c =
    let taken = c.in-Ok.ensures.some in
    some_digests taken.0 [] c.each.new.pairs taken.1 none-AreDigests (subst (λ (ds : List (List ℕ × List ℕ)). TakesAll puts_digest ds taken.0 c.each.new.pairs) c.new-digests.ensures taken.2)
