use Rattle.std.proofs.Common.{sym, ap, ◌∙◌}
use Rattle.std.specs.FinMap.{get}
use Rattle.value_store.specs.Index.{Places}
use Rattle.value_store.proofs.IndexEntries.{get-entries_of}
use Rattle.value_store.proofs.index.Index.get.Goals as goal

pub returns : goal.returns
returns c =
    c.copied.ensures ∙ c.get.ensures.value ∙ sym (get-entries_of c.self.inside.places.entries c.self.invariant.0 c.args.key.now)
    ∙ ap (λ (m : Places). get m c.args.key.now) c.self.view_is
