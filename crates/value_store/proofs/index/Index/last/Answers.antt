use Rattle.std.proofs.Common.{ap, ◌∙◌, sym}
use Rattle.std.specs.FinMap.{keys}
use Rattle.value_store.specs.Index.{Places}
use Rattle.value_store.specs.Values.{last_of}
use Rattle.value_store.proofs.NextKeys.{keys-places_of, last-lent}
use Rattle.value_store.proofs.index.Index.last.Goals as goal

pub returns : goal.returns
returns c =
    let es = c.self.inside.places.entries in
    c.key_of.ensures
    ∙ last-lent c.last_key_value.result es c.last_key_value.ensures.variant.1 c.last_key_value.ensures.last
    ∙ ap last_of (sym (keys-places_of es c.self.invariant.0) ∙ ap (λ (m : Places). keys m) c.self.view_is)
