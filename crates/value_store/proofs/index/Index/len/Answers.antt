use Rattle.std.proofs.Common.{sym, ap, ◌∙◌, length}
use Rattle.std.specs.FinMap.{len, len-entries}
use Rattle.std.proofs.lemmas.List.{length-map}
use Rattle.value_store.specs.Index.{Places, placed}
use Rattle.value_store.proofs.IndexEntries.{entries-places_of}
use Rattle.value_store.proofs.index.Index.len.Goals as goal

pub returns-clause-len : goal.returns-clause-len
returns-clause-len c =
    let es = c.self.inside.places.entries in
    c.len.ensures.len ∙ sym (length-map es placed) ∙ ap length (sym (entries-places_of es c.self.invariant.0)) ∙ sym (len-entries _)
    ∙ ap (λ (m : Places). len m) c.self.view_is
