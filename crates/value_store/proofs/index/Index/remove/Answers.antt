use Rattle.std.proofs.Common.{rules, ap, sym, ◌∙◌, subst}
use Rattle.std.specs.FinMap.{remove}
use Rattle.value_store.specs.Index.{Places, places_of, HasShortKeys}
use Rattle.value_store.proofs.IndexEntries.{places_of-remove_entry}
use Rattle.value_store.proofs.ShortKeys.{short-remove}
use Rattle.value_store.proofs.index.Index.remove.Goals as goal

pub returns : goal.returns
returns c =
    places_of-remove_entry c.self.inside.places.entries c.remove.new.self.entries c.args.key.now c.self.invariant.0 c.remove.ensures.ordered c.remove.ensures.entries
    ∙ ap (λ (m : Places). remove m c.args.key.now) c.self.view_is

pub invariant_of-self : goal.invariant_of-self
invariant_of-self c =
    let es = c.self.inside.places.entries in
    let removed = places_of-remove_entry es c.remove.new.self.entries c.args.key.now c.self.invariant.0 c.remove.ensures.ordered c.remove.ensures.entries in
    (search rules, subst HasShortKeys (sym removed) (short-remove (places_of es) c.args.key.now c.self.invariant.1))
