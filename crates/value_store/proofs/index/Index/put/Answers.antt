use Rattle.std.proofs.Common.{rules, ap, sym, ◌∙◌, subst}
use Rattle.std.specs.FinMap.{insert}
use Rattle.value_store.specs.Index.{Places, places_of, HasShortKeys}
use Rattle.value_store.proofs.IndexEntries.{places_of-insert_entry}
use Rattle.value_store.proofs.ShortKeys.{short-insert}
use Rattle.value_store.proofs.index.Index.put.Goals as goal

pub returns-clause-ok : goal.returns-clause-ok
returns-clause-ok c =
    places_of-insert_entry c.self.inside.places.entries c.insert.new.self.entries c.args.key c.args.place c.self.invariant.0 c.insert.ensures.ordered c.in_ok-insert.ensures.entries
    ∙ ap (λ (m : Places). insert m c.args.key.items c.args.place) c.self.view_is

pub invariant_of-self-2 : goal.invariant_of-self-2
invariant_of-self-2 c =
    let es = c.self.inside.places.entries in
    let put = places_of-insert_entry es c.insert.new.self.entries c.args.key c.args.place c.self.invariant.0 c.insert.ensures.ordered c.in_ok-insert.ensures.entries in
    (search rules, subst HasShortKeys (sym put) (short-insert (places_of es) c.args.key.items c.args.place c.self.invariant.1 c.requires))
