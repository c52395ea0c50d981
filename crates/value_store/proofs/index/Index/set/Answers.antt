use Rattle.std.proofs.Common.{◌≡◌, ap, ◌∙◌, sym, subst}
use Rattle.std.specs.Prelude.{IsSome}
use Rattle.std.specs.Option.{option_copied_mut}
use Rattle.std.specs.FinMap.{get, insert}
use Rattle.value_store.specs.Index.{Places, places_of, AreInOrder, HasShortKeys}
use Rattle.value_store.proofs.IndexEntries.{places_of-set_value, get-entries_of, not_some, not_none}
use Rattle.value_store.proofs.ShortKeys.{short-set}
use Rattle.value_store.proofs.index.Index.set.Goals as goal
use Rattle.value_store.proofs.index.Index.set.Goals.{in-Some, in_default}

-- what was found is what the map answers
found : (c : goal.Joined-get_mut) → get c.args.self.now c.args.key.now ≡ option_copied_mut c.get_mut.result
found c = ap (λ (m : Places). get m c.args.key.now) (sym c.self.view_is) ∙ get-entries_of c.self.inside.places.entries c.self.invariant.0 c.args.key.now ∙ sym c.get_mut.ensures.value

pub returns-clause-there : goal.returns-clause-there
returns-clause-there c = λ there.
    let es = c.self.inside.places.entries in
    let key = c.args.key.now in
    let there' = subst (λ (m : Places). IsSome (get m key)) (sym c.self.view_is) there in
    elim c.match-get_mut.branch [
      | in-Some w ↦
          let h = c.get_mut.follows.holds c.args.place in
          rw w.self-inside-is (places_of-set_value es (c.get_mut.follows.lender c.args.place).entries key c.args.place c.self.invariant.0 h.4 there' h.0 ∙ ap (λ (m : Places). insert m key c.args.place) c.self.view_is)
      | in_default w ↦ absurd (not_some _ there (found c ∙ ap option_copied_mut w.in_default.is))
    ]

pub returns-clause-absent : goal.returns-clause-absent
returns-clause-absent c = λ none.
    elim c.match-get_mut.branch [
      | in-Some w ↦ absurd (not_none _ (sym none ∙ found c ∙ ap option_copied_mut w.in-Some.is))
      | in_default w ↦ rw w.self-inside-is (ap (λ m. places_of m.entries) c.get_mut.follows.holds-at-none ∙ c.self.view_is)
    ]

pub invariant_of-self : goal.invariant_of-self
invariant_of-self c =
    let es = c.self.inside.places.entries in
    let key = c.args.key.now in
    let old = get-entries_of es c.self.invariant.0 key ∙ sym c.get_mut.ensures.value in
    elim c.match-get_mut.branch [
      | in-Some w ↦
          let h = c.get_mut.follows.holds c.args.place in
          let new = (c.get_mut.follows.lender c.args.place).entries in
          rw w.self-inside-is
          (h.4, short-set (places_of es) (places_of new) key c.args.place (λ there. places_of-set_value es new key c.args.place c.self.invariant.0 h.4 there h.0) (λ none. absurd (not_none _ (sym none ∙ old ∙ ap option_copied_mut w.in-Some.is))) c.self.invariant.1)
      | in_default w ↦ rw w.self-inside-is (subst (λ m. AreInOrder m.entries × HasShortKeys (places_of m.entries)) (sym c.get_mut.follows.holds-at-none) c.self.invariant)
    ]
