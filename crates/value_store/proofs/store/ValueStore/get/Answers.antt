use Rattle.std.proofs.Common.{Some, is_some, option_map, sym, ap, ◌∙◌}
use Rattle.value_store.specs.Values.{ValueState, value_in}
use Rattle.value_store.proofs.KeptMaps.{kept_value, kept_key}
use Rattle.value_store.proofs.store.ValueStore.get.Goals as goal

pub returns-in_default-clause-value : goal.returns-in_default-clause-value
returns-in_default-clause-value g c = λ told m keeps.
    let files = g.D.Disk.words.seen c.args.disk.now in
    let is = ap (λ (s : ValueState). s.index) (sym c.self.view_is) in
    ap (option_map (value_in (files c.args.self.now.journal.file))) (sym c.in_default.is ∙ c.get.ensures)
    ∙ sym (kept_value c.args.self.now m files c.self.inside.index is keeps c.args.key.now)

pub returns-in_default-clause-there : goal.returns-in_default-clause-there
returns-in_default-clause-there g c = λ m has.
    let is = ap (λ (s : ValueState). s.index) (sym c.self.view_is) in
    ap is_some (sym c.in_default.is ∙ c.get.ensures) ∙ kept_key c.args.self.now m c.self.inside.index is has c.args.key.now

pub returns-clause-value : goal.returns-clause-value
returns-clause-value g c = λ told m keeps.
    let files = g.D.Disk.words.seen c.args.disk.now in
    let place = c.in-Some.place in
    let same = ap (λ (s : ValueState). s.journal.file) c.self.view_is in
    let is = ap (λ (s : ValueState). s.index) (sym c.self.view_is) in
    ap (λ v. Some v) (c.in-Ok.ensures.value told ∙ ap (λ f. value_in (files f) place) same)
    ∙ ap (option_map (value_in (files c.args.self.now.journal.file))) (sym c.in-Some.is ∙ c.get.ensures)
    ∙ sym (kept_value c.args.self.now m files c.self.inside.index is keeps c.args.key.now)

pub returns-clause-there : goal.returns-clause-there
returns-clause-there g c = λ m has.
    let is = ap (λ (s : ValueState). s.index) (sym c.self.view_is) in
    ap is_some (sym c.in-Some.is ∙ c.get.ensures) ∙ kept_key c.args.self.now m c.self.inside.index is has c.args.key.now
