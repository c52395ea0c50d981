use Rattle.std.proofs.Common.{ℕ, List, ap, ◌∙◌, refl, Option, true, false}
use Rattle.std.specs.Prelude.{Vec, option_map}
use Rattle.std.specs.FinMap.{get}
use Rattle.std.specs.declared.alloc.Global.{Global}
use Rattle.trie_items.specs.Sources.{next_key}
use Rattle.point_proof.proofs.SourceCalls.{nothing_called, then_well, lacks_memory}
use Rattle.range_proof.specs.TakenKeys.{in_range}
use Rattle.change_proof.proofs.LocalPairs.{starts, ends, never_none, steps, starts_in_order, steps_in_order, fewer}
use Rattle.change_proof.proofs.local.pairs_of.Goals as goal

abbrev bytes_of : Option (Vec ℕ Global) → Option (List ℕ)
bytes_of = option_map (λ (v : Vec ℕ Global). v.items)

pub loop-next-init : goal.loop-next-init
loop-next-init g c =
    let w = g.N.NodeSource.words in
    let laws = g.met.N.NodeSource.lawful in
    record {
      on_listing = λ m t. starts m c.args.range.now (w.keys c.args.source.now) c.least.result.now (bytes_of c.in_ok-next.next) c.new-pairs.result.items
          (laws.told_keys c.args.source.now m t) c.least.ensures c.in_ok-next.ensures.key c.new-pairs.ensures.items;
      in_order = starts_in_order c.args.range.now (w.keys c.args.source.now) false c.least.result.now (bytes_of c.in_ok-next.next) c.new-pairs.result.items c.in_ok-next.ensures.key c.new-pairs.ensures.items;
      well = then_well w laws _ _ _ _ (nothing_called w laws c.args.source.now) c.in_ok-next.ensures.answers;
    }

pub returns-in_default-2-clause-told : goal.returns-in_default-2-clause-told
returns-in_default-2-clause-told g c = λ m t.
    let laws = g.met.N.NodeSource.lawful in
    let before = c.loop-next.invariant in
    absurd (never_none m c.args.range.now c.loop-next.pairs.items (bytes_of c.loop-next.next) c.in-Some.key.items (ap bytes_of c.in-Some.is) (before.on_listing m t)
    (bytes_of c.in_ok-value.field-0) (c.in_ok-value.ensures.value m (laws.calm_told c.args.source.now c.loop-next.source m before.well.calm t) ∙ ap (get m) c.deref.ensures.value) (ap bytes_of c.in_default-2.is))

pub loop-next-preserved : goal.loop-next-preserved
loop-next-preserved g c =
    let w = g.N.NodeSource.words in
    let laws = g.met.N.NodeSource.lawful in
    let before = c.loop-next.invariant in
    let range = c.args.range.now in
    let key = c.in-Some.key.items in
    let value = c.in-Some-2.value.items in
    let after = bytes_of c.in_ok-next-2.next in
    let asked = then_well w laws _ _ _ _ before.well c.in_ok-value.ensures.answers in
    let found = c.in_ok-next-2.ensures.key ∙ ap (λ k. in_range range (next_key true k (w.keys c.value.new.self))) c.deref-in-Some.ensures.value in
    let follows = found ∙ ap (λ ks. in_range range (next_key true key ks)) (laws.calm_keys c.args.source.now c.value.new.self asked.calm) in
    record {
      on_listing = λ m t.
          let told = laws.calm_told c.args.source.now c.loop-next.source m before.well.calm t in
          steps m range c.loop-next.pairs.items (bytes_of c.loop-next.next) key (ap bytes_of c.in-Some.is) (before.on_listing m t)
          (bytes_of c.in_ok-value.field-0) (c.in_ok-value.ensures.value m told ∙ ap (get m) c.deref.ensures.value)
          value (w.keys c.value.new.self) after c.push.new.self.items (ap bytes_of c.in-Some-2.is)
          (laws.told_keys c.value.new.self m (laws.calm_told c.loop-next.source c.value.new.self m c.in_ok-value.ensures.answers.calm told)) found c.in_ok-push.ensures.items;
      in_order = steps_in_order range (w.keys c.args.source.now) c.loop-next.pairs.items (bytes_of c.loop-next.next) key (ap bytes_of c.in-Some.is) before.in_order after follows value c.push.new.self.items c.in_ok-push.ensures.items;
      well = then_well w laws _ _ _ _ asked c.in_ok-next-2.ensures.answers;
    }

pub loop-next-smaller : goal.loop-next-smaller
loop-next-smaller g c =
    let w = g.N.NodeSource.words in
    let laws = g.met.N.NodeSource.lawful in
    let before = c.loop-next.invariant in
    let key = c.in-Some.key.items in
    let asked = then_well w laws _ _ _ _ before.well c.in_ok-value.ensures.answers in
    let found = c.in_ok-next-2.ensures.key ∙ ap (λ k. in_range c.args.range.now (next_key true k (w.keys c.value.new.self))) c.deref-in-Some.ensures.value in
    let follows = found ∙ ap (λ ks. in_range c.args.range.now (next_key true key ks)) (laws.calm_keys c.args.source.now c.value.new.self asked.calm) in
    fewer c.args.range.now (w.keys c.args.source.now) c.loop-next.pairs.items (bytes_of c.loop-next.next) (bytes_of c.in_ok-next-2.next) key (ap bytes_of c.in-Some.is) before.in_order follows

pub returns-in_err-push-clause-answers : goal.returns-in_err-push-clause-answers
returns-in_err-push-clause-answers g c =
    let w = g.N.NodeSource.words in
    let laws = g.met.N.NodeSource.lawful in
    lacks_memory w laws _ _ _ c.from_residual-in_err-push.result c.from_residual-in_err-push.ensures.1
    (then_well w laws _ _ _ _ (then_well w laws _ _ _ _ c.loop-next.invariant.well c.in_ok-value.ensures.answers) c.in_ok-next-2.ensures.answers)

pub returns-clause-told : goal.returns-clause-told
returns-clause-told g c = λ m t.
    ends m c.args.range.now c.loop-next.pairs.items (bytes_of c.loop-next.next) (ap bytes_of c.in_default.is) (c.loop-next.invariant.on_listing m t)
