use Rattle.std.proofs.Common.{ℕ, ◌<◌, List, length, ap, ◌∙◌, refl, Option, true, false, arith}
use Rattle.std.specs.Prelude.{Vec, option_map}
use Rattle.std.specs.FinMap.{get}
use Rattle.std.specs.declared.alloc.Global.{Global}
use Rattle.trie_items.specs.Sources.{next_key}
use Rattle.point_proof.proofs.SourceCalls.{nothing_called, then_well, lacks_memory}
use Rattle.range_proof.specs.TakenKeys.{in_range}
use Rattle.range_proof.proofs.TakenPairs.{starts, ends, ends_full, never_none, ends_behind, steps_to, never_empty, tested, sized}
use Rattle.range_proof.proofs.taking.take.Goals as goal

abbrev bytes_of : Option (Vec ℕ Global) → Option (List ℕ)
bytes_of = option_map (λ (v : Vec ℕ Global). v.items)

pub loop-next-init : goal.loop-next-init
loop-next-init g c =
    let w = g.N.NodeSource.words in
    let laws = g.met.N.NodeSource.lawful in
    record {
      on_taking = λ m t. starts c.args.pairs c.args.bytes m c.args.range.now (w.keys c.args.source.now) c.least.result.now (bytes_of c.in_ok-next.next) c.new-taken.result.items 0
          (laws.told_keys c.args.source.now m t) c.least.ensures c.in_ok-next.ensures.key c.new-taken.ensures.items refl;
      fresh = λ e. refl;
      well = then_well w laws _ _ _ _ (nothing_called w laws c.args.source.now) c.in_ok-next.ensures.answers;
    }

pub returns-then-len-pairs-clause-taken : goal.returns-then-len-pairs-clause-taken
returns-then-len-pairs-clause-taken g c = λ m t.
    ends_full c.args.pairs c.args.bytes m c.args.range.now c.loop-next.taken.items c.loop-next.used (bytes_of c.loop-next.next) c.in-Some.key.items (ap bytes_of c.in-Some.is) c.requires (omega arith)
    (c.loop-next.invariant.on_taking m t)

pub returns-in_default-2-clause-taken : goal.returns-in_default-2-clause-taken
returns-in_default-2-clause-taken g c = λ m t.
    let laws = g.met.N.NodeSource.lawful in
    let before = c.loop-next.invariant in
    absurd (never_none c.args.pairs c.args.bytes m c.args.range.now c.loop-next.taken.items c.loop-next.used (bytes_of c.loop-next.next) c.in-Some.key.items (ap bytes_of c.in-Some.is) (before.on_taking m t)
    (bytes_of c.in_ok-value.field-0) (c.in_ok-value.ensures.value m (laws.calm_told c.args.source.now c.loop-next.source m before.well.calm t) ∙ ap (get m) c.deref.ensures.value) (ap bytes_of c.in_default-2.is))

pub returns-then-not-is_taken-clause-taken : goal.returns-then-not-is_taken-clause-taken
returns-then-not-is_taken-clause-taken g c = λ m t.
    let laws = g.met.N.NodeSource.lawful in
    let before = c.loop-next.invariant in
    let size = sized _ _ c.in-Some.key.items c.in-Some-2.value.items c.size_of-size.result c.size_of-size.ensures c.deref-in-Some.ensures.value c.deref-in-Some-2.ensures.value in
    ends_behind c.args.pairs c.args.bytes m c.args.range.now c.loop-next.taken.items c.loop-next.used (bytes_of c.loop-next.next) c.in-Some.key.items (ap bytes_of c.in-Some.is) (before.on_taking m t)
    (bytes_of c.in_ok-value.field-0) (c.in_ok-value.ensures.value m (laws.calm_told c.args.source.now c.loop-next.source m before.well.calm t) ∙ ap (get m) c.deref.ensures.value) c.in-Some-2.value.items (ap bytes_of c.in-Some-2.is)
    (tested c.as_slice.result.now c.loop-next.taken.items c.loop-next.used c.size_of-size.result c.args.bytes (c.in-Some.key.items, c.in-Some-2.value.items) c.is_taken.result false c.is_taken.ensures c.as_slice.ensures.value size c.if-not-is_taken.true)

pub loop-next-preserved : goal.loop-next-preserved
loop-next-preserved g c =
    let w = g.N.NodeSource.words in
    let laws = g.met.N.NodeSource.lawful in
    let before = c.loop-next.invariant in
    let pair : List ℕ × List ℕ = (c.in-Some.key.items, c.in-Some-2.value.items) in
    let size = sized _ _ c.in-Some.key.items c.in-Some-2.value.items c.size_of-size.result c.size_of-size.ensures c.deref-in-Some.ensures.value c.deref-in-Some-2.ensures.value in
    let room : length c.loop-next.taken.items < c.args.pairs = omega arith in
    record {
      on_taking = λ m t.
          let told = laws.calm_told c.args.source.now c.loop-next.source m before.well.calm t in
          steps_to c.args.pairs c.args.bytes m c.args.range.now c.loop-next.taken.items c.loop-next.used (bytes_of c.loop-next.next) c.in-Some.key.items (ap bytes_of c.in-Some.is) (before.on_taking m t)
          (bytes_of c.in_ok-value.field-0) (c.in_ok-value.ensures.value m told ∙ ap (get m) c.deref.ensures.value)
          c.in-Some-2.value.items (w.keys c.value.new.self) (bytes_of c.in_ok-next-2.next) c.push.new.self.items c.size_of-size.result (ap bytes_of c.in-Some-2.is) room before.fresh
          (tested c.as_slice.result.now c.loop-next.taken.items c.loop-next.used c.size_of-size.result c.args.bytes pair c.is_taken.result true c.is_taken.ensures c.as_slice.ensures.value size c.if-not-is_taken.false)
          (laws.told_keys c.value.new.self m (laws.calm_told c.loop-next.source c.value.new.self m c.in_ok-value.ensures.answers.calm told))
          (c.in_ok-next-2.ensures.key ∙ ap (λ k. in_range c.args.range.now (next_key true k (w.keys c.value.new.self))) c.deref-in-Some-3.ensures.value)
          c.in_ok-push.ensures.items size;
      fresh = λ e. absurd (never_empty c.push.new.self.items c.loop-next.taken.items pair c.in_ok-push.ensures.items e);
      well = then_well w laws _ _ _ _ (then_well w laws _ _ _ _ before.well c.in_ok-value.ensures.answers) c.in_ok-next-2.ensures.answers;
    }

pub returns-in_err-push-clause-answers : goal.returns-in_err-push-clause-answers
returns-in_err-push-clause-answers g c =
    let w = g.N.NodeSource.words in
    let laws = g.met.N.NodeSource.lawful in
    lacks_memory w laws _ _ _ c.from_residual-in_err-push.result c.from_residual-in_err-push.ensures.1
    (then_well w laws _ _ _ _ (then_well w laws _ _ _ _ c.loop-next.invariant.well c.in_ok-value.ensures.answers) c.in_ok-next-2.ensures.answers)

pub returns-clause-taken : goal.returns-clause-taken
returns-clause-taken g c = λ m t.
    ends c.args.pairs c.args.bytes m c.args.range.now c.loop-next.taken.items c.loop-next.used (bytes_of c.loop-next.next) (ap bytes_of c.in_default.is) (c.loop-next.invariant.on_taking m t)
