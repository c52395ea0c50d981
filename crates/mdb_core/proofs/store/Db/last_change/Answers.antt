use Rattle.std.proofs.Common.{◌≡◌, suc, ◌-◌, arith, take, get_or, option_map, sym, ap, ◌∙◌, subst, Some}
use Rattle.std.specs.FinMap.{get}
use Rattle.view_model.specs.Forest.{Live, state}
use Rattle.view_model.specs.Maps.{changes_of, laid}
use Rattle.view_stack.specs.declared.state.ViewId.{ViewId}
use Rattle.view_stack.specs.ViewAnswers.{numbers}
use Rattle.mdb_core.specs.Stores.{DbState}
use Rattle.mdb_core.proofs.BatchLookups.{live_at, told_by}
use Rattle.mdb_core.proofs.store.Db.last_change.Goals as goal

pub batch-requires : goal.batch-requires
batch-requires c =
    let nobody : ViewId = record { number = 0 } in
    let i = c.loop-left.left - 1 in
    let id : ViewId = get_or c.args.ids.now i nobody in
    let live = live_at c.args.self.now.forest c.args.ids.now i nobody c.requires (omega (arith, c.loop-left.invariant.within, c.loop-left-test.true)) in
    subst (λ (s : DbState). state s.forest id.number ≡ Some Live) (sym c.self.view_is) live

pub returns-in-Some : goal.returns-in-Some
returns-in-Some c = λ m.
    let nobody : ViewId = record { number = 0 } in
    let left = c.loop-left.left in
    let i = left - 1 in
    let id : ViewId = get_or c.args.ids.now i nobody in
    let f = c.args.self.now.forest in
    let batch = c.batch.ensures ∙ ap (λ (s : DbState). changes_of s.forest id.number) c.self.view_is in
    let e : left ≡ suc i = omega (arith, c.loop-left-test.true) in
    let front = laid f m (numbers (take i c.args.ids.now)) in
    let told = rw c.in-Some.is at (c.in_ok-value.ensures front) in
    told_by f m c.args.ids.now i left nobody c.args.key.now c.batch.result.now (option_map (λ v. v.items) c.in-Some.value) e c.loop-left.invariant.within (c.loop-left.invariant.rest m) batch told

pub loop-left-preserved : goal.loop-left-preserved
loop-left-preserved c =
    let nobody : ViewId = record { number = 0 } in
    let left = c.loop-left.left in
    let i = left - 1 in
    let id : ViewId = get_or c.args.ids.now i nobody in
    let f = c.args.self.now.forest in
    let batch = c.batch.ensures ∙ ap (λ (s : DbState). changes_of s.forest id.number) c.self.view_is in
    let e : left ≡ suc i = omega (arith, c.loop-left-test.true) in
    record {
      within = omega (arith, c.loop-left.invariant.within);
      rest = λ m.
          let front = laid f m (numbers (take i c.args.ids.now)) in
          told_by f m c.args.ids.now i left nobody c.args.key.now c.batch.result.now (get front c.args.key.now) e c.loop-left.invariant.within (c.loop-left.invariant.rest m) batch (rw c.in_default.is at (c.in_ok-value.ensures front));
    }
