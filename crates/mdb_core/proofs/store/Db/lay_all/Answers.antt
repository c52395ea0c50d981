use Rattle.std.proofs.Common.{◌≡◌, ◌+◌, drop, get_or, refl, sym, ap, ◌∙◌, subst, Some}
use Rattle.std.proofs.lemmas.List.{drop_more, drop_all}
use Rattle.trie_model.specs.Maps.{Map, map_digests}
use Rattle.batch_model.specs.Batch.{after_batch}
use Rattle.view_model.specs.Forest.{Live, state}
use Rattle.view_model.specs.Maps.{changes_of, laid}
use Rattle.view_model.specs.Standing.{AreLive}
use Rattle.view_stack.specs.declared.state.ViewId.{ViewId}
use Rattle.view_stack.specs.ViewAnswers.{numbers}
use Rattle.mdb_core.specs.Stores.{DbState}
use Rattle.mdb_core.proofs.store.Db.lay_all.Goals as goal

pub loop-id-init : goal.loop-id-init
loop-id-init c = record { live = c.requires; laid = λ m e. (m, e, refl); short = λ all. all }

pub batch-requires : goal.batch-requires
batch-requires c =
    let nobody : ViewId = record { number = 0 } in
    let i = c.loop-id.id-index in
    let id : ViewId = get_or c.args.ids.now i nobody in
    let ahead = drop_more c.args.ids.now i nobody c.loop-id-test.true in
    let live = (subst (λ ids. AreLive c.args.self.now.forest (numbers ids)) ahead c.loop-id.invariant.live).0 in
    subst (λ (s : DbState). state s.forest id.number ≡ Some Live) (sym c.self.view_is) live

pub loop-id-preserved : goal.loop-id-preserved
loop-id-preserved c =
    let nobody : ViewId = record { number = 0 } in
    let i = c.loop-id.id-index in
    let id : ViewId = get_or c.args.ids.now i nobody in
    let f = c.args.self.now.forest in
    let ahead = drop_more c.args.ids.now i nobody c.loop-id-test.true in
    let batch = c.batch.ensures ∙ ap (λ (s : DbState). changes_of s.forest id.number) c.self.view_is in
    record {
      live = (subst (λ ids. AreLive f (numbers ids)) ahead c.loop-id.invariant.live).1;
      laid = λ m e.
          let before = c.loop-id.invariant.laid m e in
          let now : Map = after_batch before.0 c.batch.result.now in
          let rest = numbers (drop (i + 1) c.args.ids.now) in
          (now, c.in_ok-lay.ensures.laid before.0 before.1, ap (λ cs. laid f (after_batch before.0 cs) rest) batch ∙ (sym (ap (λ ids. laid f before.0 (numbers ids)) ahead) ∙ before.2));
      short = λ all. c.in_ok-lay.ensures.short (c.loop-id.invariant.short all);
    }

pub returns-clause-laid : goal.returns-clause-laid
returns-clause-laid c = λ m e.
    let before = c.loop-id.invariant.laid m e in
    let none = drop_all c.loop-id.id-index c.args.ids.now c.loop-id-test.false in
    before.1 ∙ ap map_digests (sym (ap (λ ids. laid c.args.self.now.forest before.0 (numbers ids)) none) ∙ before.2)
