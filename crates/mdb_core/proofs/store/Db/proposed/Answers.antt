use Rattle.std.proofs.Common.{◌≡◌, sym, ap, ◌∙◌, subst, drop, length, option_map}
use Rattle.std.specs.Prelude.{MatchOption, IfOk}
use Rattle.std.specs.FinMap.{get}
use Rattle.view_model.specs.Forest.{path_of}
use Rattle.view_model.specs.Maps.{laid}
use Rattle.view_model.specs.Standing.{AreLive}
use Rattle.view_model.proofs.ViewMaps.{chain}
use Rattle.view_stack.specs.ViewAnswers.{numbers}
use Rattle.mdb_core.specs.Stores.{DbState}
use Rattle.mdb_core.proofs.Refusals.{chain_forest}
use Rattle.mdb_core.proofs.store.Db.proposed.Goals as goal

pub last_change-requires : goal.last_change-requires
last_change-requires c =
    let f = c.args.self.now.forest in
    let way = ap numbers c.deref.ensures.value ∙ (c.in_ok-ids.ensures ∙ ap (λ (s : DbState). drop (length s.forest.store) (path_of s.forest c.args.id.number)) c.self.view_is) in
    subst (AreLive f) (sym way) (chain f c.args.id.number (chain_forest _ c.args.self.now c.self.view_is c.self.invariant.forest) c.requires)

pub returns : goal.returns
returns c = λ m.
    let f = c.args.self.now.forest in
    let key = c.args.key.now in
    let way = ap numbers c.deref.ensures.value ∙ (c.in_ok-ids.ensures ∙ ap (λ (s : DbState). drop (length s.forest.store) (path_of s.forest c.args.id.number)) c.self.view_is) in
    subst (λ ns. IfOk c.last_change.result (λ found. MatchOption found (get (laid f m ns) key ≡ get m key) (λ value. get (laid f m ns) key ≡ option_map (λ v. v.items) value))) way (c.last_change.ensures m)
