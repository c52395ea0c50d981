use Rattle.std.proofs.Common.{◌≡◌, subst}
use Rattle.std.specs.FinMap as map_of
use Rattle.std.specs.Prelude.{option_map, IfSome}
use Rattle.view_model.specs.Maps.{parent_map}
use Rattle.session_model.specs.Session.{view_at}
use Rattle.batch_text.specs.SeenLine.{seen_place}
use Rattle.script_run.proofs.Views.{value_read, value_unread}
use Rattle.script_run.proofs.telling.get.Goals as goal

pub returns-in-Ok-clause-text : goal.returns-in-Ok-clause-text
returns-in-Ok-clause-text g c = λ tells m keeps.
    let db = c.args.db.now in
    let place = seen_place c.args.place in
    let value = option_map (λ v. v.items) c.in-Ok.value in
    let read : value ≡ map_of.get (parent_map db.forest m (view_at place)) c.args.key.now = subst (λ o. IfSome o (λ n. value ≡ map_of.get n c.args.key.now)) (c.place_at.ensures.map db m) (c.in-Ok.ensures.value tells m keeps) in
    value_read m db place c.args.key.now c.place_at.result value c.value_line.result c.place_at.ensures.number c.in-Ok.ensures.may.admitted read c.value_line.ensures

pub returns-in-Err-clause-text : goal.returns-in-Err-clause-text
returns-in-Err-clause-text g c = λ tells m keeps.
    let db = c.args.db.now in
    value_unread m db (seen_place c.args.place) c.args.key.now c.place_at.result c.refuse.result c.place_at.ensures.number c.in-Err.fault c.requires
    (c.place_at.ensures.named db) c.in-Err.ensures.fault c.refuse.ensures
