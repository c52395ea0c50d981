use Rattle.std.proofs.Common.{Option, Some, None, sym, ◌∙◌, subst}
use Rattle.std.specs.Prelude.{IfSome}
use Rattle.trie_model.specs.Maps.{Map}
use Rattle.history_model.specs.Held.{with_root}
use Rattle.batch_text.specs.SeenLine.{seen_root}
use Rattle.mdb_core.specs.Stores.{DbState, held_maps}
use Rattle.mdb_core.specs.Spots.{IsSpotOf}
use Rattle.mdb_core.specs.Places.{GetFails}
use Rattle.script_run.specs.NamedSpots.{IsSpotNamed}
use Rattle.script_run.proofs.HeldMaps.{none_meant, some_meant, not_named, spot_named}
use Rattle.script_run.proofs.proving.spot_of.Goals as goal

pub returns-in_default-clause-spot : goal.returns-in_default-clause-spot
returns-in_default-clause-spot g c = λ m files keeps.
    let db = c.args.db.now in
    let none = none_meant db.width (held_maps db m) (seen_root c.args.root) (sym c.in_default.is ∙ c.root_of.ensures m files keeps) in
    subst (λ (o : Option Map). IsSpotNamed db m None o) (sym none) tt

pub returns-in-Ok-clause-spot : goal.returns-in-Ok-clause-spot
returns-in-Ok-clause-spot g c = λ m files keeps.
    let db = c.args.db.now in
    let is = some_meant db.width (held_maps db m) (seen_root c.args.root) c.in-Some.id (sym c.in-Some.is ∙ c.root_of.ensures m files keeps) in
    let spot = subst (λ (s : DbState). IfSome (with_root db.width (held_maps db m) c.in-Some.id) (IsSpotOf s m c.in-Ok.spot)) c.source.ensures.stays (c.in-Ok.ensures.spot m (record { digests = keeps.digests; past = keeps.history })) in
    subst (λ (o : Option Map). IsSpotNamed db m (Some c.in-Ok.spot) o) (sym is) (spot_named db m files keeps c.in-Some.id c.in-Ok.spot c.in-Ok.ensures.may.held spot)

pub returns-in-Err-NotHeld-clause-spot : goal.returns-in-Err-NotHeld-clause-spot
returns-in-Err-NotHeld-clause-spot g c = λ m files keeps.
    let db = c.args.db.now in
    let is = some_meant db.width (held_maps db m) (seen_root c.args.root) c.in-Some.id (sym c.in-Some.is ∙ c.root_of.ensures m files keeps) in
    let why = subst (GetFails db _) c.in-Err-NotHeld.field-0-is c.in-Err-NotHeld.ensures.fault in
    subst (λ (o : Option Map). IsSpotNamed db m None o) (sym (is ∙ not_named db m files keeps c.in-Some.id why.1)) tt
