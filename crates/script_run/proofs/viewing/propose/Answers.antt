use Rattle.std.proofs.Common.{◌≡◌, ℕ, Option, [], ap, sym, ◌∙◌, subst}
use Rattle.trie_model.specs.Maps.{root}
use Rattle.batch_model.specs.Batch.{after_batch}
use Rattle.batch_text.specs.SeenLine.{seen_place}
use Rattle.view_model.specs.Calls.{made}
use Rattle.view_model.specs.Maps.{parent_map}
use Rattle.session_model.specs.Session.{view, or_limit}
use Rattle.mdb_core.specs.Stores.{DbState, root_at}
use Rattle.mdb_core.specs.Proposals.{Makes, MakeFails}
use Rattle.store_opening.specs.Opening.{holding_of}
use Rattle.script_run.specs.ScriptSteps.{IsQuiet, session_of}
use Rattle.script_run.proofs.Views.{view_made, not_made}
use Rattle.script_run.proofs.viewing.propose.Goals as goal

pub returns-in-Ok-clause-quiet : goal.returns-in-Ok-clause-quiet
returns-in-Ok-clause-quiet g c = λ m files keeps.
    let db = c.args.db.now in
    let batch = c.args.batch in
    let parent = c.parent_of.ensures in
    let e = c.in-Ok.ensures in
    view_made db.width m db batch (seen_place c.args.place) files keeps c.view.new.self c.line_of_view.result c.in-Ok.id.number (root_at c.view.new.self.roots c.in-Ok.id.number)
    (subst (λ (p : Option ℕ). Makes db p batch) parent e.made) e.number
    (subst (λ (p : Option ℕ). root_at c.view.new.self.roots c.in-Ok.id.number ≡ root db.width (after_batch (parent_map db.forest m p) batch)) parent (e.root m keeps.digests))
    (ap (λ (d : DbState). d.forest) e.state ∙ ap (λ (p : Option ℕ). made db.forest p batch) parent)
    (ap (λ (d : DbState). holding_of d m) e.state) (c.view.ensures.keeps m files keeps) c.line_of_view.ensures

pub returns-clause-quiet : goal.returns-clause-quiet
returns-clause-quiet g c = λ m files keeps.
    let db = c.args.db.now in
    let batch = c.args.batch in
    let place = seen_place c.args.place in
    subst (λ (d : DbState). IsQuiet (or_limit (view db.width (session_of m db batch) place)) c.refuse.result d [] files) (sym c.in-Err.ensures.refused)
    (not_made db.width m db batch place files keeps c.refuse.result c.in-Err.fault c.requires.works (subst (λ (p : Option ℕ). MakeFails db p batch c.in-Err.fault) c.parent_of.ensures c.in-Err.ensures.fault) c.refuse.ensures)
