use Rattle.std.proofs.Common.{Option, Some, None, sym, ap, ◌∙◌, subst}
use Rattle.proof_model.specs.ChangeProofs.{ChangeProof}
use Rattle.session_model.specs.MapsByRoot.{between}
use Rattle.batch_text.specs.SeenLine.{seen_root}
use Rattle.mdb_core.specs.Stores.{held_maps}
use Rattle.script_run.specs.NamedSpots.{IsProofBetween}
use Rattle.script_run.proofs.HeldMaps.{no_former, no_later, line_between}
use Rattle.script_run.proofs.changing.changes_line.Goals as goal

pub returns-in_default-clause-text : goal.returns-in_default-clause-text
returns-in_default-clause-text g c = λ tells m keeps.
    let db = c.args.db.now in
    no_former db.width (held_maps db m) c.args.range.now c.args.pairs c.args.bytes (seen_root c.args.from) (seen_root c.args.to) (sym c.in_default.is ∙ c.root_of.ensures m _ keeps)

pub returns-in_default-root_of-clause-text : goal.returns-in_default-root_of-clause-text
returns-in_default-root_of-clause-text g c = λ tells m keeps.
    let db = c.args.db.now in
    no_later db.width (held_maps db m) c.args.range.now c.args.pairs c.args.bytes (seen_root c.args.from) (seen_root c.args.to) c.in-Some.from (sym c.in-Some.is ∙ c.root_of.ensures m _ keeps) (sym c.in_default-root_of.is ∙ c.root_of-2.ensures m _ keeps)

pub returns-in-Ok-None-clause-text : goal.returns-in-Ok-None-clause-text
returns-in-Ok-None-clause-text g c = λ tells m keeps.
    let db = c.args.db.now in
    let w = db.width in
    let maps = held_maps db m in
    let from = c.in-Some.from in
    let to = c.in-Some-root_of.to in
    line_between w maps c.args.range.now c.args.pairs c.args.bytes (seen_root c.args.from) (seen_root c.args.to) from to None (sym c.in-Some.is ∙ c.root_of.ensures m _ keeps) (sym c.in-Some-root_of.is ∙ c.root_of-2.ensures m _ keeps)
    (subst (λ (o : Option ChangeProof). IsProofBetween w c.args.range.now c.args.pairs c.args.bytes (between w maps from to) o) c.in-Ok-None.field-0-is (c.in-Ok-None.ensures.proof tells m keeps))

pub returns-in-Ok-clause-text : goal.returns-in-Ok-clause-text
returns-in-Ok-clause-text g c = λ tells m keeps.
    let db = c.args.db.now in
    let w = db.width in
    let maps = held_maps db m in
    let from = c.in-Some.from in
    let to = c.in-Some-root_of.to in
    let proof = c.in-Ok-Some.proof in
    let made = line_between w maps c.args.range.now c.args.pairs c.args.bytes (seen_root c.args.from) (seen_root c.args.to) from to (Some proof) (sym c.in-Some.is ∙ c.root_of.ensures m _ keeps) (sym c.in-Some-root_of.is ∙ c.root_of-2.ensures m _ keeps)
    (subst (λ (o : Option ChangeProof). IsProofBetween w c.args.range.now c.args.pairs c.args.bytes (between w maps from to) o) c.in-Ok-Some.field-0-is (c.in-Ok-Some.ensures.proof tells m keeps)) in
    ap Some c.in-Ok.ensures ∙ made
