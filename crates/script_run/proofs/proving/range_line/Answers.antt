use Rattle.std.proofs.Common.{◌≡◌, Option, Some, option_map, sym, ap, ◌∙◌, subst}
use Rattle.trie_model.specs.Maps.{Map}
use Rattle.proof_model.specs.RangeProofs.{range_proof}
use Rattle.proof_model.specs.RangeWire.{range_form}
use Rattle.text_model.specs.Texts.{range_text}
use Rattle.session_model.specs.MapsByRoot.{range_proof_of, named}
use Rattle.batch_text.specs.SeenLine.{seen_root}
use Rattle.mdb_core.specs.Stores.{DbState, Keeps, held_maps}
use Rattle.mdb_core.specs.Spots.{IsSpotOf}
use Rattle.mdb_core.proofs.StoreFiles.{kept_same}
use Rattle.mdb_core.specs.declared.spot.Spot.{Spot}
use Rattle.script_run.specs.NamedSpots.{IsSpotNamed}
use Rattle.script_run.proofs.HeldMaps.{none_of, one_of}
use Rattle.script_run.proofs.proving.range_line.Goals as goal

pub returns-in-Ok-None-clause-text : goal.returns-in-Ok-None-clause-text
returns-in-Ok-None-clause-text g c = λ tells m keeps.
    let db = c.args.db.now in
    let o = named db.width (held_maps db m) (seen_root c.args.root) in
    let none = none_of db m o (subst (λ (s : Option Spot). IsSpotNamed db m s o) c.in-Ok-None.field-0-is (c.in-Ok-None.ensures.spot m _ keeps)) in
    ap (λ (x : Option Map). option_map range_text (option_map (range_proof_of db.width c.args.range.now c.args.pairs c.args.bytes) x)) (sym none)

pub returns-in-Ok-line_of_range-clause-text : goal.returns-in-Ok-line_of_range-clause-text
returns-in-Ok-line_of_range-clause-text g c = λ tells m keeps.
    let db = c.args.db.now in
    let db' = c.spot_of.new.db in
    let files = g.D.Disk.words.seen c.args.disk.now in
    let files' = g.D.Disk.words.seen c.spot_of.new.disk in
    let o = named db.width (held_maps db m) (seen_root c.args.root) in
    let n = one_of db m c.in-Ok-Some.spot o (subst (λ (s : Option Spot). IsSpotNamed db m s o) c.in-Ok-Some.field-0-is (c.in-Ok-Some.ensures.spot m _ keeps)) in
    let lent = subst (λ (s : DbState). Keeps s m files') (sym c.spot_of.ensures.stays) (kept_same db m files files' (ap g.D.Disk.words.seen c.spot_of.ensures.disk) keeps) in
    let there = subst (λ (s : DbState). IsSpotOf s m c.in-Ok-Some.spot n.0) (sym c.spot_of.ensures.stays) n.2 in
    let made = subst (λ (s : DbState). c.in-Ok.proof ≡ range_proof s.width n.0 c.args.range.now c.args.pairs c.args.bytes) c.spot_of.ensures.stays (c.in-Ok.ensures.proof tells m n.0 lent there) in
    ap Some c.in-Ok-line_of_range.ensures
    ∙ ap (λ x. Some (range_text (range_form x))) made
    ∙ ap (λ (x : Option Map). option_map range_text (option_map (range_proof_of db.width c.args.range.now c.args.pairs c.args.bytes) x)) (sym n.1)
