use Rattle.std.proofs.Common.{◌≡◌, ℕ, List, ap, ◌∙◌, subst}
use Rattle.std.specs.Prelude.{option_map, string_bytes}
use Rattle.bit_keys.specs.Branch.{width_of}
use Rattle.range_model.specs.Ranges.{Range}
use Rattle.batch_text.specs.SeenLine.{seen_root}
use Rattle.text_model.specs.Texts.{changes_text}
use Rattle.session_model.specs.MapsByRoot.{holds_first, changes_proved}
use Rattle.run_model.specs.OutsideThings.{disk_seen}
use Rattle.run_model.specs.Changes.{changes_outcome}
use Rattle.trie_model.specs.Maps.{Map}
use Rattle.mdb_core.specs.Stores.{DbState, held_maps, is_failed}
use Rattle.store_opening.proofs.Openings.{open_stands, untouched_keeps, first_held}
use Rattle.mdb_tool.proofs.FailedReads.{reading_fails}
use Rattle.mdb_tool.specs.MapReads.{IsLineOf}
use Rattle.mdb_tool.proofs.ReadEnds.{found_in, line_of_changes}
use Rattle.mdb_tool.proofs.changes_command.look_up.Goals as goal

pub returns-in-Err-changes_line-clause-fails : goal.returns-in-Err-changes_line-clause-fails
returns-in-Err-changes_line-clause-fails g c =
    let words = g.D.Disk.words in
    let e = c.in-Err-changes_line.ensures in
    rw c.status_of_reading.ensures
    (reading_fails (width_of c.args.branch) (disk_seen words c.args.disk.now) (disk_seen words c.open_store.new.disk) (disk_seen words c.changes_line.new.disk) c.in-Ok.db c.in-Err-changes_line.end c.in-Ok.ensures.opened c.open_store.ensures.later c.changes_line.ensures.untouched e.end)

pub returns-in-Err-changes_line-clause-opens : goal.returns-in-Err-changes_line-clause-opens
returns-in-Err-changes_line-clause-opens g c =
    let words = g.D.Disk.words in
    untouched_keeps (disk_seen words c.args.disk.now) (disk_seen words c.open_store.new.disk) (disk_seen words c.changes_line.new.disk) c.open_store.ensures.opens c.changes_line.ensures.untouched

pub returns-in-Ok-close-clause-found : goal.returns-in-Ok-close-clause-found
returns-in-Ok-close-clause-found g c =
    let words = g.D.Disk.words in
    let w = width_of c.args.branch in
    let from = seen_root c.args.asked.now.from in
    let to = seen_root c.args.asked.now.to in
    let asked = c.args.asked.now.range in
    let pairs = c.args.asked.now.pairs in
    let bytes = c.args.asked.now.bytes in
    let line = option_map string_bytes c.in-Ok-changes_line.line in
    rw c.close.ensures.disk
    (found_in (IsLineOf (changes_outcome w from to asked pairs bytes) line) w (disk_seen words c.args.disk.now) (disk_seen words c.open_store.new.disk) (disk_seen words c.changes_line.new.disk) c.in-Ok.db c.in-Ok.ensures.opened c.changes_line.ensures.untouched
    (λ tells m keeps. line_of_changes (changes_proved w (holds_first m).maps from to asked pairs bytes) line
    (subst (λ (maps : List Map). line ≡ option_map changes_text (changes_proved w maps from to asked pairs bytes)) (first_held c.in-Ok.db c.in-Ok.ensures.opened.fresh m)
    (subst (λ (r : Range). line ≡ option_map changes_text (changes_proved w (held_maps c.in-Ok.db m) from to r pairs bytes)) c.in-Ok-to_range.ensures
    (subst (λ (v : ℕ). line ≡ option_map changes_text (changes_proved v (held_maps c.in-Ok.db m) from to c.in-Ok-to_range.range pairs bytes)) c.in-Ok.ensures.opened.width (c.in-Ok-changes_line.ensures.text tells m keeps))))))

pub returns-in-Ok-close-clause-opens : goal.returns-in-Ok-close-clause-opens
returns-in-Ok-close-clause-opens g c =
    let words = g.D.Disk.words in
    rw c.close.ensures.disk
    (untouched_keeps (disk_seen words c.args.disk.now) (disk_seen words c.open_store.new.disk) (disk_seen words c.changes_line.new.disk) c.open_store.ensures.opens c.changes_line.ensures.untouched)

pub returns-clause-fails : goal.returns-clause-fails
returns-clause-fails g c =
    let same = c.in-Ok-changes_line.ensures.stays in
    let opened = c.in-Ok.ensures.opened in
    let failed = c.in-Err-close.ensures.err in
    let no : ⊥ = cc (ap (λ (s : DbState). is_failed s) same ∙ opened.works, failed.1) in
    absurd no

pub returns-clause-opens : goal.returns-clause-opens
returns-clause-opens g c =
    let words = g.D.Disk.words in
    rw c.close.ensures.disk
    (untouched_keeps (disk_seen words c.args.disk.now) (disk_seen words c.open_store.new.disk) (disk_seen words c.changes_line.new.disk) c.open_store.ensures.opens c.changes_line.ensures.untouched)

pub returns-in-Err-to_range-clause-fails : goal.returns-in-Err-to_range-clause-fails
returns-in-Err-to_range-clause-fails g c = λ told m stands. open_stands (width_of c.args.branch) (disk_seen g.D.Disk.words c.args.disk.now) (disk_seen g.D.Disk.words c.open_store.new.disk) c.in-Ok.db c.in-Ok.ensures.opened told m stands
