use Rattle.std.proofs.Common.{◌≡◌, ℕ, List, ap, ◌∙◌, subst}
use Rattle.std.specs.Prelude.{option_map, string_bytes}
use Rattle.bit_keys.specs.Branch.{width_of}
use Rattle.batch_text.specs.SeenLine.{seen_root}
use Rattle.text_model.specs.Texts.{proof_text}
use Rattle.session_model.specs.MapsByRoot.{holds_first, proved}
use Rattle.run_model.specs.OutsideThings.{disk_seen}
use Rattle.run_model.specs.Prove.{prove_outcome}
use Rattle.trie_model.specs.Maps.{Map}
use Rattle.mdb_core.specs.Stores.{DbState, held_maps, is_failed}
use Rattle.store_opening.proofs.Openings.{untouched_keeps, first_held}
use Rattle.mdb_tool.proofs.FailedReads.{reading_fails}
use Rattle.mdb_tool.specs.MapReads.{IsLineOf}
use Rattle.mdb_tool.proofs.ReadEnds.{found_in, line_of_proof}
use Rattle.mdb_tool.proofs.prove_command.look_up.Goals as goal

pub returns-in-Err-proof_line-clause-fails : goal.returns-in-Err-proof_line-clause-fails
returns-in-Err-proof_line-clause-fails g c =
    let words = g.D.Disk.words in
    let e = c.in-Err-proof_line.ensures in
    rw c.status_of_reading.ensures
    (reading_fails (width_of c.args.branch) (disk_seen words c.args.disk.now) (disk_seen words c.open_store.new.disk) (disk_seen words c.proof_line.new.disk) c.in-Ok.db c.in-Err-proof_line.end c.in-Ok.ensures.opened c.open_store.ensures.later c.proof_line.ensures.untouched e.end)

pub returns-in-Err-proof_line-clause-opens : goal.returns-in-Err-proof_line-clause-opens
returns-in-Err-proof_line-clause-opens g c =
    let words = g.D.Disk.words in
    untouched_keeps (disk_seen words c.args.disk.now) (disk_seen words c.open_store.new.disk) (disk_seen words c.proof_line.new.disk) c.open_store.ensures.opens c.proof_line.ensures.untouched

pub returns-in-Ok-close-clause-found : goal.returns-in-Ok-close-clause-found
returns-in-Ok-close-clause-found g c =
    let words = g.D.Disk.words in
    let w = width_of c.args.branch in
    let root = seen_root c.args.root in
    let key = c.args.key.now in
    let line = option_map string_bytes c.in-Ok-proof_line.line in
    rw c.close.ensures.disk
    (found_in (IsLineOf (prove_outcome w root key) line) w (disk_seen words c.args.disk.now) (disk_seen words c.open_store.new.disk) (disk_seen words c.proof_line.new.disk) c.in-Ok.db c.in-Ok.ensures.opened c.proof_line.ensures.untouched
    (λ tells m keeps. line_of_proof (proved w (holds_first m).maps root key) line
    (subst (λ (maps : List Map). line ≡ option_map proof_text (proved w maps root key)) (first_held c.in-Ok.db c.in-Ok.ensures.opened.fresh m)
    (subst (λ (v : ℕ). line ≡ option_map proof_text (proved v (held_maps c.in-Ok.db m) root key)) c.in-Ok.ensures.opened.width (c.in-Ok-proof_line.ensures.text tells m keeps)))))

pub returns-in-Ok-close-clause-opens : goal.returns-in-Ok-close-clause-opens
returns-in-Ok-close-clause-opens g c =
    let words = g.D.Disk.words in
    rw c.close.ensures.disk
    (untouched_keeps (disk_seen words c.args.disk.now) (disk_seen words c.open_store.new.disk) (disk_seen words c.proof_line.new.disk) c.open_store.ensures.opens c.proof_line.ensures.untouched)

pub returns-in-Err-close-clause-fails : goal.returns-in-Err-close-clause-fails
returns-in-Err-close-clause-fails g c =
    let same = c.in-Ok-proof_line.ensures.stays in
    let opened = c.in-Ok.ensures.opened in
    let failed = c.in-Err-close.ensures.err in
    let no : ⊥ = cc (ap (λ (s : DbState). is_failed s) same ∙ opened.works, failed.1) in
    absurd no

pub returns-in-Err-close-clause-opens : goal.returns-in-Err-close-clause-opens
returns-in-Err-close-clause-opens g c =
    let words = g.D.Disk.words in
    rw c.close.ensures.disk
    (untouched_keeps (disk_seen words c.args.disk.now) (disk_seen words c.open_store.new.disk) (disk_seen words c.proof_line.new.disk) c.open_store.ensures.opens c.proof_line.ensures.untouched)
