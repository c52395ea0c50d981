use Rattle.std.proofs.Common.{true, ℕ, List, Option, Some, refl, sym, subst}
use Rattle.std.specs.Prelude.{String, option_map, string_bytes}
use Rattle.std.specs.Global.{Global}
use Rattle.batch_text.specs.SeenLine.{seen_root}
use Rattle.bit_keys.specs.Branch.{width_of}
use Rattle.run_model.specs.Changes.{changes_outcome}
use Rattle.run_model.specs.OutsideThings.{outside, disk_seen}
use Rattle.run_model.specs.End.{Done, NotHeld, Write}
use Rattle.mdb_tool.specs.Ends.{end_of}
use Rattle.mdb_tool.specs.MapReads.{Finds, IsLineOf}
use Rattle.run_model.proofs.ToldThings.{took_nothing}
use Rattle.mdb_tool.proofs.ReadEnds.{ReadPromises, changes_shared, read_failed, read_printed, read_not_held, read_part}
use Rattle.mdb_tool.proofs.changes_command.run_changes.Goals as goal

pub returns-in-Err-clause-shared : goal.returns-in-Err-clause-shared
returns-in-Err-clause-shared g c = λ left reads.
    let before = outside left reads (g.K.Sink.taken c.args.out.now) (g.K.Sink.faults c.args.out.now) (disk_seen g.D.Disk.words c.args.disk.now) in
    let after = outside left reads (g.K.Sink.taken c.args.out.now) (g.K.Sink.faults c.args.out.now) (disk_seen g.D.Disk.words c.look_up.new.disk) in
    changes_shared (read_failed (changes_outcome (width_of c.args.branch) (seen_root c.args.asked.now.from) (seen_root c.args.asked.now.to) c.args.asked.now.range c.args.asked.now.pairs c.args.asked.now.bytes) (width_of c.args.branch) before after (end_of c.in-Err.status) refl (took_nothing (g.K.Sink.taken c.args.out.now)) c.in-Err.ensures.fails c.look_up.ensures.opens)

pub returns-in-Err-clause-changes : goal.returns-in-Err-clause-changes
returns-in-Err-clause-changes g c = λ left reads.
    let before = outside left reads (g.K.Sink.taken c.args.out.now) (g.K.Sink.faults c.args.out.now) (disk_seen g.D.Disk.words c.args.disk.now) in
    let after = outside left reads (g.K.Sink.taken c.args.out.now) (g.K.Sink.faults c.args.out.now) (disk_seen g.D.Disk.words c.look_up.new.disk) in
    let promises = read_failed {names = true} (changes_outcome (width_of c.args.branch) (seen_root c.args.asked.now.from) (seen_root c.args.asked.now.to) c.args.asked.now.range c.args.asked.now.pairs c.args.asked.now.bytes) (width_of c.args.branch) before after (end_of c.in-Err.status) refl (took_nothing (g.K.Sink.taken c.args.out.now)) c.in-Err.ensures.fails c.look_up.ensures.opens in
    promises.read

pub returns-in-Ok-None-clause-shared : goal.returns-in-Ok-None-clause-shared
returns-in-Ok-None-clause-shared g c = λ left reads.
    let w = width_of c.args.branch in
    let outcome = changes_outcome w (seen_root c.args.asked.now.from) (seen_root c.args.asked.now.to) c.args.asked.now.range c.args.asked.now.pairs c.args.asked.now.bytes in
    let disk = disk_seen g.D.Disk.words c.args.disk.now in
    let disk' = disk_seen g.D.Disk.words c.look_up.new.disk in
    let before = outside left reads (g.K.Sink.taken c.args.out.now) (g.K.Sink.faults c.args.out.now) disk in
    let after = outside left reads (g.K.Sink.taken c.args.out.now) (g.K.Sink.faults c.args.out.now) disk' in
    let found = subst (λ (o : Option (String Global)). Finds (IsLineOf outcome (option_map string_bytes o)) w disk disk') c.in-Ok-None.field-0-is c.in-Ok-None.ensures.found in
    let promises : ReadPromises true outcome w before after NotHeld = read_not_held outcome w before after refl found c.look_up.ensures.opens (took_nothing (g.K.Sink.taken c.args.out.now)) in
    changes_shared promises

pub returns-in-Ok-None-clause-changes : goal.returns-in-Ok-None-clause-changes
returns-in-Ok-None-clause-changes g c = λ left reads.
    let w = width_of c.args.branch in
    let outcome = changes_outcome w (seen_root c.args.asked.now.from) (seen_root c.args.asked.now.to) c.args.asked.now.range c.args.asked.now.pairs c.args.asked.now.bytes in
    let disk = disk_seen g.D.Disk.words c.args.disk.now in
    let disk' = disk_seen g.D.Disk.words c.look_up.new.disk in
    let before = outside left reads (g.K.Sink.taken c.args.out.now) (g.K.Sink.faults c.args.out.now) disk in
    let after = outside left reads (g.K.Sink.taken c.args.out.now) (g.K.Sink.faults c.args.out.now) disk' in
    let found = subst (λ (o : Option (String Global)). Finds (IsLineOf outcome (option_map string_bytes o)) w disk disk') c.in-Ok-None.field-0-is c.in-Ok-None.ensures.found in
    let promises : ReadPromises true outcome w before after NotHeld = read_not_held outcome w before after refl found c.look_up.ensures.opens (took_nothing (g.K.Sink.taken c.args.out.now)) in
    promises.read

pub returns-in-Ok-clause-shared : goal.returns-in-Ok-clause-shared
returns-in-Ok-clause-shared g c = λ left reads.
    let w = width_of c.args.branch in
    let outcome = changes_outcome w (seen_root c.args.asked.now.from) (seen_root c.args.asked.now.to) c.args.asked.now.range c.args.asked.now.pairs c.args.asked.now.bytes in
    let disk = disk_seen g.D.Disk.words c.args.disk.now in
    let disk' = disk_seen g.D.Disk.words c.look_up.new.disk in
    let before = outside left reads (g.K.Sink.taken c.args.out.now) (g.K.Sink.faults c.args.out.now) disk in
    let after = outside left reads (g.K.Sink.taken c.write_all.new.out) (g.K.Sink.faults c.write_all.new.out) disk' in
    let text = c.as_bytes.result.now in
    let line = subst (λ (o : Option (String Global)). Finds (IsLineOf outcome (option_map string_bytes o)) w disk disk') c.in-Ok-Some.field-0-is c.in-Ok-Some.ensures.found in
    let found = subst (λ (t : List ℕ). Finds (IsLineOf outcome (Some t)) w disk disk') (sym c.as_bytes.ensures.value) line in
    let promises : ReadPromises true outcome w before after Done = read_printed outcome w before after text refl found c.look_up.ensures.opens c.in-Ok.ensures.ok in
    changes_shared promises

pub returns-in-Ok-clause-changes : goal.returns-in-Ok-clause-changes
returns-in-Ok-clause-changes g c = λ left reads.
    let w = width_of c.args.branch in
    let outcome = changes_outcome w (seen_root c.args.asked.now.from) (seen_root c.args.asked.now.to) c.args.asked.now.range c.args.asked.now.pairs c.args.asked.now.bytes in
    let disk = disk_seen g.D.Disk.words c.args.disk.now in
    let disk' = disk_seen g.D.Disk.words c.look_up.new.disk in
    let before = outside left reads (g.K.Sink.taken c.args.out.now) (g.K.Sink.faults c.args.out.now) disk in
    let after = outside left reads (g.K.Sink.taken c.write_all.new.out) (g.K.Sink.faults c.write_all.new.out) disk' in
    let text = c.as_bytes.result.now in
    let line = subst (λ (o : Option (String Global)). Finds (IsLineOf outcome (option_map string_bytes o)) w disk disk') c.in-Ok-Some.field-0-is c.in-Ok-Some.ensures.found in
    let found = subst (λ (t : List ℕ). Finds (IsLineOf outcome (Some t)) w disk disk') (sym c.as_bytes.ensures.value) line in
    let promises : ReadPromises true outcome w before after Done = read_printed outcome w before after text refl found c.look_up.ensures.opens c.in-Ok.ensures.ok in
    promises.read

pub returns-clause-shared : goal.returns-clause-shared
returns-clause-shared g c = λ left reads.
    let w = width_of c.args.branch in
    let outcome = changes_outcome w (seen_root c.args.asked.now.from) (seen_root c.args.asked.now.to) c.args.asked.now.range c.args.asked.now.pairs c.args.asked.now.bytes in
    let disk = disk_seen g.D.Disk.words c.args.disk.now in
    let disk' = disk_seen g.D.Disk.words c.look_up.new.disk in
    let before = outside left reads (g.K.Sink.taken c.args.out.now) (g.K.Sink.faults c.args.out.now) disk in
    let after = outside left reads (g.K.Sink.taken c.write_all.new.out) (g.K.Sink.faults c.write_all.new.out) disk' in
    let text = c.as_bytes.result.now in
    let line = subst (λ (o : Option (String Global)). Finds (IsLineOf outcome (option_map string_bytes o)) w disk disk') c.in-Ok-Some.field-0-is c.in-Ok-Some.ensures.found in
    let found = subst (λ (t : List ℕ). Finds (IsLineOf outcome (Some t)) w disk disk') (sym c.as_bytes.ensures.value) line in
    let promises : ReadPromises true outcome w before after Write = read_part outcome w before after text refl found c.look_up.ensures.opens c.in-Err-write_all.ensures.err c.write_all.ensures.prefix in
    changes_shared promises

pub returns-clause-changes : goal.returns-clause-changes
returns-clause-changes g c = λ left reads.
    let w = width_of c.args.branch in
    let outcome = changes_outcome w (seen_root c.args.asked.now.from) (seen_root c.args.asked.now.to) c.args.asked.now.range c.args.asked.now.pairs c.args.asked.now.bytes in
    let disk = disk_seen g.D.Disk.words c.args.disk.now in
    let disk' = disk_seen g.D.Disk.words c.look_up.new.disk in
    let before = outside left reads (g.K.Sink.taken c.args.out.now) (g.K.Sink.faults c.args.out.now) disk in
    let after = outside left reads (g.K.Sink.taken c.write_all.new.out) (g.K.Sink.faults c.write_all.new.out) disk' in
    let text = c.as_bytes.result.now in
    let line = subst (λ (o : Option (String Global)). Finds (IsLineOf outcome (option_map string_bytes o)) w disk disk') c.in-Ok-Some.field-0-is c.in-Ok-Some.ensures.found in
    let found = subst (λ (t : List ℕ). Finds (IsLineOf outcome (Some t)) w disk disk') (sym c.as_bytes.ensures.value) line in
    let promises : ReadPromises true outcome w before after Write = read_part outcome w before after text refl found c.look_up.ensures.opens c.in-Err-write_all.ensures.err c.write_all.ensures.prefix in
    promises.read
