use Rattle.std.proofs.Common.{false, refl, ◌∙◌}
use Rattle.std.specs.Prelude.{option_map}
use Rattle.bit_keys.specs.Branch.{width_of}
use Rattle.run_model.specs.Get.{get_outcome}
use Rattle.run_model.specs.OutsideThings.{outside, disk_seen}
use Rattle.mdb_tool.specs.Ends.{end_of}
use Rattle.run_model.proofs.ToldThings.{took_nothing}
use Rattle.mdb_tool.proofs.ReadEnds.{get_shared, read_failed, read_printed, read_part, line_of_value}
use Rattle.mdb_tool.proofs.get_command.run_get.Goals as goal

pub returns-in-Err-clause-shared : goal.returns-in-Err-clause-shared
returns-in-Err-clause-shared g c = λ left reads.
    let before = outside left reads (g.K.Sink.taken c.args.out.now) (g.K.Sink.faults c.args.out.now) (disk_seen g.D.Disk.words c.args.disk.now) in
    let after = outside left reads (g.K.Sink.taken c.args.out.now) (g.K.Sink.faults c.args.out.now) (disk_seen g.D.Disk.words c.look_up.new.disk) in
    get_shared (read_failed (get_outcome c.args.key.now) (width_of c.args.branch) before after (end_of c.in-Err.status) refl (took_nothing (g.K.Sink.taken c.args.out.now)) c.in-Err.ensures.fails c.look_up.ensures.opens)

pub returns-in-Err-clause-get : goal.returns-in-Err-clause-get
returns-in-Err-clause-get g c = λ left reads.
    let before = outside left reads (g.K.Sink.taken c.args.out.now) (g.K.Sink.faults c.args.out.now) (disk_seen g.D.Disk.words c.args.disk.now) in
    let after = outside left reads (g.K.Sink.taken c.args.out.now) (g.K.Sink.faults c.args.out.now) (disk_seen g.D.Disk.words c.look_up.new.disk) in
    let promises = read_failed {names = false} (get_outcome c.args.key.now) (width_of c.args.branch) before after (end_of c.in-Err.status) refl (took_nothing (g.K.Sink.taken c.args.out.now)) c.in-Err.ensures.fails c.look_up.ensures.opens in
    promises.read

pub returns-in-Ok-write_all-clause-shared : goal.returns-in-Ok-write_all-clause-shared
returns-in-Ok-write_all-clause-shared g c = λ left reads.
    let disk = disk_seen g.D.Disk.words c.args.disk.now in
    let disk' = disk_seen g.D.Disk.words c.look_up.new.disk in
    let before = outside left reads (g.K.Sink.taken c.args.out.now) (g.K.Sink.faults c.args.out.now) disk in
    let after = outside left reads (g.K.Sink.taken c.write_all.new.out) (g.K.Sink.faults c.write_all.new.out) disk' in
    let value = option_map (λ v. v.items) c.in-Ok.value in
    let text = c.as_bytes.result.now in
    get_shared (read_printed (get_outcome c.args.key.now) (width_of c.args.branch) before after text refl
    (line_of_value c.args.key.now (width_of c.args.branch) disk disk' value text c.in-Ok.ensures.found (c.as_bytes.ensures.value ∙ c.in-Ok-value_line.ensures)) c.look_up.ensures.opens c.in-Ok-write_all.ensures.ok)

pub returns-in-Ok-write_all-clause-get : goal.returns-in-Ok-write_all-clause-get
returns-in-Ok-write_all-clause-get g c = λ left reads.
    let disk = disk_seen g.D.Disk.words c.args.disk.now in
    let disk' = disk_seen g.D.Disk.words c.look_up.new.disk in
    let before = outside left reads (g.K.Sink.taken c.args.out.now) (g.K.Sink.faults c.args.out.now) disk in
    let after = outside left reads (g.K.Sink.taken c.write_all.new.out) (g.K.Sink.faults c.write_all.new.out) disk' in
    let value = option_map (λ v. v.items) c.in-Ok.value in
    let text = c.as_bytes.result.now in
    let promises = read_printed {names = false} (get_outcome c.args.key.now) (width_of c.args.branch) before after text refl
    (line_of_value c.args.key.now (width_of c.args.branch) disk disk' value text c.in-Ok.ensures.found (c.as_bytes.ensures.value ∙ c.in-Ok-value_line.ensures)) c.look_up.ensures.opens c.in-Ok-write_all.ensures.ok in
    promises.read

pub returns-clause-shared : goal.returns-clause-shared
returns-clause-shared g c = λ left reads.
    let disk = disk_seen g.D.Disk.words c.args.disk.now in
    let disk' = disk_seen g.D.Disk.words c.look_up.new.disk in
    let before = outside left reads (g.K.Sink.taken c.args.out.now) (g.K.Sink.faults c.args.out.now) disk in
    let after = outside left reads (g.K.Sink.taken c.write_all.new.out) (g.K.Sink.faults c.write_all.new.out) disk' in
    let value = option_map (λ v. v.items) c.in-Ok.value in
    let text = c.as_bytes.result.now in
    get_shared (read_part (get_outcome c.args.key.now) (width_of c.args.branch) before after text refl
    (line_of_value c.args.key.now (width_of c.args.branch) disk disk' value text c.in-Ok.ensures.found (c.as_bytes.ensures.value ∙ c.in-Ok-value_line.ensures)) c.look_up.ensures.opens c.in-Err-write_all.ensures.err c.write_all.ensures.prefix)

pub returns-clause-get : goal.returns-clause-get
returns-clause-get g c = λ left reads.
    let disk = disk_seen g.D.Disk.words c.args.disk.now in
    let disk' = disk_seen g.D.Disk.words c.look_up.new.disk in
    let before = outside left reads (g.K.Sink.taken c.args.out.now) (g.K.Sink.faults c.args.out.now) disk in
    let after = outside left reads (g.K.Sink.taken c.write_all.new.out) (g.K.Sink.faults c.write_all.new.out) disk' in
    let value = option_map (λ v. v.items) c.in-Ok.value in
    let text = c.as_bytes.result.now in
    let promises = read_part {names = false} (get_outcome c.args.key.now) (width_of c.args.branch) before after text refl
    (line_of_value c.args.key.now (width_of c.args.branch) disk disk' value text c.in-Ok.ensures.found (c.as_bytes.ensures.value ∙ c.in-Ok-value_line.ensures)) c.look_up.ensures.opens c.in-Err-write_all.ensures.err c.write_all.ensures.prefix in
    promises.read
