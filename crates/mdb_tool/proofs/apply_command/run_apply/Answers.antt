use Rattle.std.proofs.Common.{refl}
use Rattle.bit_keys.specs.Branch.{width_of}
use Rattle.run_model.specs.OutsideThings.{outside, disk_seen}
use Rattle.store_opening.specs.Opening.{end_of_fault}
use Rattle.run_model.proofs.ToldThings.{took_nothing}
use Rattle.mdb_tool.proofs.ApplyEnds.{Scripted, apply_failed, script_done}
use Rattle.mdb_tool.proofs.apply_command.run_apply.Goals as goal

pub returns-in-Err-clause-shared : goal.returns-in-Err-clause-shared
returns-in-Err-clause-shared g c =
    let before = outside (g.S.Source.left c.args.input.now) (g.S.Source.faults c.args.input.now) (g.K.Sink.taken c.args.out.now) (g.K.Sink.faults c.args.out.now) (disk_seen g.D.Disk.words c.args.disk.now) in
    let after = outside (g.S.Source.left c.args.input.now) (g.S.Source.faults c.args.input.now) (g.K.Sink.taken c.args.out.now) (g.K.Sink.faults c.args.out.now) (disk_seen g.D.Disk.words c.open_store.new.disk) in
    let promises = apply_failed (width_of c.args.branch) before after (end_of_fault c.in-Err.fault) refl (took_nothing (g.K.Sink.taken c.args.out.now)) c.in-Err.ensures.fails c.open_store.ensures.opens in
    rw c.status_of_fault.ensures promises.shared

pub returns-in-Err-clause-apply : goal.returns-in-Err-clause-apply
returns-in-Err-clause-apply g c =
    let before = outside (g.S.Source.left c.args.input.now) (g.S.Source.faults c.args.input.now) (g.K.Sink.taken c.args.out.now) (g.K.Sink.faults c.args.out.now) (disk_seen g.D.Disk.words c.args.disk.now) in
    let after = outside (g.S.Source.left c.args.input.now) (g.S.Source.faults c.args.input.now) (g.K.Sink.taken c.args.out.now) (g.K.Sink.faults c.args.out.now) (disk_seen g.D.Disk.words c.open_store.new.disk) in
    let promises = apply_failed (width_of c.args.branch) before after (end_of_fault c.in-Err.fault) refl (took_nothing (g.K.Sink.taken c.args.out.now)) c.in-Err.ensures.fails c.open_store.ensures.opens in
    rw c.status_of_fault.ensures promises.apply

pub returns-clause-shared : goal.returns-clause-shared
returns-clause-shared g c =
    let words = g.D.Disk.words in
    let session = c.session-end.ensures in
    let before = outside (g.S.Source.left c.args.input.now) (g.S.Source.faults c.args.input.now) (g.K.Sink.taken c.args.out.now) (g.K.Sink.faults c.args.out.now) (disk_seen words c.args.disk.now) in
    let after = outside (g.S.Source.left c.session-end.new.input) (g.S.Source.faults c.session-end.new.input) (g.K.Sink.taken c.session-end.new.out) (g.K.Sink.faults c.session-end.new.out) (disk_seen words c.session-end.new.disk) in
    let scripted : Scripted (width_of c.args.branch) before (disk_seen words c.open_store.new.disk) c.in-Ok.db after c.session-end.result = record {
      opened = c.in-Ok.ensures.opened;
      keeps = c.open_store.ensures.opens;
      opened_later = c.open_store.ensures.later;
      script_runs = session.script;
      kept = session.kept;
      at_end = session.end;
      limit = session.limit;
      damaged = session.damaged;
      read = session.read;
      write = session.write;
      disk = session.disk;
    } in
    let promises = script_done (width_of c.args.branch) before (disk_seen words c.open_store.new.disk) c.in-Ok.db after c.session-end.result scripted in
    rw (c.close_store.ensures.disk, c.close_store.ensures.status, c.status_of_end.ensures) promises.shared

pub returns-clause-apply : goal.returns-clause-apply
returns-clause-apply g c =
    let words = g.D.Disk.words in
    let session = c.session-end.ensures in
    let before = outside (g.S.Source.left c.args.input.now) (g.S.Source.faults c.args.input.now) (g.K.Sink.taken c.args.out.now) (g.K.Sink.faults c.args.out.now) (disk_seen words c.args.disk.now) in
    let after = outside (g.S.Source.left c.session-end.new.input) (g.S.Source.faults c.session-end.new.input) (g.K.Sink.taken c.session-end.new.out) (g.K.Sink.faults c.session-end.new.out) (disk_seen words c.session-end.new.disk) in
    let scripted : Scripted (width_of c.args.branch) before (disk_seen words c.open_store.new.disk) c.in-Ok.db after c.session-end.result = record {
      opened = c.in-Ok.ensures.opened;
      keeps = c.open_store.ensures.opens;
      opened_later = c.open_store.ensures.later;
      script_runs = session.script;
      kept = session.kept;
      at_end = session.end;
      limit = session.limit;
      damaged = session.damaged;
      read = session.read;
      write = session.write;
      disk = session.disk;
    } in
    let promises = script_done (width_of c.args.branch) before (disk_seen words c.open_store.new.disk) c.in-Ok.db after c.session-end.result scripted in
    rw (c.close_store.ensures.disk, c.close_store.ensures.status, c.status_of_end.ensures) promises.apply
