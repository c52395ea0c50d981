use Rattle.std.specs.Prelude.{map, string_bytes}
use Rattle.run_model.specs.OutsideThings.{outside, disk_seen}
use Rattle.mdb_tool.specs.Ends.{end_of}
use Rattle.mdb_tool.specs.ReadJob.{seen_job}
use Rattle.mdb_tool.proofs.RunParts.{words_complete, words_store, own_part, root_part, apply_part, get_part, prove_part, range_part, changes_part, verify_part}
use Rattle.mdb_tool.proofs.program.run.Goals as goal

pub returns-in-Ok-clause-store : goal.returns-in-Ok-clause-store
returns-in-Ok-clause-store g c =
    let before = outside (g.S.Source.left c.args.input.now) (g.S.Source.faults c.args.input.now) (g.K.Sink.taken c.args.out.now) (g.K.Sink.faults c.args.out.now) (disk_seen g.D.Disk.words c.args.disk.now) in
    let after = outside (g.S.Source.left c.run_job.new.input) (g.S.Source.faults c.run_job.new.input) (g.K.Sink.taken c.run_job.new.out) (g.K.Sink.faults c.run_job.new.out) (disk_seen g.D.Disk.words c.run_job.new.disk) in
    words_store (map string_bytes c.args.words.now) (seen_job c.in-Ok.job) before after (end_of c.run_job.result) c.in-Ok.ensures c.run_job.ensures.shared

pub returns-in-Ok-clause-complete : goal.returns-in-Ok-clause-complete
returns-in-Ok-clause-complete g c =
    let before = outside (g.S.Source.left c.args.input.now) (g.S.Source.faults c.args.input.now) (g.K.Sink.taken c.args.out.now) (g.K.Sink.faults c.args.out.now) (disk_seen g.D.Disk.words c.args.disk.now) in
    let after = outside (g.S.Source.left c.run_job.new.input) (g.S.Source.faults c.run_job.new.input) (g.K.Sink.taken c.run_job.new.out) (g.K.Sink.faults c.run_job.new.out) (disk_seen g.D.Disk.words c.run_job.new.disk) in
    words_complete (map string_bytes c.args.words.now) (seen_job c.in-Ok.job) before after (end_of c.run_job.result) c.in-Ok.ensures c.run_job.ensures.shared

pub returns-in-Ok-clause-root : goal.returns-in-Ok-clause-root
returns-in-Ok-clause-root g c =
    let before = outside (g.S.Source.left c.args.input.now) (g.S.Source.faults c.args.input.now) (g.K.Sink.taken c.args.out.now) (g.K.Sink.faults c.args.out.now) (disk_seen g.D.Disk.words c.args.disk.now) in
    let after = outside (g.S.Source.left c.run_job.new.input) (g.S.Source.faults c.run_job.new.input) (g.K.Sink.taken c.run_job.new.out) (g.K.Sink.faults c.run_job.new.out) (disk_seen g.D.Disk.words c.run_job.new.disk) in
    root_part (map string_bytes c.args.words.now) (seen_job c.in-Ok.job) before after (end_of c.run_job.result) c.in-Ok.ensures c.run_job.ensures.runs

pub returns-in-Ok-clause-apply : goal.returns-in-Ok-clause-apply
returns-in-Ok-clause-apply g c =
    let before = outside (g.S.Source.left c.args.input.now) (g.S.Source.faults c.args.input.now) (g.K.Sink.taken c.args.out.now) (g.K.Sink.faults c.args.out.now) (disk_seen g.D.Disk.words c.args.disk.now) in
    let after = outside (g.S.Source.left c.run_job.new.input) (g.S.Source.faults c.run_job.new.input) (g.K.Sink.taken c.run_job.new.out) (g.K.Sink.faults c.run_job.new.out) (disk_seen g.D.Disk.words c.run_job.new.disk) in
    apply_part (map string_bytes c.args.words.now) (seen_job c.in-Ok.job) before after (end_of c.run_job.result) c.in-Ok.ensures c.run_job.ensures.runs

pub returns-in-Ok-clause-get : goal.returns-in-Ok-clause-get
returns-in-Ok-clause-get g c =
    let before = outside (g.S.Source.left c.args.input.now) (g.S.Source.faults c.args.input.now) (g.K.Sink.taken c.args.out.now) (g.K.Sink.faults c.args.out.now) (disk_seen g.D.Disk.words c.args.disk.now) in
    let after = outside (g.S.Source.left c.run_job.new.input) (g.S.Source.faults c.run_job.new.input) (g.K.Sink.taken c.run_job.new.out) (g.K.Sink.faults c.run_job.new.out) (disk_seen g.D.Disk.words c.run_job.new.disk) in
    get_part (map string_bytes c.args.words.now) (seen_job c.in-Ok.job) before after (end_of c.run_job.result) c.in-Ok.ensures c.run_job.ensures.runs

pub returns-in-Ok-clause-prove : goal.returns-in-Ok-clause-prove
returns-in-Ok-clause-prove g c =
    let before = outside (g.S.Source.left c.args.input.now) (g.S.Source.faults c.args.input.now) (g.K.Sink.taken c.args.out.now) (g.K.Sink.faults c.args.out.now) (disk_seen g.D.Disk.words c.args.disk.now) in
    let after = outside (g.S.Source.left c.run_job.new.input) (g.S.Source.faults c.run_job.new.input) (g.K.Sink.taken c.run_job.new.out) (g.K.Sink.faults c.run_job.new.out) (disk_seen g.D.Disk.words c.run_job.new.disk) in
    prove_part (map string_bytes c.args.words.now) (seen_job c.in-Ok.job) before after (end_of c.run_job.result) c.in-Ok.ensures c.run_job.ensures.runs

pub returns-in-Ok-clause-range : goal.returns-in-Ok-clause-range
returns-in-Ok-clause-range g c =
    let before = outside (g.S.Source.left c.args.input.now) (g.S.Source.faults c.args.input.now) (g.K.Sink.taken c.args.out.now) (g.K.Sink.faults c.args.out.now) (disk_seen g.D.Disk.words c.args.disk.now) in
    let after = outside (g.S.Source.left c.run_job.new.input) (g.S.Source.faults c.run_job.new.input) (g.K.Sink.taken c.run_job.new.out) (g.K.Sink.faults c.run_job.new.out) (disk_seen g.D.Disk.words c.run_job.new.disk) in
    range_part (map string_bytes c.args.words.now) (seen_job c.in-Ok.job) before after (end_of c.run_job.result) c.in-Ok.ensures c.run_job.ensures.runs

pub returns-in-Ok-clause-changes : goal.returns-in-Ok-clause-changes
returns-in-Ok-clause-changes g c =
    let before = outside (g.S.Source.left c.args.input.now) (g.S.Source.faults c.args.input.now) (g.K.Sink.taken c.args.out.now) (g.K.Sink.faults c.args.out.now) (disk_seen g.D.Disk.words c.args.disk.now) in
    let after = outside (g.S.Source.left c.run_job.new.input) (g.S.Source.faults c.run_job.new.input) (g.K.Sink.taken c.run_job.new.out) (g.K.Sink.faults c.run_job.new.out) (disk_seen g.D.Disk.words c.run_job.new.disk) in
    changes_part (map string_bytes c.args.words.now) (seen_job c.in-Ok.job) before after (end_of c.run_job.result) c.in-Ok.ensures c.run_job.ensures.runs

pub returns-in-Ok-clause-verify : goal.returns-in-Ok-clause-verify
returns-in-Ok-clause-verify g c =
    let before = outside (g.S.Source.left c.args.input.now) (g.S.Source.faults c.args.input.now) (g.K.Sink.taken c.args.out.now) (g.K.Sink.faults c.args.out.now) (disk_seen g.D.Disk.words c.args.disk.now) in
    let after = outside (g.S.Source.left c.run_job.new.input) (g.S.Source.faults c.run_job.new.input) (g.K.Sink.taken c.run_job.new.out) (g.K.Sink.faults c.run_job.new.out) (disk_seen g.D.Disk.words c.run_job.new.disk) in
    verify_part (map string_bytes c.args.words.now) (seen_job c.in-Ok.job) before after (end_of c.run_job.result) c.in-Ok.ensures c.run_job.ensures.runs

pub returns-in-Ok-clause-own : goal.returns-in-Ok-clause-own
returns-in-Ok-clause-own g c =
    let before = outside (g.S.Source.left c.args.input.now) (g.S.Source.faults c.args.input.now) (g.K.Sink.taken c.args.out.now) (g.K.Sink.faults c.args.out.now) (disk_seen g.D.Disk.words c.args.disk.now) in
    let after = outside (g.S.Source.left c.run_job.new.input) (g.S.Source.faults c.run_job.new.input) (g.K.Sink.taken c.run_job.new.out) (g.K.Sink.faults c.run_job.new.out) (disk_seen g.D.Disk.words c.run_job.new.disk) in
    own_part (map string_bytes c.args.words.now) (seen_job c.in-Ok.job) before after (end_of c.run_job.result) c.in-Ok.ensures c.run_job.ensures.shared
