use Rattle.std.proofs.Common.{ℕ, List, sym, subst}
use Rattle.bit_keys.specs.Branch.{width_of}
use Rattle.run_model.specs.Command.{Get, Prove}
use Rattle.run_model.specs.OutsideThings.{outside, disk_seen}
use Rattle.run_model.specs.Get.{GetRuns}
use Rattle.run_model.specs.Prove.{ProveRuns}
use Rattle.batch_text.specs.SeenLine.{seen_root}
use Rattle.run_model.specs.Runs.{command_runs, SharedRuns}
use Rattle.mdb_tool.specs.declared.job.Command.{Command}
use Rattle.mdb_tool.specs.Ends.{end_of}
use Rattle.mdb_tool.specs.ReadJob.{seen_command}
use Rattle.mdb_tool.proofs.program.run_job.Goals as goal

pub returns-in-Root-clause-shared : goal.returns-in-Root-clause-shared
returns-in-Root-clause-shared g c =
    let disk = disk_seen g.D.Disk.words c.args.disk.now in
    let before = outside (g.S.Source.left c.args.input.now) (g.S.Source.faults c.args.input.now) (g.K.Sink.taken c.args.out.now) (g.K.Sink.faults c.args.out.now) disk in
    let after = outside (g.S.Source.left c.run_root.new.input) (g.S.Source.faults c.run_root.new.input) (g.K.Sink.taken c.run_root.new.out) (g.K.Sink.faults c.run_root.new.out) disk in
    subst (λ (command : Command). SharedRuns (seen_command command) (width_of c.args.job.branch) before after (end_of c.run_root.result)) (sym c.in-Root.is) (c.run_root.ensures.shared disk)

pub returns-in-Get-clause-shared : goal.returns-in-Get-clause-shared
returns-in-Get-clause-shared g c =
    let w = width_of c.args.job.branch in
    let left = g.S.Source.left c.args.input.now in
    let reads = g.S.Source.faults c.args.input.now in
    let before = outside left reads (g.K.Sink.taken c.args.out.now) (g.K.Sink.faults c.args.out.now) (disk_seen g.D.Disk.words c.args.disk.now) in
    let after = outside left reads (g.K.Sink.taken c.run_get.new.out) (g.K.Sink.faults c.run_get.new.out) (disk_seen g.D.Disk.words c.run_get.new.disk) in
    let runs = subst (λ (key : List ℕ). SharedRuns (Get key) w before after (end_of c.run_get.result)) c.as_slice.ensures (c.run_get.ensures.shared left reads) in
    subst (λ (command : Command). SharedRuns (seen_command command) w before after (end_of c.run_get.result)) (sym c.in-Get.is) runs

pub returns-in-Get-clause-runs : goal.returns-in-Get-clause-runs
returns-in-Get-clause-runs g c =
    let w = width_of c.args.job.branch in
    let left = g.S.Source.left c.args.input.now in
    let reads = g.S.Source.faults c.args.input.now in
    let before = outside left reads (g.K.Sink.taken c.args.out.now) (g.K.Sink.faults c.args.out.now) (disk_seen g.D.Disk.words c.args.disk.now) in
    let after = outside left reads (g.K.Sink.taken c.run_get.new.out) (g.K.Sink.faults c.run_get.new.out) (disk_seen g.D.Disk.words c.run_get.new.disk) in
    let runs = subst (λ (key : List ℕ). GetRuns key w before after (end_of c.run_get.result)) c.as_slice.ensures (c.run_get.ensures.get left reads) in
    subst (λ (command : Command). command_runs (seen_command command) w before after (end_of c.run_get.result)) (sym c.in-Get.is) runs

pub returns-in-Prove-clause-shared : goal.returns-in-Prove-clause-shared
returns-in-Prove-clause-shared g c =
    let w = width_of c.args.job.branch in
    let left = g.S.Source.left c.args.input.now in
    let reads = g.S.Source.faults c.args.input.now in
    let before = outside left reads (g.K.Sink.taken c.args.out.now) (g.K.Sink.faults c.args.out.now) (disk_seen g.D.Disk.words c.args.disk.now) in
    let after = outside left reads (g.K.Sink.taken c.run_prove.new.out) (g.K.Sink.faults c.run_prove.new.out) (disk_seen g.D.Disk.words c.run_prove.new.disk) in
    let runs = subst (λ (key : List ℕ). SharedRuns (Prove (seen_root c.in-Prove.root) key) w before after (end_of c.run_prove.result)) c.as_slice-in-Prove.ensures (c.run_prove.ensures.shared left reads) in
    subst (λ (command : Command). SharedRuns (seen_command command) w before after (end_of c.run_prove.result)) (sym c.in-Prove.is) runs

pub returns-in-Prove-clause-runs : goal.returns-in-Prove-clause-runs
returns-in-Prove-clause-runs g c =
    let w = width_of c.args.job.branch in
    let left = g.S.Source.left c.args.input.now in
    let reads = g.S.Source.faults c.args.input.now in
    let before = outside left reads (g.K.Sink.taken c.args.out.now) (g.K.Sink.faults c.args.out.now) (disk_seen g.D.Disk.words c.args.disk.now) in
    let after = outside left reads (g.K.Sink.taken c.run_prove.new.out) (g.K.Sink.faults c.run_prove.new.out) (disk_seen g.D.Disk.words c.run_prove.new.disk) in
    let runs = subst (λ (key : List ℕ). ProveRuns (seen_root c.in-Prove.root) key w before after (end_of c.run_prove.result)) c.as_slice-in-Prove.ensures (c.run_prove.ensures.prove left reads) in
    subst (λ (command : Command). command_runs (seen_command command) w before after (end_of c.run_prove.result)) (sym c.in-Prove.is) runs

pub returns-in-Range-clause-shared : goal.returns-in-Range-clause-shared
returns-in-Range-clause-shared g c =
    let w = width_of c.args.job.branch in
    let left = g.S.Source.left c.args.input.now in
    let reads = g.S.Source.faults c.args.input.now in
    let before = outside left reads (g.K.Sink.taken c.args.out.now) (g.K.Sink.faults c.args.out.now) (disk_seen g.D.Disk.words c.args.disk.now) in
    let after = outside left reads (g.K.Sink.taken c.run_range.new.out) (g.K.Sink.faults c.run_range.new.out) (disk_seen g.D.Disk.words c.run_range.new.disk) in
    subst (λ (command : Command). SharedRuns (seen_command command) w before after (end_of c.run_range.result)) (sym c.in-Range.is) (c.run_range.ensures.shared left reads)

pub returns-in-Range-clause-runs : goal.returns-in-Range-clause-runs
returns-in-Range-clause-runs g c =
    let w = width_of c.args.job.branch in
    let left = g.S.Source.left c.args.input.now in
    let reads = g.S.Source.faults c.args.input.now in
    let before = outside left reads (g.K.Sink.taken c.args.out.now) (g.K.Sink.faults c.args.out.now) (disk_seen g.D.Disk.words c.args.disk.now) in
    let after = outside left reads (g.K.Sink.taken c.run_range.new.out) (g.K.Sink.faults c.run_range.new.out) (disk_seen g.D.Disk.words c.run_range.new.disk) in
    subst (λ (command : Command). command_runs (seen_command command) w before after (end_of c.run_range.result)) (sym c.in-Range.is) (c.run_range.ensures.range left reads)

pub returns-in-Changes-clause-shared : goal.returns-in-Changes-clause-shared
returns-in-Changes-clause-shared g c =
    let w = width_of c.args.job.branch in
    let left = g.S.Source.left c.args.input.now in
    let reads = g.S.Source.faults c.args.input.now in
    let before = outside left reads (g.K.Sink.taken c.args.out.now) (g.K.Sink.faults c.args.out.now) (disk_seen g.D.Disk.words c.args.disk.now) in
    let after = outside left reads (g.K.Sink.taken c.run_changes.new.out) (g.K.Sink.faults c.run_changes.new.out) (disk_seen g.D.Disk.words c.run_changes.new.disk) in
    subst (λ (command : Command). SharedRuns (seen_command command) w before after (end_of c.run_changes.result)) (sym c.in-Changes.is) (c.run_changes.ensures.shared left reads)

pub returns-in-Changes-clause-runs : goal.returns-in-Changes-clause-runs
returns-in-Changes-clause-runs g c =
    let w = width_of c.args.job.branch in
    let left = g.S.Source.left c.args.input.now in
    let reads = g.S.Source.faults c.args.input.now in
    let before = outside left reads (g.K.Sink.taken c.args.out.now) (g.K.Sink.faults c.args.out.now) (disk_seen g.D.Disk.words c.args.disk.now) in
    let after = outside left reads (g.K.Sink.taken c.run_changes.new.out) (g.K.Sink.faults c.run_changes.new.out) (disk_seen g.D.Disk.words c.run_changes.new.disk) in
    subst (λ (command : Command). command_runs (seen_command command) w before after (end_of c.run_changes.result)) (sym c.in-Changes.is) (c.run_changes.ensures.changes left reads)
