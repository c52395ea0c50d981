use Rattle.std.proofs.Common.{map}
use Rattle.mem_world.specs.File.{resting}
use Rattle.mem_world.specs.Seen.{file_of}
use Rattle.mem_world.proofs.Replay.{replayed, one_earlier}
use Rattle.mem_world.proofs.mem_disk.MemDisk.done.Goals as goal

pub invariant_of-self : goal.invariant_of-self
invariant_of-self c =
    let was = c.args.self.now in
    let made = c.make.ensures in
    record { replays = replayed c.make.result (map (λ v. resting v.items) was.start) (map file_of was.files) _ was.calls.items _ _ was.replays made.files made.calls made.err_files made.err_calls }

pub returns-in-Ok-clause-past : goal.returns-in-Ok-clause-past
returns-in-Ok-clause-past c =
    let was = c.args.self.now in
    one_earlier (map (λ v. resting v.items) was.start) (map file_of was.files) was.calls.items _ _ was.replays c.in-Ok.ensures.calls
