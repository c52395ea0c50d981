use Rattle.std.proofs.Common.{map}
use Rattle.mem_world.specs.File.{resting}
use Rattle.mem_world.specs.Seen.{file_of}
use Rattle.mem_world.proofs.Replay.{replayed, ended}
use Rattle.mem_world.proofs.mem_disk.MemDisk.begun.Goals as goal

pub invariant_of-self : goal.invariant_of-self
invariant_of-self c =
    let was = c.args.self.now in
    let made = c.make-made.ensures in
    record { replays = replayed c.make-made.result (map (λ v. resting v.items) was.start) (map file_of was.files) _ was.calls.items _ _ was.replays made.files made.calls made.err_files made.err_calls }

pub returns-clause-ends : goal.returns-clause-ends
returns-clause-ends c =
    let was = c.args.self.now in
    let made = c.make-made.ensures in
    ended c.make-made.result (map (λ v. resting v.items) was.start) (map file_of was.files) _ _ was.calls.items _ _ _ was.replays made.files made.calls made.err_files made.err_calls c.fault.ensures.files c.fault.ensures.past
