use Rattle.std.proofs.Common.{◌≡◌, map}
use Rattle.std.specs.List.{range_with_len}
use Rattle.mem_world.specs.Picks.{noise_at}
use Rattle.mem_world.specs.Seen.{file_of}
use Rattle.mem_world.proofs.file.MemFile.noise.Given as goal

abbrev pub invariant-loop-place : goal.invariant-loop-place
invariant-loop-place l = l.bytes.items ≡ map (noise_at l.seed (file_of l.self).unsynced) (range_with_len 0 l.place)
