-- What a crash of a disk in memory leaves.
use Rattle.std.specs.Prelude.{ℕ, ◌+◌, ◌%◌, List, map, slice_index, if◌then◌else◌}
use Rattle.std.specs.List.{range_with_len}
use Rattle.disk_model.specs.Crash.{Unsynced, is_open}
use Rattle.mem_world.specs.declared.pick.Pick.{Pick}
use Rattle.mem_world.specs.declared.pick.Pick.TheVariants.{Kept, Lost, Noise}
use Rattle.mem_world.specs.File.{File}

-- an open byte is the lowest eight bits of the seed plus its place; all others are as they were
abbrev pub noise_at : ℕ → Unsynced → ℕ → ℕ
noise_at seed file i = if is_open file i then (seed + i) % 256 else slice_index file.synced i

-- what is read; what was there at the last sync; noise up to the greatest length
abbrev pub picked : Pick → File → List ℕ
picked Kept f = f.seen
picked Lost f = f.unsynced.synced
picked (Noise seed) f = map (noise_at seed f.unsynced) (range_with_len 0 f.unsynced.greatest)
