use Rattle.mem_world.specs.Told.{disk_files}
use Rattle.mem_world.specs.Sound.{each_sound}
use Rattle.mem_world.proofs.Picked.{picked_are_images}
use Rattle.mem_world.proofs.mem_disk.MemDisk.crash.Goals as goal

pub returns-clause-image : goal.returns-clause-image
returns-clause-image c = let d = c.args.self.now in picked_are_images c.left.result (disk_files d) c.args.pick (each_sound d.files) c.left.ensures.picked
