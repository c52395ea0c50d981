use Rattle.mem_world.specs.Seen.{file_of}
use Rattle.mem_world.proofs.SoundFiles.{sound_written}
use Rattle.mem_world.proofs.file.MemFile.write.Goals as goal

pub invariant_of-self-2 : goal.invariant_of-self-2
invariant_of-self-2 c =
    let was = c.args.self.now in
    record { sound = sound_written c.args.at c.args.piece.now (file_of was) c.write.new.self.bytes.items c.max-self.result c.push.new.self.items c.requires c.in-Ok.ensures.ok c.max-self.ensures (cc (c.in_ok-push.ensures.items)) c.write.new.self.is_file was.sound }
