use Rattle.std.proofs.Common.{◌≡◌, ◌≤◌, ◌+◌, length, take, arith, vec_len, rules}
use Rattle.std.proofs.lemmas.Grind.{common_steps}
use Rattle.batch_text.proofs.HeldBytes.{pulls_behind}
use Rattle.batch_text.proofs.reader.held.read_behind.Goals as goal

pub returns-clause-bytes : goal.returns-clause-bytes
returns-clause-bytes g c =
    let front : take c.len-held.result c.deref_mut.result.now ≡ c.args.buffer.now.items = grind (arith, common_steps) in
    let room : c.len-held.result + c.in-Ok.count ≤ vec_len c.resize.new.self = grind (arith, common_steps) in
    let size : c.len-held.result ≡ length c.args.buffer.now.items = search rules in
    let cut = c.truncate-2.ensures.items in
    pulls_behind c.args.buffer.now.items (take c.len-held.result c.deref_mut.result.now) c.read.new.into _ _ c.truncate-2.new.self.items c.len-held.result c.in-Ok.count (vec_len c.resize.new.self) (g.S.Source.left c.args.input.now) (g.S.Source.left c.read.new.self) cut front size c.in-Ok.ensures.bound.0 room c.in-Ok.ensures.bytes.0
