use Rattle.std.proofs.Common.{◌≡◌, ℕ, List, sym, subst, arith}
use Rattle.disk_model.specs.Files.{IsFile, written}
use Rattle.mem_world.proofs.Writing.{put_written, written_file}
use Rattle.mem_world.proofs.bytes.FileBytes.write.Goals as goal

pub invariant_of-self-2 : goal.invariant_of-self-2
invariant_of-self-2 c =
    let was = c.args.self.now in
    let is : c.put.new.bytes.items ≡ written was.bytes.items c.args.at c.args.piece.now = put_written was.bytes.items c.reach.new.bytes.items _ c.args.piece.now c.args.at c.in_ok-reach.ensures.ok c.put.ensures in
    record { is_file = subst (λ (l : List ℕ). IsFile l) (sym is) (written_file was.bytes.items c.args.at c.args.piece.now was.is_file c.requires (λ i. omega (arith, c.type_inv.piece i))) }

pub returns-clause-ok : goal.returns-clause-ok
returns-clause-ok c = put_written c.args.self.now.bytes.items c.reach.new.bytes.items _ c.args.piece.now c.args.at c.in_ok-reach.ensures.ok c.put.ensures
