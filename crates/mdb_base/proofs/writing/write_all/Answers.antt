use Rattle.std.proofs.Common.{arith, rules}
use Rattle.mdb_base.proofs.WrittenPieces.{wrote_on}
use Rattle.mdb_base.proofs.writing.write_all.Goals as goal

pub pieces-preserved : goal.pieces-preserved
pieces-preserved g c = let k = c.pieces.invariant in record {
  within = search rules;
  bytes = wrote_on c.args.text.now c.pieces.done c.in_ok-count.count (g.K.Sink.taken c.args.out.now) (g.K.Sink.taken c.pieces.out) (g.K.Sink.taken c.write.new.self) k.tells k.bytes c.in_ok-count.ensures.bytes;
  tells = (λ x. k.tells.0 (c.write.ensures.tells.0 x), λ x. c.write.ensures.tells.1 (k.tells.1 x));
  later = omega (arith, c.write.ensures.cause.later);
}
