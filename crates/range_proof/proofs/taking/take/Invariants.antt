use Rattle.std.proofs.Common.{◌≡◌, ◌-◌, [], length}
use Rattle.std.specs.Prelude.{option_map}
use Rattle.trie_model.specs.Maps.{Map}
use Rattle.proof_model.specs.RangeProofs.{pairs_in}
use Rattle.point_proof.proofs.SourceCalls.{WentWell}
use Rattle.range_proof.proofs.TakenPairs.{OnTaking}
use Rattle.range_proof.proofs.taking.take.Given as goal

abbrev pub invariant-loop-next : goal.invariant-loop-next
invariant-loop-next g l =
    let w = g.N.NodeSource.words in
    record {
      on_taking : (m : Map) → w.told l.fn.source m → OnTaking l.pairs l.bytes (pairs_in m l.range) l.taken.items l.used (option_map (λ k. k.items) l.next);
      fresh : l.taken.items ≡ [] → l.used ≡ 0;
      well : WentWell w l.fn.source l.source;
    }

abbrev pub decreases-loop-next : goal.decreases-loop-next
decreases-loop-next g l = l.pairs - length l.taken.items
