use Rattle.trie_model.specs.Maps.{Map}
use Rattle.bit_keys.specs.Branch.{width_of}
use Rattle.point_proof.proofs.SourceCalls.{WentWell}
use Rattle.point_proof.proofs.WaysDown.{ahead, OnWay}
use Rattle.point_proof.proofs.walking.path_to.Given as goal

abbrev pub invariant-loop-next : goal.invariant-loop-next
invariant-loop-next g l =
    let w = g.N.NodeSource.words in
    record {
      on_way : (m : Map) → w.told l.fn.source m → OnWay (width_of l.branch) m l.wanted l.path.items l.next;
      well : WentWell w l.fn.source l.source;
    }

abbrev pub decreases-loop-next : goal.decreases-loop-next
decreases-loop-next g l = ahead l.wanted l.next
