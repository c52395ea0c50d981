use Rattle.std.specs.Prelude.{option_map}
use Rattle.trie_model.specs.Maps.{Map}
use Rattle.point_proof.proofs.SourceCalls.{WentWell}
use Rattle.change_proof.proofs.LocalPairs.{OnListing, InOrder, left}
use Rattle.change_proof.proofs.local.pairs_of.Given as goal

abbrev pub invariant-loop-next : goal.invariant-loop-next
invariant-loop-next g l =
    let w = g.N.NodeSource.words in
    record {
      on_listing : (m : Map) → w.told l.fn.source m → OnListing m l.range l.pairs.items (option_map (λ k. k.items) l.next);
      in_order : InOrder l.range (w.keys l.fn.source) l.pairs.items (option_map (λ k. k.items) l.next);
      well : WentWell w l.fn.source l.source;
    }

abbrev pub decreases-loop-next : goal.decreases-loop-next
decreases-loop-next g l = left (g.N.NodeSource.words.keys l.fn.source) (option_map (λ k. k.items) l.next)
