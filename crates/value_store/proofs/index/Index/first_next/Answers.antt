use Rattle.std.proofs.Common.{ap, ◌∙◌, sym, map}
use Rattle.std.specs.FinMap.{keys}
use Rattle.trie_model.proofs.PlainEntries.{vec_items}
use Rattle.value_store.specs.Index.{Places}
use Rattle.value_store.specs.Values.{next_of}
use Rattle.value_store.proofs.NextKeys.{keys-places_of}
use Rattle.value_store.proofs.index.Index.first_next.Goals as goal

pub loop-key-init : goal.loop-key-init
loop-key-init c =
    ap (λ ks. next_of ks c.args.from.now c.args.past)
    (ap (map vec_items) (c.into_iter-key-iterator.ensures.into_iter_gives ∙ c.keys-key-items.ensures.rest)
    ∙ sym (keys-places_of c.self.inside.places.entries c.self.invariant.0)
    ∙ ap (λ (m : Places). keys m) c.self.view_is)
