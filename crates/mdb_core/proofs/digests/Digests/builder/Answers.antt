use Rattle.std.proofs.Common.{◌≡◌, ◌∷◌, ◌++◌, map, ap, sym, ◌∙◌, subst}
use Rattle.std.specs.Map.{keys_of}
use Rattle.std.specs.List.Sorted.{IsStrictlySortedBy}
use Rattle.trie_model.proofs.Entries.{IsAscending}
use Rattle.trie_model.proofs.PlainEntries.{plain, key_order, plain-IsAscending, ascending_before}
use Rattle.mdb_core.proofs.MapDigests.{key_items}
use Rattle.mdb_core.proofs.digests.Digests.builder.Goals as goal

pub add-requires : goal.add-requires
add-requires c =
    let ordered : IsStrictlySortedBy (key_order key_items) (keys_of c.self.inside.entries.entries) = c.into_iter-key-iterator.ensures.into_iter_gives.5 in
    let ascends : IsAscending c.args.self.now = subst IsAscending c.self.view_is (plain-IsAscending key_items c.self.inside.entries.entries ordered) in
    let split : c.loop-key.builder.pairs ++ (c.in-Some.key.now.items, c.in-Some.digest.now) ∷ map (plain key_items) c.next.new.self ≡ c.args.self.now =
    ap (λ es. c.loop-key.builder.pairs ++ map (plain key_items) es) (sym c.in-Some.ensures.steps) ∙ c.loop-key.invariant.pairs in
    record { above = rw c.as_slice.ensures (ascending_before c.loop-key.builder.pairs (c.in-Some.key.now.items, c.in-Some.digest.now) (map (plain key_items) c.next.new.self) (subst IsAscending (sym split) ascends)) }
