use Rattle.std.proofs.Common.{◌≡◌, ◌∷◌, ◌++◌, map, ap, sym, ◌∙◌, subst}
use Rattle.std.specs.Map.{keys_of}
use Rattle.std.specs.List.Sorted.{IsStrictlySortedBy}
use Rattle.trie_model.proofs.Entries.{IsAscending}
use Rattle.trie_model.proofs.PlainEntries.{plain, key_order, plain-IsAscending, ascending_before, vec_items}
use Rattle.map_root.proofs.tests.filled.Goals as goal

pub add-requires : goal.add-requires
add-requires c =
    let ordered : IsStrictlySortedBy (key_order vec_items) (keys_of c.args.entries.entries) = c.into_iter-key-iterator.ensures.into_iter_gives.5 in
    let ascends : IsAscending (map (plain vec_items) c.args.entries.entries) = plain-IsAscending vec_items c.args.entries.entries ordered in
    let split : c.loop-key.builder.pairs ++ (c.in-Some.key.items, c.in-Some.digest) ∷ map (plain vec_items) c.next.new.self ≡ map (plain vec_items) c.args.entries.entries =
    ap (λ es. c.loop-key.builder.pairs ++ map (plain vec_items) es) (sym c.in-Some.ensures.steps) ∙ c.loop-key.invariant in
    record { above = rw c.deref.ensures.value (ascending_before c.loop-key.builder.pairs (c.in-Some.key.items, c.in-Some.digest) (map (plain vec_items) c.next.new.self) (subst IsAscending (sym split) ascends)) }
