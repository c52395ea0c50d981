use Rattle.std.proofs.Common.{◌≡◌, ◌∷◌, ◌++◌, map, ap, sym, ◌∙◌, subst}
use Rattle.std.specs.Map.{keys_of}
use Rattle.std.specs.List.Sorted.{IsStrictlySortedBy}
use Rattle.std.specs.FinMap.Entries.{put}
use Rattle.base_model.specs.Bytes.{bytes_cmp}
use Rattle.trie_model.proofs.Entries.{IsAscending}
use Rattle.trie_model.proofs.PlainEntries.{plain, key_order, plain-IsAscending}
use Rattle.mdb_core.proofs.MapDigests.{key_items}
use Rattle.mdb_core.proofs.LastPuts.{put_next}
use Rattle.mdb_core.proofs.digests.Digests.copy.Goals as goal

pub loop-key-preserved : goal.loop-key-preserved
loop-key-preserved c =
    let ordered : IsStrictlySortedBy (key_order key_items) (keys_of c.self.inside.entries.entries) = c.into_iter-key-iterator.ensures.into_iter_gives.5 in
    let ascends : IsAscending c.args.self.now = subst IsAscending c.self.view_is (plain-IsAscending key_items c.self.inside.entries.entries ordered) in
    let rest = map (plain key_items) c.next.new.self in
    let split : c.loop-key.copy ++ (c.in-Some.key.now.items, c.in-Some.digest.now) ∷ rest ≡ c.args.self.now =
    ap (λ es. c.loop-key.copy ++ map (plain key_items) es) (sym c.in-Some.ensures.steps) ∙ c.loop-key.invariant in
    ap (λ es. es ++ rest) (c.in_ok-put_copy.ensures.ok ∙ ap (λ k. put bytes_cmp k c.copy.result c.loop-key.copy) c.as_slice.ensures ∙ ap (λ d. put bytes_cmp c.in-Some.key.now.items d c.loop-key.copy) c.copy.ensures)
    ∙ put_next c.loop-key.copy rest c.args.self.now c.in-Some.key.now.items c.in-Some.digest.now ascends split
