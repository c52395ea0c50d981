-- What a history says of the maps that it recalls is so of those that its store holds.
use Rattle.std.proofs.Common.{◌≡◌, ℕ, List, sym, subst}
use Rattle.trie_model.specs.Maps.{Map}
use Rattle.change_history.specs.Histories.{Recalls, held_by, recalled, Remembers}
use Rattle.change_history.proofs.ToldMaps.{held_recalled}
use Rattle.mdb_core.specs.Stores.{DbState, held_maps}

-- s is the store, as its parts are seen
pub said_of_held : (P : ℕ → List Map → Type 0) (s t : DbState) (m : Map) → s ≡ t → ((w : ℕ) (maps : List Map) → Recalls w s.history maps → P w (held_by s.history maps)) → Remembers t.width t.history m → P t.width (held_maps t m)
said_of_held P s t m same says r =
    let here = says t.width (recalled t.history m) (subst (λ (x : DbState). Recalls t.width x.history (recalled t.history m)) (sym same) r) in
    subst (P t.width) (held_recalled t.width t.history m r) (subst (λ (x : DbState). P t.width (held_by x.history (recalled t.history m))) same here)
