-- Digests whose keys are within the limit, after a change.
use Rattle.std.proofs.Common.{◌≡◌, ℕ, Bool, true, false, cond, List, [], ◌∷◌, sym, subst, Result, Ok, Err, OnOk, Ordering, Less, Equal, Greater}
use Rattle.std.specs.FinMap.Entries.{put, by_order}
use Rattle.std.specs.Map.{remove_entry}
use Rattle.std.specs.BTreeMap.{is_at}
use Rattle.base_model.specs.Bytes.{bytes_cmp}
use Rattle.node_table.specs.Pairs.{AreShort}
use Rattle.value_store.specs.Index.{IsShort}
use Rattle.mdb_core.specs.Stores.{keys_of}

pub short-put : (ds : List (List ℕ × List ℕ)) (k d : List ℕ) → AreShort (keys_of ds) → IsShort k → AreShort (keys_of (put bytes_cmp k d ds))
short-put [] k d all one = (one, tt)
short-put (e ∷ es) k d all one = go (bytes_cmp k e.0) (short-put es k d all.1 one)
  where
    go : (o : Ordering) → AreShort (keys_of (put bytes_cmp k d es)) → AreShort (keys_of (by_order o ((k, d) ∷ e ∷ es) ((e.0, d) ∷ es) (e ∷ put bytes_cmp k d es)))
    go Less ih = (one, all)
    go Equal ih = all
    go Greater ih = (all.0, ih)

pub short-remove_entry : (ds : List (List ℕ × List ℕ)) (k : List ℕ) → AreShort (keys_of ds) → AreShort (keys_of (remove_entry (is_at (bytes_cmp k)) ds))
short-remove_entry [] k all = tt
short-remove_entry (e ∷ es) k all = go (is_at (bytes_cmp k) e.0) (short-remove_entry es k all.1)
  where
    go : (b : Bool) → AreShort (keys_of (remove_entry (is_at (bytes_cmp k)) es)) → AreShort (keys_of (cond b es (e ∷ remove_entry (is_at (bytes_cmp k)) es)))
    go true ih = all.1
    go false ih = (all.0, ih)

-- what a call that went well made
pub short_after : {T E : Type 0} (r : Result T E) (new ds : List (List ℕ × List ℕ)) → OnOk r (new ≡ ds) → AreShort (keys_of ds) → OnOk r (AreShort (keys_of new))
short_after (Ok x) new ds is all = subst (λ (d : List (List ℕ × List ℕ)). AreShort (keys_of d)) (sym is) all
short_after (Err e) new ds is all = tt
