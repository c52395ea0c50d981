-- Point proofs that are made of a map are accepted against its root.
use Rattle.std.proofs.Common.{◌≡◌, ℕ, ◌≤◌, List, [], ◌∷◌, length, refl, sym, ap, ◌∙◌, arith, subst, inl, inr, Ordering, Less, Equal, Greater}
use Rattle.std.specs.List.{filter, AllByRecursion}
use Rattle.std.specs.FinMap.{entries, find, get-entries}
use Rattle.std.specs.Cmp.{tied_itself}
use Rattle.std.specs.Ordering.{is_le, ordering_reverse}
use Rattle.std.proofs.lemmas.Cmp.{nat_list_cmp_total}
use Rattle.base_model.specs.Bytes.{AreBytes, bytes_cmp}
use Rattle.trie_model.specs.Maps.{Map, Limits}
use Rattle.trie_model.proofs.Entries.{tied_equal, IsAscending, entries-IsAscending}
use Rattle.range_model.specs.Laws.{SlotsLieAsTheirKeys, BytesLieAsTheirBits}
use Rattle.range_model.specs.Ranges.{IsRange, only, holds}
use Rattle.proof_model.specs.Proofs.{Pair, point_proof}
use Rattle.proof_model.specs.Claims.{pair_of, point_claim}
use Rattle.proof_model.specs.TrueClaims.{IsTrueClaim, TruePointsAreAccepted}
use Rattle.proof_model.proofs.TrueClaims.{true_claims_are_accepted}

-- a comparison the other way round
pub turned : (a b : List ℕ) (o : Ordering) → bytes_cmp a b ≡ o → bytes_cmp b a ≡ ordering_reverse o
turned a b o e = nat_list_cmp_total.antisymm b a ∙ ap ordering_reverse e

-- no pair of a greater key lies at a key
none_above : (key : List ℕ) (es : List Pair) → AllByRecursion (λ (f : Pair). bytes_cmp key f.0 ≡ Less) es → filter (λ (e : Pair). holds (only key) e.0) es ≡ []
none_above key [] h = refl
none_above key (e ∷ es) h = rw (h.0, turned key e.0 Less h.0) (none_above key es h.1)

-- the pairs of a list that lie at a key are the one that is found
pairs_at : (key : List ℕ) (es : List Pair) → IsAscending es → filter (λ (e : Pair). holds (only key) e.0) es ≡ pair_of key (find bytes_cmp key es)
pairs_at key [] h = refl
pairs_at key (e ∷ es) h = go (bytes_cmp key e.0) refl (pairs_at key es h.1)
  where
    go : (o : Ordering) → bytes_cmp key e.0 ≡ o → filter (λ (e : Pair). holds (only key) e.0) es ≡ pair_of key (find bytes_cmp key es) → filter (λ (e : Pair). holds (only key) e.0) (e ∷ es) ≡ pair_of key (find bytes_cmp key (e ∷ es))
    go Less f ih = rw (f, turned key e.0 Less f) ih
    go Greater f ih = rw f ih
    go Equal f ih =
        let same = tied_equal key e.0 f in
        let above = subst (λ k. AllByRecursion (λ (f : Pair). bytes_cmp k f.0 ≡ Less) es) (sym same) h.0 in
        rw (f, turned key e.0 Equal f) (ap (λ r. e ∷ r) (none_above key es above) ∙ ap (λ k. (k, e.1) ∷ []) (sym same))

-- what is proved of a key is all that the map has there
point-IsTrueClaim : (w : ℕ) (m : Map) (key : List ℕ) → IsTrueClaim w m (point_claim key (point_proof w m key))
point-IsTrueClaim w m key = record {
  keys = refl;
  pairs = ap (pair_of key) (get-entries m key) ∙ sym (pairs_at key (entries m) (entries-IsAscending m));
  start = refl;
  end = inr (refl, refl);
  idle = refl;
}

-- a key alone is a range
only-IsRange : (l : Limits) (key : List ℕ) → AreBytes key → length key ≤ l.key → IsRange l (only key)
only-IsRange l key bytes fits = record {
  start_bytes = bytes;
  end_bytes = bytes;
  start_short = omega arith;
  end_short = omega arith;
  order = ap is_le (tied_itself nat_list_cmp_total key);
}

pub true_points_are_accepted : SlotsLieAsTheirKeys → BytesLieAsTheirBits → TruePointsAreAccepted
true_points_are_accepted slots bits l w m key ww is_map bytes fits =
    true_claims_are_accepted slots bits l w m (only key) (point_claim key (point_proof w m key)) ww is_map (only-IsRange l key bytes fits) (record { start = refl; end = inl refl }) (point-IsTrueClaim w m key)
