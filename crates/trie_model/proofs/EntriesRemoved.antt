-- The entries of a map from which a key was deleted.
use Rattle.std.proofs.Common.{◌≡◌, ℕ, Bool, true, false, not, cond, List, refl, sym, ap, ◌∙◌, Option, None}
use Rattle.std.specs.Ordering.{eq_by_cmp}
use Rattle.std.specs.FinMap.{get, remove, entries, entries_sorted, get-remove, get-entries}
use Rattle.std.specs.Cmp.{eq_by_cmp_equiv}
use Rattle.std.specs.FinMap.Entries.{where_key, is_sorted-where_key, find-where_key, same_entries}
use Rattle.std.proofs.lemmas.Cmp.{nat_list_cmp_total}
use Rattle.base_model.specs.Bytes.{bytes_cmp}
use Rattle.trie_model.specs.Maps.{Map}
use Rattle.trie_model.proofs.Entries.{tied_equal}

-- a key is another one than k
abbrev pub other_key : List ℕ → List ℕ → Bool
other_key k x = not (eq_by_cmp bytes_cmp k x)

turned : (b : Bool) (o : Option (List ℕ)) → cond b None o ≡ cond (not b) o None
turned true o = refl
turned false o = refl

-- the entries of a map without a key are those with other_key keys
pub entries-remove : (m : Map) (k : List ℕ) → entries (remove m k) ≡ where_key bytes_cmp (other_key k) (entries m)
entries-remove m k = same_entries bytes_cmp nat_list_cmp_total tied_equal (entries (remove m k)) (where_key bytes_cmp (other_key k) (entries m)) (entries_sorted (remove m k)) (is_sorted-where_key bytes_cmp (other_key k) (entries m) (entries_sorted m)) (λ q.
    sym (get-entries (remove m k) q)
    ∙ get-remove nat_list_cmp_total m k q
    ∙ ap (λ b. cond b None (get m q)) ((eq_by_cmp_equiv nat_list_cmp_total).symm q k)
    ∙ turned (eq_by_cmp bytes_cmp k q) (get m q)
    ∙ ap (λ o. cond (other_key k q) o None) (get-entries m q)
    ∙ sym (find-where_key bytes_cmp (other_key k) q (λ x t. ap (other_key k) (sym (tied_equal q x t))) (entries m)))
