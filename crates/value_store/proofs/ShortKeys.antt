-- What a change of the places makes of their keys, each of which is within its limit.
use Rattle.std.proofs.Common.{◌≡◌, ℕ, Bool, true, false, cond, List, refl, sym, subst, Option, Some, None, Ordering, Less, Equal, Greater}
use Rattle.std.specs.Prelude.{IfSome, IsSome}
use Rattle.std.specs.Ordering.{is_eq, eq_by_cmp}
use Rattle.std.specs.FinMap.{empty, get, insert, remove, get-insert, get-remove, get-empty}
use Rattle.std.proofs.lemmas.Cmp.{nat_list_cmp_total}
use Rattle.base_model.specs.Bytes.{bytes_cmp}
use Rattle.trie_model.proofs.Entries.{tied_equal}
use Rattle.value_store.specs.Values.{Place}
use Rattle.value_store.specs.Index.{Places, IsShort, HasShortKeys, up_to}

same_by_test : (q key : List ℕ) → eq_by_cmp bytes_cmp q key ≡ true → q ≡ key
same_by_test q key h = go (bytes_cmp q key) refl h
  where
    go : (o : Ordering) → bytes_cmp q key ≡ o → is_eq o ≡ true → q ≡ key
    go Less e h = absurd cc
    go Equal e h = tied_equal q key e
    go Greater e h = absurd cc

pub short-none : HasShortKeys empty
short-none = λ key. subst (λ (o : Option Place). IfSome o (λ _. IsShort key)) (sym (get-empty bytes_cmp key)) tt

pub short-insert : (index : Places) (key : List ℕ) (p : Place) → HasShortKeys index → IsShort key → HasShortKeys (insert index key p)
short-insert index key p all one = λ q. subst (λ (o : Option Place). IfSome o (λ _. IsShort q)) (sym (get-insert nat_list_cmp_total index key p q)) (pick q (eq_by_cmp bytes_cmp q key) refl (get index q) (all q))
  where
    pick : (q : List ℕ) (b : Bool) → eq_by_cmp bytes_cmp q key ≡ b → (x : Option Place) → IfSome x (λ _. IsShort q) → IfSome (cond b (Some p) x) (λ _. IsShort q)
    pick q true e x h = subst IsShort (sym (same_by_test q key e)) one
    pick q false e x h = h

pub short-remove : (index : Places) (key : List ℕ) → HasShortKeys index → HasShortKeys (remove index key)
short-remove index key all = λ q. subst (λ (o : Option Place). IfSome o (λ _. IsShort q)) (sym (get-remove nat_list_cmp_total index key q)) (pick q (eq_by_cmp bytes_cmp q key) (get index q) (all q))
  where
    pick : (q : List ℕ) (b : Bool) (x : Option Place) → IfSome x (λ _. IsShort q) → IfSome (cond b None x) (λ _. IsShort q)
    pick q true x h = tt
    pick q false x h = h

pub short-cut : (end : ℕ) (index new : Places) → ((key : List ℕ) → get new key ≡ up_to end (get index key)) → HasShortKeys index → HasShortKeys new
short-cut end index new is all = λ q. subst (λ (o : Option Place). IfSome o (λ _. IsShort q)) (sym (is q)) (go q (get index q) (all q))
  where
    go : (q : List ℕ) (x : Option Place) → IfSome x (λ _. IsShort q) → IfSome (up_to end x) (λ _. IsShort q)
    go q None h = tt
    go q (Some p) h = pick (up_to end (Some p)) h
      where
        pick : (x : Option Place) → IsShort q → IfSome x (λ _. IsShort q)
        pick None h = tt
        pick (Some p) h = h

-- a place that is put where there is one
pub short-set : (index new : Places) (key : List ℕ) (p : Place) → (IsSome (get index key) → new ≡ insert index key p) → (get index key ≡ None → new ≡ index) → HasShortKeys index → HasShortKeys new
short-set index new key p there absent all = go (get index key) refl (all key)
  where
    go : (x : Option Place) → get index key ≡ x → IfSome x (λ _. IsShort key) → HasShortKeys new
    go None e h = subst HasShortKeys (sym (absent e)) all
    go (Some q) e h = subst HasShortKeys (sym (there (subst IsSome (sym e) refl))) (short-insert index key p all h)
