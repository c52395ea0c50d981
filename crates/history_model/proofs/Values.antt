-- Values that are the same, and that differ.
use Rattle.std.proofs.Common.{◌≡◌, ℕ, true, List, refl, ap, Option, Some, None, Ordering, Less, Equal, Greater}
use Rattle.std.specs.Ordering.{is_eq, eq_by_cmp}
use Rattle.std.specs.Cmp.{tied_itself}
use Rattle.std.proofs.lemmas.Cmp.{nat_list_cmp_total}
use Rattle.base_model.specs.Bytes.{bytes_cmp}
use Rattle.trie_model.proofs.Entries.{tied_equal}
use Rattle.history_model.specs.Changes.{same_value}

equal : (o : Ordering) → is_eq o ≡ true → o ≡ Equal
equal Less h = absurd (cc)
equal Equal h = refl
equal Greater h = absurd (cc)

-- keys that tie are one
pub same_key : (a b : List ℕ) → eq_by_cmp bytes_cmp a b ≡ true → a ≡ b
same_key a b h = tied_equal a b (equal (bytes_cmp a b) h)

pub key-itself : (a : List ℕ) → eq_by_cmp bytes_cmp a a ≡ true
key-itself a = ap is_eq (tied_itself nat_list_cmp_total a)

pub value-itself : (u : Option (List ℕ)) → same_value u u ≡ true
value-itself None = refl
value-itself (Some v) = key-itself v

pub one_value : (u v : Option (List ℕ)) → same_value u v ≡ true → u ≡ v
one_value None None h = refl
one_value None (Some v) h = absurd (cc)
one_value (Some u) None h = absurd (cc)
one_value (Some u) (Some v) h = ap Some (same_key u v h)
