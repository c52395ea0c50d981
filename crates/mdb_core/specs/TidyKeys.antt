-- Keys in their order and within the limit, tested. Those of each store and of each spot are.
use Rattle.std.specs.Prelude.{◌≡◌, ℕ, Bool, true, false, ◌&&◌, nat_le, if◌then◌else◌, List, [], ◌∷◌, length}
use Rattle.std.proofs.Common.{refl, ap, cond, Ordering, Less, Equal, Greater}
use Rattle.std.proofs.lemmas.Bool.{leb-true, le-leb}
use Rattle.std.specs.List.{AllByRecursion}
use Rattle.std.specs.Ordering.{is_lt}
use Rattle.base_model.specs.Bytes.{bytes_cmp}
use Rattle.trie_model.specs.Maps.{key_limit}
use Rattle.trie_items.specs.Sources.{AreAscending}
use Rattle.node_table.specs.Pairs.{AreShort}

abbrev pub is_below : List ℕ → List (List ℕ) → Bool
is_below k [] = true
is_below k (l ∷ ls) = is_lt (bytes_cmp k l) && is_below k ls

abbrev pub are_tidy : List (List ℕ) → Bool
are_tidy [] = true
are_tidy (k ∷ ks) = nat_le (length k) key_limit && (is_below k ks && are_tidy ks)

-- these keys, where they are
abbrev pub tidy : List (List ℕ) → List (List ℕ)
tidy ks = if are_tidy ks then ks else []

-- ---- such keys are in their order and within the limit

both : (a b : Bool) → (a && b) ≡ true → (a ≡ true) × (b ≡ true)
both true b h = (refl, h)
both false b h = absurd cc

less : (o : Ordering) → is_lt o ≡ true → o ≡ Less
less Less h = refl
less Equal h = absurd cc
less Greater h = absurd cc

below : (k : List ℕ) (ls : List (List ℕ)) → is_below k ls ≡ true → AllByRecursion (λ l. bytes_cmp k l ≡ Less) ls
below k [] h = tt
below k (l ∷ ls) h = let p = both (is_lt (bytes_cmp k l)) (is_below k ls) h in (less (bytes_cmp k l) p.0, below k ls p.1)

ascend : (ks : List (List ℕ)) → are_tidy ks ≡ true → AreAscending ks
ascend [] h = tt
ascend (k ∷ ks) h =
    let p = both (nat_le (length k) key_limit) (is_below k ks && are_tidy ks) h in
    let q = both (is_below k ks) (are_tidy ks) p.1 in
    (below k ks q.0, ascend ks q.1)

short : (ks : List (List ℕ)) → are_tidy ks ≡ true → AreShort ks
short [] h = tt
short (k ∷ ks) h =
    let p = both (nat_le (length k) key_limit) (is_below k ks && are_tidy ks) h in
    let q = both (is_below k ks) (are_tidy ks) p.1 in
    (leb-true (length k) key_limit p.0, short ks q.1)

pub tidy-AreAscending : (ks : List (List ℕ)) → AreAscending (tidy ks)
tidy-AreAscending ks = go (are_tidy ks) (ascend ks)
  where
    go : (b : Bool) → (b ≡ true → AreAscending ks) → AreAscending (cond b ks [])
    go true h = h refl
    go false h = tt

pub tidy-AreShort : (ks : List (List ℕ)) → AreShort (tidy ks)
tidy-AreShort ks = go (are_tidy ks) (short ks)
  where
    go : (b : Bool) → (b ≡ true → AreShort ks) → AreShort (cond b ks [])
    go true h = h refl
    go false h = tt

-- ---- and those that are pass the test

passed : (a b : Bool) → a ≡ true → b ≡ true → (a && b) ≡ true
passed true b h i = i
passed false b h i = absurd cc

above : (k : List ℕ) (ls : List (List ℕ)) → AllByRecursion (λ l. bytes_cmp k l ≡ Less) ls → is_below k ls ≡ true
above k [] h = refl
above k (l ∷ ls) h = passed (is_lt (bytes_cmp k l)) (is_below k ls) (ap is_lt h.0) (above k ls h.1)

tested : (ks : List (List ℕ)) → AreAscending ks → AreShort ks → are_tidy ks ≡ true
tested [] h s = refl
tested (k ∷ ks) h s =
    passed (nat_le (length k) key_limit) (is_below k ks && are_tidy ks) (le-leb (length k) key_limit s.0)
    (passed (is_below k ks) (are_tidy ks) (above k ks h.0) (tested ks h.1 s.1))

pub tidy-is : (ks : List (List ℕ)) → AreAscending ks → AreShort ks → tidy ks ≡ ks
tidy-is ks h s = ap (λ b. cond b ks []) (tested ks h s)
