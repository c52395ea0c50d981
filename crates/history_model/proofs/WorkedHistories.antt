-- The worked histories, by computing.
use Rattle.std.proofs.Common.{◌≡◌, ◌≢◌, ℕ, zero, suc, ◌-◌, ◌≤◌, Bool, true, false, cond, List, [], ◌∷◌, replicate, refl, sym, ap, ◌∙◌, arith, map, Option, Some, None, Ok, Err}
use Rattle.std.specs.Prelude.{T}
use Rattle.std.specs.FinMap.{is_sorted}
use Rattle.std.proofs.lemmas.Bool.{le-leb, lt-leb}
use Rattle.std.proofs.lemmas.Cmp.{nat_list_cmp_total}
use Rattle.std.specs.Ordering.{eq_by_cmp}
use Rattle.std.specs.List.{filter, sum_by}
use Rattle.std.specs.FinMap as map_of
use Rattle.base_model.specs.Bytes.{bytes_cmp}
use Rattle.trie_model.specs.Maps.{Map, root}
use Rattle.range_model.specs.Ranges.{everything, only}
use Rattle.history_model.specs.Changes.{Delta, same_value, deltas, delta_weight, change_of, lies_in, changes, weight}
use Rattle.history_model.specs.Held.{no_map, commit_limit, weight_limit, held_behind, held, until_root}
use Rattle.history_model.specs.Between.{changes_between, changes_from, changes_since, NoStart}
use Rattle.history_model.specs.Laws.{values_at}
use Rattle.history_model.specs.Worked.{first, second, third, since_opening, ChangesOfThree, ToldForward, LastCommitCounts, HeavyStandsAlone}
use Rattle.history_model.proofs.Values.{same_key, key-itself}
use Rattle.history_model.proofs.Deltas.{Values, keyed, values_at-deltas, deltas-sorted, one_list}
use Rattle.history_model.proofs.Changes.{no_deltas}

abbrev a : List ℕ
a = 0x0a ∷ []

abbrev b : List ℕ
b = 0x0b ∷ []

-- the two keys are not one
two_keys : (q : List ℕ) → eq_by_cmp bytes_cmp q a ≡ true → eq_by_cmp bytes_cmp q b ≡ true → ⊥
two_keys q e f = let s : a ≡ b = sym (same_key q a e) ∙ same_key q b f in absurd (cc)

get_with : (m : Map) (k v q : List ℕ) → map_of.get (map_of.insert m k v) q ≡ cond (eq_by_cmp bytes_cmp q k) (Some v) (map_of.get m q)
get_with m k v q = map_of.get-insert nat_list_cmp_total m k v q

get_none : (q : List ℕ) → map_of.get no_map q ≡ None
get_none q = map_of.get-empty bytes_cmp q

get_one : (v : ℕ) (q : List ℕ) → map_of.get (map_of.insert no_map a (v ∷ [])) q ≡ cond (eq_by_cmp bytes_cmp q a) (Some (v ∷ [])) None
get_one v q = get_with no_map a (v ∷ []) q ∙ ap (λ o. cond (eq_by_cmp bytes_cmp q a) (Some (v ∷ [])) o) (get_none q)

get_third : (q : List ℕ) → map_of.get third q ≡ cond (eq_by_cmp bytes_cmp q b) (Some (0x63 ∷ [])) (cond (eq_by_cmp bytes_cmp q a) (Some (0x61 ∷ [])) None)
get_third q = get_with first b (0x63 ∷ []) q ∙ ap (λ o. cond (eq_by_cmp bytes_cmp q b) (Some (0x63 ∷ [])) o) (get_one 0x61 q)

abbrev told : Option (List ℕ) → Option (List ℕ) → Option Values
told u v = cond (same_value u v) None (Some (u, v))

-- deltas, by what both maps have at each key
by_gets : (m1 m2 : Map) (f g : List ℕ → Option (List ℕ)) (ds : List Delta) → ((q : List ℕ) → map_of.get m1 q ≡ f q) → ((q : List ℕ) → map_of.get m2 q ≡ g q) → T (is_sorted bytes_cmp (map keyed ds))
    → ((q : List ℕ) → told (f q) (g q) ≡ values_at ds q) → deltas m1 m2 ≡ ds
by_gets m1 m2 f g ds e h s is = one_list (deltas m1 m2) ds (deltas-sorted m1 m2) s (λ q. values_at-deltas m1 m2 q ∙ ap (λ u. told u (map_of.get m2 q)) (e q) ∙ ap (told (f q)) (h q) ∙ is q)

first_delta : deltas no_map first ≡ record { key = a; before = None; after = Some (0x61 ∷ []) } ∷ []
first_delta = by_gets no_map first (λ _. None) (λ q. cond (eq_by_cmp bytes_cmp q a) (Some (0x61 ∷ [])) None) _ get_none (get_one 0x61) tt (λ q. go (eq_by_cmp bytes_cmp q a))
  where
    go : (b : Bool) → told None (cond b (Some (0x61 ∷ [])) None) ≡ cond b (Some (None, Some (0x61 ∷ []))) None
    go true = refl
    go false = refl

second_delta : deltas first second ≡ record { key = a; before = Some (0x61 ∷ []); after = Some (0x62 ∷ []) } ∷ []
second_delta = by_gets first second (λ q. cond (eq_by_cmp bytes_cmp q a) (Some (0x61 ∷ [])) None) (λ q. cond (eq_by_cmp bytes_cmp q a) (Some (0x62 ∷ [])) None) _ (get_one 0x61) (get_one 0x62) tt (λ q. go (eq_by_cmp bytes_cmp q a))
  where
    go : (b : Bool) → told (cond b (Some (0x61 ∷ [])) None) (cond b (Some (0x62 ∷ [])) None) ≡ cond b (Some (Some (0x61 ∷ []), Some (0x62 ∷ []))) None
    go true = refl
    go false = refl

-- what the third commit does to a map of one pair
third_deltas : (v : ℕ) (m : Map) (ds : List Delta) → ((q : List ℕ) → map_of.get m q ≡ cond (eq_by_cmp bytes_cmp q a) (Some (v ∷ [])) None) → T (is_sorted bytes_cmp (map keyed ds))
    → ((q : List ℕ) → told (cond (eq_by_cmp bytes_cmp q a) (Some (v ∷ [])) None) (cond (eq_by_cmp bytes_cmp q b) (Some (0x63 ∷ [])) (cond (eq_by_cmp bytes_cmp q a) (Some (0x61 ∷ [])) None)) ≡ values_at ds q) → deltas m third ≡ ds
third_deltas v m ds e s is = by_gets m third (λ q. cond (eq_by_cmp bytes_cmp q a) (Some (v ∷ [])) None) (λ q. cond (eq_by_cmp bytes_cmp q b) (Some (0x63 ∷ [])) (cond (eq_by_cmp bytes_cmp q a) (Some (0x61 ∷ [])) None)) ds e get_third s is

last_deltas : deltas second third ≡ record { key = a; before = Some (0x62 ∷ []); after = Some (0x61 ∷ []) } ∷ record { key = b; before = None; after = Some (0x63 ∷ []) } ∷ []
last_deltas = third_deltas 0x62 second _ (get_one 0x62) tt (λ q. go (eq_by_cmp bytes_cmp q a) (eq_by_cmp bytes_cmp q b) (two_keys q))
  where
    go : (c d : Bool) → (c ≡ true → d ≡ true → ⊥) → told (cond c (Some (0x62 ∷ [])) None) (cond d (Some (0x63 ∷ [])) (cond c (Some (0x61 ∷ [])) None)) ≡ cond c (Some (Some (0x62 ∷ []), Some (0x61 ∷ []))) (cond d (Some (None, Some (0x63 ∷ []))) None)
    go true true h = absurd (h refl refl)
    go true false h = refl
    go false true h = refl
    go false false h = refl

far_delta : deltas first third ≡ record { key = b; before = None; after = Some (0x63 ∷ []) } ∷ []
far_delta = third_deltas 0x61 first _ (get_one 0x61) tt (λ q. go (eq_by_cmp bytes_cmp q a) (eq_by_cmp bytes_cmp q b) (two_keys q))
  where
    go : (c d : Bool) → (c ≡ true → d ≡ true → ⊥) → told (cond c (Some (0x61 ∷ [])) None) (cond d (Some (0x63 ∷ [])) (cond c (Some (0x61 ∷ [])) None)) ≡ cond d (Some (None, Some (0x63 ∷ []))) None
    go true true h = absurd (h refl refl)
    go true false h = refl
    go false true h = refl
    go false false h = refl

-- ---- the three commits

all_changed : changes first third everything ≡ record { key = b; value = Some (0x63 ∷ []) } ∷ []
all_changed = ap (λ ds. map change_of (filter (lies_in everything) ds)) far_delta

all_held : held commit_limit weight_limit since_opening ≡ since_opening
all_held = held_three (weight second third) (weight first second) (weight no_map first) (ap (sum_by delta_weight) last_deltas) (ap (sum_by delta_weight) second_delta) (ap (sum_by delta_weight) first_delta)
  where
    held_three : (x y z : ℕ) → weight second third ≡ 5 → weight first second ≡ 3 → weight no_map first ≡ 2 → held commit_limit weight_limit since_opening ≡ since_opening
    held_three x y z p q r = rw (p, q, r) refl

pub changes_of_three : ChangesOfThree
changes_of_three = (all_changed, ap (λ ds. map change_of (filter (lies_in (only a)) ds)) last_deltas, all_held)

-- ---- told forward

apart : (x y : List ℕ) → x ≢ y → eq_by_cmp bytes_cmp x y ≡ false
apart x y h = go (eq_by_cmp bytes_cmp x y) refl
  where
    go : (b : Bool) → eq_by_cmp bytes_cmp x y ≡ b → b ≡ false
    go true e = absurd (h (same_key x y e))
    go false e = refl

module _ (w : ℕ) where
  hit : (m : Map) (ms : List Map) → until_root w (m ∷ ms) (root w m) ≡ m ∷ ms
  hit m ms = ap (λ b. cond b (m ∷ ms) (until_root w ms (root w m))) (key-itself (root w m))

  miss : (m : Map) (ms : List Map) (id : List ℕ) → id ≢ root w m → until_root w (m ∷ ms) id ≡ until_root w ms id
  miss m ms id h = ap (λ b. cond b (m ∷ ms) (until_root w ms id)) (apart id (root w m) h)

  turned : (x y : List ℕ) → x ≢ y → y ≢ x
  turned x y h e = h (sym e)

  forward : root w third ≢ root w first → root w second ≢ root w first → changes_between w since_opening (root w first) (root w third) everything ≡ Ok (record { key = b; value = Some (0x63 ∷ []) } ∷ [])
  forward q s =
      ap (λ ms. changes_from w ms (root w first) everything) (hit third (second ∷ first ∷ no_map ∷ []))
      ∙ ap (λ ms. changes_since ms third everything) (miss third (second ∷ first ∷ no_map ∷ []) (root w first) (turned (root w third) (root w first) q) ∙ miss second (first ∷ no_map ∷ []) (root w first) (turned (root w second) (root w first) s) ∙ hit first (no_map ∷ []))
      ∙ ap Ok all_changed

  backward : root w third ≢ root w second → root w third ≢ root w first → root w third ≢ root w no_map → changes_between w since_opening (root w third) (root w second) everything ≡ Err NoStart
  backward p q r =
      ap (λ ms. changes_from w ms (root w third) everything) (miss third (second ∷ first ∷ no_map ∷ []) (root w second) (turned (root w third) (root w second) p) ∙ hit second (first ∷ no_map ∷ []))
      ∙ ap (λ ms. changes_since ms second everything) (miss second (first ∷ no_map ∷ []) (root w third) p ∙ miss first (no_map ∷ []) (root w third) q ∙ miss no_map [] (root w third) r)

pub told_forward : ToldForward
told_forward w p q r s = (forward w q s, backward w p q r, λ id none. ap (λ ms. changes_from w ms id everything) none)

-- ---- what is let go

-- a commit that changes nothing weighs nothing
no_weight : (m : Map) → weight m m ≡ 0
no_weight m = ap (sum_by delta_weight) (no_deltas m)

held_same : (n k z : ℕ) (m : Map) → n ≤ k → held_behind n z m (replicate k m) ≡ replicate n m
held_same zero k z m h = refl
held_same (suc n) zero z m h = absurd (omega (arith, h))
held_same (suc n) (suc k) z m h =
    ap (λ b. cond b (m ∷ held_behind n (z - weight m m) m (replicate k m)) []) (le-leb (weight m m) z (omega (arith, no_weight m)))
    ∙ ap (λ ms. m ∷ ms) (held_same n k (z - weight m m) m (omega (arith, h)))

pub last_commit_counts : LastCommitCounts
last_commit_counts m = ap (λ ms. m ∷ ms) (held_same 64 65 weight_limit m (omega arith))

pub heavy_stands_alone : HeavyStandsAlone
heavy_stands_alone zero z m former ms h = refl
heavy_stands_alone (suc n) z m former ms h = rw (lt-leb (weight former m) z h) refl
