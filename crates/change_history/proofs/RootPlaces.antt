-- Where a history has the map of a root.
use Rattle.std.proofs.Common.{◌≡◌, ℕ, zero, suc, ◌+◌, ◌-◌, ◌<◌, ◌≤◌, Bool, true, false, cond, List, [], ◌∷◌, drop, length, map, refl, sym, ap, ◌∙◌, subst, arith, Option, Some, None, option_map, Ordering}
use Rattle.std.specs.Prelude.{◌||◌, is_some}
use Rattle.std.specs.List.{slice_get, list_any}
use Rattle.std.specs.Ordering.{is_eq}
use Rattle.base_model.specs.Bytes.{bytes_cmp}
use Rattle.trie_model.specs.Maps.{Map, root}
use Rattle.proof_model.specs.Refusals.{first_place, same_bytes}
use Rattle.history_model.specs.Held.{held_behind, held, until_root, is_held, back}
use Rattle.change_history.specs.Histories.{CommitState, HistoryState, roots, from_root, is_root, Follow, Recalls, held_by}

-- ---- the roots that a history keeps

former_roots : (w : ℕ) (m : Map) (cs : List CommitState) (ms : List Map) → Follow w m cs ms → map (λ (c : CommitState). c.former) cs ≡ map (root w) ms
former_roots w m [] [] f = refl
former_roots w m [] (l ∷ ms) f = absurd f
former_roots w m (c ∷ cs) [] f = absurd f
former_roots w m (c ∷ cs) (l ∷ ms) f = ap (λ r. r ∷ map (λ (c : CommitState). c.former) cs) f.1 ∙ ap (λ rs. root w l ∷ rs) (former_roots w l cs ms f.2)

-- they are the roots of the maps that are held
pub roots_held : (w : ℕ) (h : HistoryState) (maps : List Map) → Recalls w h maps → roots h ≡ map (root w) (held_by h maps)
roots_held w h [] r = absurd r
roots_held w h (m ∷ maps) r =
    ap (λ x. x ∷ map (λ (c : CommitState). c.former) h.ring) r.0 ∙ ap (λ rs. root w m ∷ rs) (former_roots w m h.ring (held_behind h.commits h.weight m maps) r.1)

-- ---- places

slice_get-map : (w k : ℕ) (ms : List Map) → slice_get (map (root w) ms) k ≡ option_map (root w) (back k ms)
slice_get-map w zero [] = refl
slice_get-map w (suc k) [] = refl
slice_get-map w zero (m ∷ ms) = refl
slice_get-map w (suc k) (m ∷ ms) = slice_get-map w k ms

pub told_back : (w k : ℕ) (h : HistoryState) (maps : List Map) (id : Option (List ℕ)) → id ≡ slice_get (roots h) k → Recalls w h maps → id ≡ option_map (root w) (back k (held_by h maps))
told_back w k h maps id is r = is ∙ ap (λ rs. slice_get rs k) (roots_held w h maps r) ∙ slice_get-map w k (held_by h maps)

drop-map : (w k : ℕ) (ms : List Map) → drop k (map (root w) ms) ≡ map (root w) (drop k ms)
drop-map w zero ms = refl
drop-map w (suc k) [] = refl
drop-map w (suc k) (m ∷ ms) = drop-map w k ms

-- what the first place of a root among some says, counted from n
abbrev pub Located : ℕ → List Map → List ℕ → ℕ → Option ℕ → Type 0
Located w ms id n None = until_root w ms id ≡ []
Located w ms id n (Some p) = (k : ℕ) × (p ≡ n + k) × (k < length ms) × (until_root w ms id ≡ drop k ms)

pub located : (w : ℕ) (ms : List Map) (id : List ℕ) (n : ℕ) → Located w ms id n (first_place (same_bytes id) n (map (root w) ms))
located w [] id n = refl
located w (m ∷ ms) id n = go (same_bytes id (root w m)) refl (first_place (same_bytes id) (suc n) (map (root w) ms)) (located w ms id (suc n))
  where
    behind : same_bytes id (root w m) ≡ false → (o : Option ℕ) → Located w ms id (suc n) o → Located w (m ∷ ms) id n o
    behind e None l = ap (λ b. cond b (m ∷ ms) (until_root w ms id)) e ∙ l
    behind e (Some p) l = (suc l.0, omega (arith, l.1), omega (arith, l.2), ap (λ b. cond b (m ∷ ms) (until_root w ms id)) e ∙ l.3)

    go : (b : Bool) → same_bytes id (root w m) ≡ b → (o : Option ℕ) → Located w ms id (suc n) o → Located w (m ∷ ms) id n (cond b (Some n) o)
    go true e o l = (0, omega arith, omega arith, ap (λ b. cond b (m ∷ ms) (until_root w ms id)) e)
    go false e o l = behind e o l

-- where a history finds a root, from a place on
pub found_at : (w : ℕ) (h : HistoryState) (maps : List Map) (id : List ℕ) (from : ℕ) (o : Option ℕ) → o ≡ first_place (same_bytes id) from (drop from (roots h)) → Recalls w h maps → Located w (drop from (held_by h maps)) id from o
found_at w h maps id from o is r =
    subst (Located w (drop from (held_by h maps)) id from)
    (sym (is ∙ ap (λ rs. first_place (same_bytes id) from (drop from rs)) (roots_held w h maps r) ∙ ap (first_place (same_bytes id) from) (drop-map w from (held_by h maps))))
    (located w (drop from (held_by h maps)) id from)

-- whether a root is kept, by the place that is found
pub told_kept : (id : List ℕ) (rs : List (List ℕ)) (n : ℕ) → is_some (first_place (same_bytes id) n rs) ≡ list_any (same_bytes id) rs
told_kept id [] n = refl
told_kept id (r ∷ rs) n = go (same_bytes id r) (told_kept id rs (suc n))
  where
    go : (b : Bool) → is_some (first_place (same_bytes id) (suc n) rs) ≡ list_any (same_bytes id) rs → is_some (cond b (Some n) (first_place (same_bytes id) (suc n) rs)) ≡ (b || list_any (same_bytes id) rs)
    go true ih = refl
    go false ih = ih

pub kept_there : (id : List ℕ) (rs : List (List ℕ)) (o : Option ℕ) (p : ℕ) → o ≡ first_place (same_bytes id) 0 (drop 0 rs) → o ≡ Some p → list_any (same_bytes id) rs ≡ true
kept_there id rs o p is some = sym (told_kept id rs 0) ∙ ap is_some (sym is ∙ some)

pub kept_nowhere : (id : List ℕ) (rs : List (List ℕ)) (o : Option ℕ) → o ≡ first_place (same_bytes id) 0 (drop 0 rs) → o ≡ None → list_any (same_bytes id) rs ≡ false
kept_nowhere id rs o is none = sym (told_kept id rs 0) ∙ ap is_some (sym is ∙ none)

-- the roots from the first that is one on, by its place, counted from n
abbrev pub Rest : List (List ℕ) → List ℕ → ℕ → Option ℕ → Type 0
Rest rs id n None = from_root id rs ≡ []
Rest rs id n (Some p) = (k : ℕ) × (p ≡ n + k) × (from_root id rs ≡ drop k rs)

rest_from : (id : List ℕ) (rs : List (List ℕ)) (n : ℕ) → Rest rs id n (first_place (same_bytes id) n rs)
rest_from id [] n = refl
rest_from id (r ∷ rs) n = go (same_bytes id r) refl (first_place (same_bytes id) (suc n) rs) (rest_from id rs (suc n))
  where
    behind : same_bytes id r ≡ false → (o : Option ℕ) → Rest rs id (suc n) o → Rest (r ∷ rs) id n o
    behind e None l = ap (λ b. cond b (r ∷ rs) (from_root id rs)) e ∙ l
    behind e (Some p) l = (suc l.0, omega (arith, l.1), ap (λ b. cond b (r ∷ rs) (from_root id rs)) e ∙ l.2)

    go : (b : Bool) → same_bytes id r ≡ b → (o : Option ℕ) → Rest rs id (suc n) o → Rest (r ∷ rs) id n (cond b (Some n) o)
    go true e o l = (0, omega arith, ap (λ b. cond b (r ∷ rs) (from_root id rs)) e)
    go false e o l = behind e o l

-- of two roots of which the first is not kept, the second is not kept behind it
pub start_nowhere : (from to : List ℕ) (rs : List (List ℕ)) (o : Option ℕ) → o ≡ first_place (same_bytes to) 0 (drop 0 rs) → o ≡ None → list_any (same_bytes from) (from_root to rs) ≡ false
start_nowhere from to rs o is none = ap (list_any (same_bytes from)) (subst (Rest rs to 0) (sym is ∙ none) (rest_from to rs 0))

-- else it is kept there where it is found from the place of the first on
pub start_told : (from to : List ℕ) (rs : List (List ℕ)) (o u : Option ℕ) (p : ℕ) → o ≡ first_place (same_bytes to) 0 (drop 0 rs) → o ≡ Some p → u ≡ first_place (same_bytes from) p (drop p rs)
    → list_any (same_bytes from) (from_root to rs) ≡ is_some u
start_told from to rs o u p is some was = go (subst (Rest rs to 0) (sym is ∙ some) (rest_from to rs 0))
  where
    go : Rest rs to 0 (Some p) → list_any (same_bytes from) (from_root to rs) ≡ is_some u
    go l = let e : l.0 ≡ p = omega (arith, l.1) in ap (list_any (same_bytes from)) (l.2 ∙ ap (λ k. drop k rs) e) ∙ sym (told_kept from (drop p rs) p) ∙ ap is_some (sym was)

pub told_held : (w : ℕ) (h : HistoryState) (maps : List Map) (id : List ℕ) (o : Option ℕ) → o ≡ first_place (same_bytes id) 0 (drop 0 (roots h)) → Recalls w h maps → is_some o ≡ is_held w (held_by h maps) id
told_held w h maps id o is r = ap is_some (is ∙ ap (first_place (same_bytes id) 0) (roots_held w h maps r)) ∙ any 0 (held_by h maps)
  where
    any : (n : ℕ) (ms : List Map) → is_some (first_place (same_bytes id) n (map (root w) ms)) ≡ is_held w ms id
    any n [] = refl
    any n (m ∷ ms) = go (same_bytes id (root w m)) (any (suc n) ms)
      where
        go : (b : Bool) → is_some (first_place (same_bytes id) (suc n) (map (root w) ms)) ≡ is_held w ms id → is_some (cond b (Some n) (first_place (same_bytes id) (suc n) (map (root w) ms))) ≡ (b || is_held w ms id)
        go true ih = refl
        go false ih = ih

-- ---- a search

drop-split : (rs : List (List ℕ)) (k : ℕ) (r : List ℕ) → slice_get rs k ≡ Some r → drop k rs ≡ r ∷ drop (suc k) rs
drop-split [] k r is = absurd (cc)
drop-split (x ∷ rs) zero r is = let e : x ≡ r = cc in ap (λ x. x ∷ rs) e
drop-split (x ∷ rs) (suc k) r is = drop-split rs k r is

drop-end : (rs : List (List ℕ)) (k : ℕ) → slice_get rs k ≡ None → drop k rs ≡ []
drop-end [] zero is = refl
drop-end [] (suc k) is = refl
drop-end (x ∷ rs) zero is = absurd (cc)
drop-end (x ∷ rs) (suc k) is = drop-end rs k is

test_at : (id : List ℕ) (k : ℕ) (rs : List (List ℕ)) (r : List ℕ) (b : Bool) → Some r ≡ slice_get rs k → same_bytes id r ≡ b → first_place (same_bytes id) k (drop k rs) ≡ cond b (Some k) (first_place (same_bytes id) (suc k) (drop (suc k) rs))
test_at id k rs r b is e = ap (first_place (same_bytes id) k) (drop-split rs k r (sym is)) ∙ ap (λ b. cond b (Some k) (first_place (same_bytes id) (suc k) (drop (suc k) rs))) e

-- the next place, where this one has not the root
pub not_here : (id : List ℕ) (k n : ℕ) (rs : List (List ℕ)) → n ≡ suc k → is_root id (slice_get rs k) ≡ false → first_place (same_bytes id) n (drop n rs) ≡ first_place (same_bytes id) k (drop k rs)
not_here id k n rs e is = ap (λ n. first_place (same_bytes id) n (drop n rs)) e ∙ go (slice_get rs k) refl is
  where
    go : (o : Option (List ℕ)) → slice_get rs k ≡ o → is_root id o ≡ false → first_place (same_bytes id) (suc k) (drop (suc k) rs) ≡ first_place (same_bytes id) k (drop k rs)
    go None at e = ap (first_place (same_bytes id) (suc k)) (drop-end rs (suc k) (past rs k at)) ∙ sym (ap (first_place (same_bytes id) k) (drop-end rs k at))
      where
        past : (rs : List (List ℕ)) (k : ℕ) → slice_get rs k ≡ None → slice_get rs (suc k) ≡ None
        past [] zero at = refl
        past [] (suc k) at = refl
        past (r ∷ rs) zero at = absurd (cc)
        past (r ∷ rs) (suc k) at = past rs k at
    go (Some r) at e = sym (test_at id k rs r false (sym at) e)

pub right_here : (id : List ℕ) (k : ℕ) (rs : List (List ℕ)) → is_root id (slice_get rs k) ≡ true → Some k ≡ first_place (same_bytes id) k (drop k rs)
right_here id k rs is = go (slice_get rs k) refl is
  where
    go : (o : Option (List ℕ)) → slice_get rs k ≡ o → is_root id o ≡ true → Some k ≡ first_place (same_bytes id) k (drop k rs)
    go None at e = absurd (cc)
    go (Some r) at e = sym (test_at id k rs r true (sym at) e)

pub not_past : (id : List ℕ) (k : ℕ) (rs : List (List ℕ)) → length rs ≤ k → None ≡ first_place (same_bytes id) k (drop k rs)
not_past id k rs h = sym (ap (first_place (same_bytes id) k) (none rs k h))
  where
    none : (rs : List (List ℕ)) (k : ℕ) → length rs ≤ k → drop k rs ≡ []
    none [] zero h = refl
    none [] (suc k) h = refl
    none (r ∷ rs) zero h = absurd (omega (arith, h))
    none (r ∷ rs) (suc k) h = none rs k (omega (arith, h))

-- a test of bytes, step by step
pub tested : (a b x y : List ℕ) (o : Ordering) (t : Bool) → t ≡ is_eq o → o ≡ bytes_cmp x y → x ≡ a → y ≡ b → t ≡ same_bytes a b
tested a b x y o t e f p q = e ∙ ap is_eq (f ∙ ap (λ x. bytes_cmp x y) p ∙ ap (bytes_cmp a) q)

pub root_behind : (h : HistoryState) (place : ℕ) (n : ℕ) (o : Option CommitState) → 0 < place → n ≡ place - 1 → o ≡ slice_get h.ring n → option_map (λ (c : CommitState). c.former) o ≡ slice_get (roots h) place
root_behind h zero n o l e is = absurd (omega (arith, l))
root_behind h (suc place) n o l e is = ap (option_map (λ (c : CommitState). c.former)) (is ∙ ap (slice_get h.ring) (omega (arith, e))) ∙ go h.ring place
  where
    go : (cs : List CommitState) (k : ℕ) → option_map (λ (c : CommitState). c.former) (slice_get cs k) ≡ slice_get (map (λ (c : CommitState). c.former) cs) k
    go [] zero = refl
    go [] (suc k) = refl
    go (c ∷ cs) zero = refl
    go (c ∷ cs) (suc k) = go cs k

pub length-roots : (h : HistoryState) → length (roots h) ≡ suc (length h.ring)
length-roots h = ap suc (go h.ring)
  where
    go : (cs : List CommitState) → length (map (λ (c : CommitState). c.former) cs) ≡ length cs
    go [] = refl
    go (c ∷ cs) = ap suc (go cs)
