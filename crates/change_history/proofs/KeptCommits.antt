-- The latest commits within the limits.
use Rattle.std.proofs.Common.{◌≡◌, ℕ, zero, suc, ◌+◌, ◌-◌, ◌<◌, ◌≤◌, Bool, true, false, cond, nat_le, List, [], ◌∷◌, length, take, refl, sym, ap, ◌∙◌, arith, Option, Some, None}
use Rattle.std.specs.List.{sum_by, slice_get}
use Rattle.std.proofs.lemmas.List.{length-take, length-take-le}
use Rattle.std.proofs.lemmas.List.Sums.{sum_by-cons}
use Rattle.std.proofs.lemmas.Option.{slice_get_within}
use Rattle.std.proofs.lemmas.Bool.{leb-true, leb-false, le-leb, lt-leb}
use Rattle.change_history.specs.Histories.{CommitState, commit_weight, kept}

abbrev sum : List CommitState → ℕ
sum cs = sum_by commit_weight cs

pub sum-cons : (c : CommitState) (cs : List CommitState) → sum (c ∷ cs) ≡ commit_weight c + sum cs
sum-cons c cs = sum_by-cons commit_weight c cs

-- none are kept of none, or for none
pub kept-none : (z : ℕ) (cs : List CommitState) → kept 0 z cs ≡ []
kept-none z [] = refl
kept-none z (c ∷ cs) = refl

pub length-kept : (n z : ℕ) (cs : List CommitState) → length (kept n z cs) ≤ n
length-kept n z [] = omega arith
length-kept zero z (c ∷ cs) = omega arith
length-kept (suc n) z (c ∷ cs) = go (nat_le (commit_weight c) z) (length-kept n (z - commit_weight c) cs)
  where
    go : (b : Bool) → length (kept n (z - commit_weight c) cs) ≤ n → length (cond b (c ∷ kept n (z - commit_weight c) cs) []) ≤ suc n
    go true ih = omega (arith, ih)
    go false ih = omega arith

-- what is within the limits is kept
pub kept-all : (n z : ℕ) (cs : List CommitState) → length cs ≤ n → sum cs ≤ z → kept n z cs ≡ cs
kept-all n z [] few light = refl
kept-all zero z (c ∷ cs) few light = absurd (omega (arith, few))
kept-all (suc n) z (c ∷ cs) few light =
    ap (λ b. cond b (c ∷ kept n (z - commit_weight c) cs) []) (le-leb (commit_weight c) z (omega (arith, light, sum-cons c cs)))
    ∙ ap (λ cs. c ∷ cs) (kept-all n (z - commit_weight c) cs (omega (arith, few)) (omega (arith, light, sum-cons c cs)))

-- the oldest of commits that are too heavy is not kept
pub kept-heavy : (n z k : ℕ) (cs : List CommitState) → suc k ≡ length cs → z < sum cs → kept n z (take k cs) ≡ kept n z cs
kept-heavy n z k [] len heavy = absurd (omega (arith, len))
kept-heavy zero z k (c ∷ cs) len heavy = kept-none z (take k (c ∷ cs))
kept-heavy (suc n) z zero (c ∷ []) len heavy = sym (ap (λ b. cond b (c ∷ kept n (z - commit_weight c) []) []) (lt-leb (commit_weight c) z (omega (arith, heavy, sum-cons c []))))
kept-heavy (suc n) z zero (c ∷ d ∷ cs) len heavy = absurd (omega (arith, len))
kept-heavy (suc n) z (suc k) (c ∷ cs) len heavy = go (nat_le (commit_weight c) z) refl (λ fits. kept-heavy n (z - commit_weight c) k cs (omega (arith, len)) (omega (arith, heavy, fits, sum-cons c cs)))
  where
    go : (b : Bool) → nat_le (commit_weight c) z ≡ b → (commit_weight c ≤ z → kept n (z - commit_weight c) (take k cs) ≡ kept n (z - commit_weight c) cs) → cond b (c ∷ kept n (z - commit_weight c) (take k cs)) [] ≡ cond b (c ∷ kept n (z - commit_weight c) cs) []
    go true e ih = ap (λ cs. c ∷ cs) (ih (leb-true (commit_weight c) z e))
    go false e ih = refl

-- nor are more than there may be
pub kept-take : (n k z : ℕ) (cs : List CommitState) → n ≤ k → kept n z (take k cs) ≡ kept n z cs
kept-take zero k z cs h = kept-none z (take k cs) ∙ sym (kept-none z cs)
kept-take (suc n) zero z cs h = absurd (omega (arith, h))
kept-take (suc n) (suc k) z [] h = refl
kept-take (suc n) (suc k) z (c ∷ cs) h = ap (λ ds. cond (nat_le (commit_weight c) z) (c ∷ ds) []) (kept-take n k (z - commit_weight c) cs (omega (arith, h)))

-- what is left weighs what the last one does not
pub sum-without : (k : ℕ) (cs : List CommitState) (c : CommitState) → suc k ≡ length cs → slice_get cs k ≡ Some c → sum (take k cs) + commit_weight c ≡ sum cs
sum-without k [] c len is = absurd (omega (arith, len))
sum-without zero (d ∷ []) c len is = let s : d ≡ c = cc in omega (arith, ap commit_weight s, sum-cons d [])
sum-without zero (d ∷ e ∷ cs) c len is = absurd (omega (arith, len))
sum-without (suc k) (d ∷ cs) c len is = omega (arith, sum-without k cs c (omega (arith, len)) is, sum-cons d (take k cs), sum-cons d cs)

-- the last of some commits
pub last_place : (cs : List CommitState) (c : CommitState) → slice_get cs (length cs - 1) ≡ Some c → suc (length cs - 1) ≡ length cs
last_place [] c is = absurd (cc)
last_place (d ∷ cs) c is = omega arith

-- where there is no last one, there is none
pub no_last : (cs : List CommitState) → slice_get cs (length cs - 1) ≡ None → cs ≡ []
no_last [] none = refl
no_last (d ∷ cs) none = absurd (go (length cs) (length (d ∷ cs) - 1) (omega arith) none)
  where
    go : (n k : ℕ) → k ≡ length cs → slice_get (d ∷ cs) k ≡ None → ⊥
    go n k e none = some (d ∷ cs) k (omega (arith, e)) none
      where
        some : (ds : List CommitState) (k : ℕ) → k < length ds → slice_get ds k ≡ None → ⊥
        some [] k l none = omega (arith, l)
        some (d ∷ ds) zero l none = cc
        some (d ∷ ds) (suc k) l none = some ds k (omega (arith, l)) none

-- one commit less: what is left of those that were too heavy
pub one_less : (z n : ℕ) (cs ds : List CommitState) (c : CommitState) → slice_get cs (length cs - 1) ≡ Some c → ds ≡ take (length cs - 1) cs → z < sum cs
    → (kept n z ds ≡ kept n z cs) × (sum ds + commit_weight c ≡ sum cs) × (suc (length ds) ≡ length cs)
one_less z n cs ds c is e heavy =
    let p = last_place cs c is in (
      ap (kept n z) e ∙ kept-heavy n z (length cs - 1) cs p heavy,
      omega (arith, ap sum e, sum-without (length cs - 1) cs c p is),
      omega (arith, ap length e, length-take-le (length cs - 1) cs (omega arith), p),
    )

-- one commit in front
pub one_more : (n : ℕ) (cs ds : List CommitState) (c gone : CommitState) → length cs ≤ n → ds ≡ take n (c ∷ cs) → slice_get (c ∷ cs) n ≡ Some gone → sum ds + commit_weight gone ≡ commit_weight c + sum cs
one_more n cs ds c gone few e is = omega (arith, ap sum e, sum-without n (c ∷ cs) gone (omega (arith, few, slice_get_within (c ∷ cs) n gone is)) is, sum-cons c cs)

pub room_left : (n : ℕ) (cs ds : List CommitState) (c : CommitState) → ds ≡ take n (c ∷ cs) → slice_get (c ∷ cs) n ≡ None → ds ≡ c ∷ cs
room_left n cs ds c e none = e ∙ go (c ∷ cs) n none
  where
    go : (ds : List CommitState) (k : ℕ) → slice_get ds k ≡ None → take k ds ≡ ds
    go [] zero none = refl
    go [] (suc k) none = refl
    go (d ∷ ds) zero none = absurd (cc)
    go (d ∷ ds) (suc k) none = ap (λ ds. d ∷ ds) (go ds k none)

-- where there is no last commit, none is too heavy
pub none_left : (z n : ℕ) (cs : List CommitState) → slice_get cs (length cs - 1) ≡ None → n ≡ sum cs → z < n → ⊥
none_left z n cs none e heavy = let s : sum cs ≡ 0 = ap sum (no_last cs none) in omega (arith, e, heavy)

pub length-take_most : (n : ℕ) (cs : List CommitState) → length (take n cs) ≤ n
length-take_most n cs = omega (arith, length-take n cs)
