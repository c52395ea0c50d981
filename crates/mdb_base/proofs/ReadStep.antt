-- One read of a source in memory.
use Rattle.std.proofs.Common.{◌≡◌, ℕ, ◌+◌, ◌-◌, ◌<◌, ◌≤◌, min, List, [], ◌++◌, length, take, drop, sym, ◌∙◌, ap, arith, take-append-drop, length-append, length-drop}
use Rattle.std.proofs.lemmas.List.{take_at, drop_all, drop-drop}

-- what is left is what the read gave and what is left then
pub left_splits : (xs got after : List ℕ) (at n : ℕ) → got ≡ take n (drop at xs) → length got ≡ n → drop at xs ≡ take n (got ++ after) ++ drop (at + n) xs
left_splits xs got after at n is size =
    sym (take-append-drop n (drop at xs))
    ∙ ap (λ (l : List ℕ). l ++ drop n (drop at xs)) (sym is ∙ sym (take_at got after n size))
    ∙ ap (λ (l : List ℕ). take n (got ++ after) ++ l) (drop-drop n at xs)

-- where there is room and a read gives nothing, nothing is left
pub nothing_left : (xs got buf : List ℕ) (at n p : ℕ) → at ≤ length xs → 0 < p → n ≡ min (min (length buf) p) (length xs - at) → length got ≡ n → n ≡ 0 → 0 < length (got ++ drop n buf) → drop (at + n) xs ≡ []
nothing_left xs got buf at n p le some count size none room =
    drop_all (at + n) xs (omega (arith, length-append got (drop n buf), length-drop n buf))
