-- Pieces of a payload.
use Rattle.std.proofs.Common.{◌≡◌, ℕ, ◌+◌, ◌-◌, ◌≤◌, List, [], ◌∷◌, ◌++◌, length, take, drop, slice_range, refl, sym, ap, ◌∙◌, arith, length-take, length-drop}
use Rattle.std.proofs.lemmas.List.{drop-drop, drop-take, nil_from_length, take_at}

-- a part of a list that begins later
pub range-later : (xs : List ℕ) (i j k : ℕ) → k ≤ j - i → slice_range xs (i + k) j ≡ drop k (slice_range xs i j)
range-later xs i j k h =
    let e : k + (j - (i + k)) ≡ j - i = omega arith in
    ap (take (j - (i + k))) (sym (drop-drop k i xs)) ∙ sym (drop-take k (j - (i + k)) (drop i xs)) ∙ ap (λ n. drop k (take n (drop i xs))) e

-- behind all of it nothing is left
pub range-past : (xs : List ℕ) (i j k : ℕ) → j - i ≤ k → slice_range xs j j ≡ drop k (slice_range xs i j)
range-past xs i j k h =
    nil_from_length (slice_range xs j j) (omega (arith, length-take (j - j) (drop j xs)))
    ∙ sym (nil_from_length (drop k (slice_range xs i j)) (omega (arith, length-drop k (slice_range xs i j), length-take (j - i) (drop i xs))))

-- what was read into the front of the room is the piece
pub range-read : (len count : ℕ) (new items from : List ℕ) → length new ≡ len → count ≤ len → take count new ≡ take count from
    → slice_range (take len (new ++ drop (length new) items)) 0 count ≡ take (length (slice_range (take len (new ++ drop (length new) items)) 0 count)) from
range-read len count new items from long fits is = whole ∙ is ∙ ap (λ n. take n from) (sym (omega (arith, ap length whole, length-take count new)))
  where
    start : (x : List ℕ) → drop 0 x ≡ x
    start [] = refl
    start (b ∷ x) = refl

    whole : slice_range (take len (new ++ drop (length new) items)) 0 count ≡ take count new
    whole =
        let z : count - 0 ≡ count = omega arith in
        ap (take (count - 0)) (start (take len (new ++ drop (length new) items)))
        ∙ ap (λ n. take n (take len (new ++ drop (length new) items))) z
        ∙ ap (take count) (take_at new (drop (length new) items) len long)
