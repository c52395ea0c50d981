-- Lists of bytes, place by place.
use Rattle.std.proofs.Common.{◌≡◌, ℕ, zero, suc, ◌+◌, ◌-◌, ◌<◌, ◌≤◌, List, [], ◌∷◌, ◌++◌, length, get_or, take, drop, replicate, refl, sym, ◌∙◌, ap, arith, length-drop}
use Rattle.std.proofs.lemmas.List.{length-take, get_or-take, get_or-drop}
use Rattle.std.proofs.lemmas.List.FromFn.{fill_by_all}
use Rattle.base_model.specs.Bytes.{AreBytes}

pub bytes_below : (bytes : List ℕ) → ((i : ℕ) → get_or bytes i 0 < 256) → AreBytes bytes
bytes_below [] each = tt
bytes_below (b ∷ bytes) each = (each 0, bytes_below bytes (λ i. each (suc i)))

pub below_bytes : (bytes : List ℕ) → AreBytes bytes → (i : ℕ) → get_or bytes i 0 < 256
below_bytes [] are i = omega arith
below_bytes (b ∷ bytes) are zero = are.0
below_bytes (b ∷ bytes) are (suc i) = below_bytes bytes are.1 i

-- lists that agree at each place are one
pub same_places : (xs ys : List ℕ) → length xs ≡ length ys → ((i : ℕ) → i < length ys → get_or xs i 0 ≡ get_or ys i 0) → xs ≡ ys
same_places xs ys size each = fill_by_all (λ i. get_or ys i 0) xs (length ys) 0 size each ∙ sym (fill_by_all (λ i. get_or ys i 0) ys (length ys) 0 refl (λ i lt. refl))

-- fronts that agree at each place are one
pub same_front : (n : ℕ) (xs ys : List ℕ) → length (take n xs) ≡ length (take n ys) → ((i : ℕ) → i < n → i < length ys → get_or xs i 0 ≡ get_or ys i 0) → take n xs ≡ take n ys
same_front n xs ys size each = same_places (take n xs) (take n ys) size (λ i lt.
    let low : i < n = omega (arith, length-take n ys) in
    get_or-take n xs i 0 low ∙ each i low (omega (arith, length-take n ys)) ∙ sym (get_or-take n ys i 0 low))

-- and so are backs
pub same_back : (n : ℕ) (xs ys : List ℕ) → length xs ≡ length ys → ((i : ℕ) → n ≤ i → i < length ys → get_or xs i 0 ≡ get_or ys i 0) → drop n xs ≡ drop n ys
same_back n xs ys size each = same_places (drop n xs) (drop n ys) (omega (arith, length-drop n xs, length-drop n ys)) (λ i lt.
    get_or-drop n xs i 0 ∙ each (n + i) (omega arith) (omega (arith, length-drop n ys)) ∙ sym (get_or-drop n ys i 0))

-- a place in front of one where both agree
pub front_place : (n : ℕ) (xs ys : List ℕ) → take n xs ≡ take n ys → (i : ℕ) → i < n → get_or xs i 0 ≡ get_or ys i 0
front_place n xs ys same i lt = sym (get_or-take n xs i 0 lt) ∙ ap (λ (l : List ℕ). get_or l i 0) same ∙ get_or-take n ys i 0 lt

-- a place behind one from where both agree
pub back_place : (n : ℕ) (xs ys : List ℕ) → drop n xs ≡ drop n ys → (i : ℕ) → n ≤ i → get_or xs i 0 ≡ get_or ys i 0
back_place n xs ys same i le =
    let there : n + (i - n) ≡ i = omega arith in
    ap (λ (k : ℕ). get_or xs k 0) (sym there) ∙ sym (get_or-drop n xs (i - n) 0) ∙ ap (λ (l : List ℕ). get_or l (i - n) 0) same ∙ get_or-drop n ys (i - n) 0 ∙ ap (λ (k : ℕ). get_or ys k 0) there

pub AreBytes-append : (xs ys : List ℕ) → AreBytes xs → AreBytes ys → AreBytes (xs ++ ys)
AreBytes-append [] ys a b = b
AreBytes-append (x ∷ xs) ys a b = (a.0, AreBytes-append xs ys a.1 b)

pub AreBytes-zeros : (n : ℕ) → AreBytes (replicate n 0)
AreBytes-zeros zero = tt
AreBytes-zeros (suc n) = (omega arith, AreBytes-zeros n)
