-- Headers: what is spelled is read, and what is read is spelled so.
use Rattle.std.proofs.Common.{◌≡◌, ℕ, suc, ◌^◌, ◌<◌, Bool, true, false, cond, ◌&&◌, List, [], ◌∷◌, ◌++◌, length, get_or, take, drop, Option, Some, None, Result, Ok, Err, refl, sym, ap, ◌∙◌, arith, subst, ltb, eqb, length-take, take-append-drop}
use Rattle.std.specs.Int.{w64, to_be_bytes}
use Rattle.std.proofs.lemmas.Bool.Decides.{nat_tests}
use Rattle.std.proofs.lemmas.List.{drop_at, drop_all, append-nil}
use Rattle.base_model.specs.Bytes.{AreBytes}
use Rattle.base_model.specs.Fields.{◌>>=◌}
use Rattle.base_model.proofs.Fields.{got, IsRead, Stands, Stands-then, AreBytes-take}
use Rattle.base_model.proofs.Results.{ok_is, bind_ok, passed, met}
use Rattle.store_model.specs.Fields.{byte_at, these_at, big_endian_at}
use Rattle.store_model.specs.Header.{Header, IsHeader, NotAStore, Damaged, header_form, header_of, header_behind_gate, width_at, generation_at, has_open_header, first_gate, open_gate, name_and_version, header_zeros, is_width}
use Rattle.store_model.specs.Laws.{SpelledHeadersAreRead, ReadHeadersAreSpelled}
use Rattle.store_model.proofs.Fields.{byte_at-IsRead, byte_at-Stands, these_at-IsPassed, these_at-Stands, exact_64, big_endian_at-IsRead, big_endian_at-Stands, same_number}

-- ---- what is spelled is read

width_at-IsRead : (file w : ℕ) (bytes : List ℕ) (at : ℕ) (rest : List ℕ) → is_width w ≡ true → at < suc (length bytes) → drop at bytes ≡ w ∷ rest → IsRead (width_at file bytes at) w bytes rest
unfolding width_at
width_at-IsRead file w bytes at rest known h e =
    let b = byte_at-IsRead (Damaged file) w bytes at rest (omega (arith, h)) e in
    record { place = b.place; is = rw (b.is, known) (refl {a = got w b.place}); left = b.left; inside = b.inside }

generation_at-IsRead : (file g : ℕ) (bytes : List ℕ) (at : ℕ) (rest : List ℕ) → 0 < g → g < 2 ^ 64 → at < suc (length bytes) → drop at bytes ≡ to_be_bytes w64 g ++ rest → IsRead (generation_at file bytes at) g bytes rest
unfolding generation_at
generation_at-IsRead file g bytes at rest positive fits h e =
    let b = big_endian_at-IsRead (Damaged file) w64 g bytes at rest exact_64 fits (omega (arith, h)) e in
    let test : eqb g 0 ≡ false = not_zero g positive in
    record { place = b.place; is = rw (b.is, test) (refl {a = got g b.place}); left = b.left; inside = b.inside }
  where
    not_zero : (a : ℕ) → 0 < a → eqb a 0 ≡ false
    not_zero a h = grind (arith, nat_tests)

-- a header is read behind its gate
behind_gate : (file : ℕ) (h : Header) (bytes : List ℕ) (rest : List ℕ) → IsHeader h → 0 < length bytes → drop 1 bytes ≡ name_and_version ++ (h.width ∷ (header_zeros ++ (to_be_bytes w64 h.generation ++ rest))) → header_behind_gate file bytes ≡ Ok h
unfolding header_behind_gate
behind_gate file h bytes rest fits long e =
    let n = these_at-IsPassed (λ _. NotAStore file) name_and_version bytes 1 (h.width ∷ (header_zeros ++ (to_be_bytes w64 h.generation ++ rest))) (omega (arith, long)) e in
    let w = width_at-IsRead file h.width bytes n.place (header_zeros ++ (to_be_bytes w64 h.generation ++ rest)) fits.width (omega (arith, n.inside)) n.left in
    let z = these_at-IsPassed (Damaged file) header_zeros bytes w.place (to_be_bytes w64 h.generation ++ rest) w.inside w.left in
    let g = generation_at-IsRead file h.generation bytes z.place rest fits.positive fits.fits (omega (arith, z.inside)) z.left in
    rw (n.is, w.is, z.is, g.is) refl

open_test : (bytes : List ℕ) → 24 < length bytes → get_or bytes 0 0 ≡ 1 → has_open_header bytes ≡ true
open_test bytes long first = both (ltb first_gate (length bytes)) (eqb (get_or bytes 0 0) open_gate) (grind (arith, nat_tests)) (grind (arith, nat_tests))
  where
    both : (a b : Bool) → a ≡ true → b ≡ true → (a && b) ≡ true
    both a b p q = rw (p, q) refl

pub spelled_headers_are_read : SpelledHeadersAreRead
unfolding header_of
spelled_headers_are_read file h gate rest fits =
    let bytes = header_form h ++ gate ∷ rest in
    let test : has_open_header bytes ≡ true = open_test bytes (omega arith) refl in
    let read : header_behind_gate file (header_form h) ≡ Ok h = behind_gate file h (header_form h) [] fits (omega arith) refl in
    rw (test, read) refl

-- ---- what is read is spelled so

width_at-Stands : (file : ℕ) (bytes : List ℕ) (at w next : ℕ) → width_at file bytes at ≡ got w next → Stands bytes at (w ∷ []) next × (is_width w ≡ true)
unfolding width_at
width_at-Stands file bytes at w next e =
    let a = bind_ok (byte_at (Damaged file) bytes at) (λ w. cond (is_width w.0) (Ok w) (Err (Damaged file at))) (w, next) e in
    let g = met (is_width a.0.0) (Damaged file at) (Ok a.0) (w, next) a.2 in
    subst (λ (p : ℕ × ℕ). Stands bytes at (p.0 ∷ []) p.1 × (is_width p.0 ≡ true)) (ok_is a.0 (w, next) g.1) (byte_at-Stands (Damaged file) bytes at a.0.0 a.0.1 a.1, g.0)

generation_at-Stands : (file : ℕ) (bytes : List ℕ) (at g next : ℕ) → AreBytes bytes → generation_at file bytes at ≡ got g next → Stands bytes at (to_be_bytes w64 g) next × (0 < g) × (g < 2 ^ 64)
unfolding generation_at
generation_at-Stands file bytes at g next fits e =
    let a = bind_ok (big_endian_at (Damaged file) w64 bytes at) (λ g. cond (eqb g.0 0) (Err (Damaged file at)) (Ok g)) (g, next) e in
    let p = passed (eqb a.0.0 0) (Damaged file at) (Ok a.0) (g, next) a.2 in
    let t = big_endian_at-Stands (Damaged file) w64 bytes at a.0.0 a.0.1 exact_64 fits a.1 in
    subst (λ (p : ℕ × ℕ). Stands bytes at (to_be_bytes w64 p.0) p.1 × (0 < p.0) × (p.0 < 2 ^ 64)) (ok_is a.0 (g, next) p.1) (t.0, positive a.0.0 p.0, t.1)
  where
    positive : (a : ℕ) → eqb a 0 ≡ false → 0 < a
    positive a t = grind (arith, nat_tests)

-- what a test let through
some_if : {E A : Type 0} (b : Bool) (x : Result (Option A) E) (y : A) → cond b x (Ok None) ≡ Ok (Some y) → (b ≡ true) × (x ≡ Ok (Some y))
some_if true x y e = (refl, e)
some_if false x y e = absurd cc

some_is : {A : Type 0} (x y : A) → Some x ≡ Some y → x ≡ y
some_is x y e = cc

-- the front of a file with an open header begins with its gate
opened : (bytes : List ℕ) → has_open_header bytes ≡ true → Stands (take first_gate bytes) 0 (1 ∷ []) 1
opened [] e = absurd cc
opened (b ∷ bytes) e = ap (λ x. x ∷ take 23 bytes) (same_number b 1 (second (ltb first_gate (length (b ∷ bytes))) (eqb b 1) e)) ∙ ap (λ l. 1 ∷ l) (sym (start (take 23 bytes)))
  where
    second : (a b : Bool) → (a && b) ≡ true → b ≡ true
    second true b e = e
    second false b e = absurd cc

    start : (x : List ℕ) → drop 0 x ≡ x
    start [] = refl
    start (c ∷ x) = refl

-- an open header is longer than a header alone
pub long_enough : (bytes : List ℕ) → has_open_header bytes ≡ true → first_gate < length bytes
long_enough bytes e = first (ltb first_gate (length bytes)) (eqb (get_or bytes 0 0) 1) e (λ t. grind (arith, nat_tests))
  where
    first : (a b : Bool) → (a && b) ≡ true → (a ≡ true → first_gate < length bytes) → first_gate < length bytes
    first true b e f = f refl
    first false b e f = absurd cc

-- a header that was read behind a gate stands there
behind_gate-Stands : (file : ℕ) (bytes : List ℕ) (h : Header) → AreBytes bytes → Stands bytes 0 (1 ∷ []) 1 → header_behind_gate file bytes ≡ Ok h → IsHeader h × (bytes ≡ header_form h ++ drop first_gate bytes)
unfolding header_behind_gate
behind_gate-Stands file bytes h fits gate e =
    let n = bind_ok (these_at (λ _. NotAStore file) name_and_version bytes 1) (λ name_end. width_at file bytes name_end >>= λ width. these_at (Damaged file) header_zeros bytes width.1 >>= λ zeros_end. generation_at file bytes zeros_end >>= λ generation. Ok (record { width = width.0; generation = generation.0 })) h e in
    let w = bind_ok (width_at file bytes n.0) (λ width. these_at (Damaged file) header_zeros bytes width.1 >>= λ zeros_end. generation_at file bytes zeros_end >>= λ generation. Ok (record { width = width.0; generation = generation.0 })) h n.2 in
    let z = bind_ok (these_at (Damaged file) header_zeros bytes w.0.1) (λ zeros_end. generation_at file bytes zeros_end >>= λ generation. Ok (record { width = w.0.0; generation = generation.0 })) h w.2 in
    let g = bind_ok (generation_at file bytes z.0) (λ generation. Ok (record { width = w.0.0; generation = generation.0 })) h z.2 in
    let tw = width_at-Stands file bytes n.0 w.0.0 w.0.1 w.1 in
    let tg = generation_at-Stands file bytes z.0 g.0.0 g.0.1 fits g.1 in
    let s3 = Stands-then bytes w.0.1 z.0 g.0.1 header_zeros (to_be_bytes w64 g.0.0) (these_at-Stands (Damaged file) header_zeros bytes w.0.1 z.0 z.1) tg.0 in
    let s2 = Stands-then bytes n.0 w.0.1 g.0.1 (w.0.0 ∷ []) (header_zeros ++ to_be_bytes w64 g.0.0) tw.0 s3 in
    let s1 = Stands-then bytes 1 n.0 g.0.1 name_and_version (w.0.0 ∷ (header_zeros ++ to_be_bytes w64 g.0.0)) (these_at-Stands (λ _. NotAStore file) name_and_version bytes 1 n.0 n.1) s2 in
    let made : Header = record { width = w.0.0; generation = g.0.0 } in
    let s0 : bytes ≡ header_form made ++ drop g.0.1 bytes = sym (start bytes) ∙ Stands-then bytes 0 1 g.0.1 (1 ∷ []) (name_and_version ++ (w.0.0 ∷ (header_zeros ++ to_be_bytes w64 g.0.0))) gate s1 in
    let behind : drop first_gate bytes ≡ drop g.0.1 bytes = ap (drop first_gate) s0 ∙ drop_at (header_form made) (drop g.0.1 bytes) first_gate refl in
    let whole : bytes ≡ header_form made ++ drop first_gate bytes = s0 ∙ ap (λ l. header_form made ++ l) (sym behind) in
    subst (λ h. IsHeader h × (bytes ≡ header_form h ++ drop first_gate bytes)) (ok_is made h g.2)
    (record { width = tw.1; positive = tg.1; fits = tg.2 }, whole)
  where
    start : (x : List ℕ) → drop 0 x ≡ x
    start [] = refl
    start (c ∷ x) = refl

pub read_headers_are_spelled : ReadHeadersAreSpelled
unfolding header_of
read_headers_are_spelled file bytes h fits e =
    let o = some_if (has_open_header bytes) (header_behind_gate file (take first_gate bytes) >>= λ h. Ok (Some h)) h e in
    let a = bind_ok (header_behind_gate file (take first_gate bytes)) (λ h. Ok (Some h)) (Some h) o.1 in
    let t = behind_gate-Stands file (take first_gate bytes) a.0 (AreBytes-take first_gate bytes fits) (opened bytes o.0) a.1 in
    let none : drop first_gate (take first_gate bytes) ≡ [] = drop_all first_gate (take first_gate bytes) (omega (arith, length-take first_gate bytes)) in
    let front : take first_gate bytes ≡ header_form a.0 = t.1 ∙ ap (λ l. header_form a.0 ++ l) none ∙ append-nil (header_form a.0) in
    subst (λ h. IsHeader h × (bytes ≡ header_form h ++ drop first_gate bytes)) (some_is a.0 h (ok_is (Some a.0) (Some h) a.2))
    (t.0, sym (take-append-drop first_gate bytes) ∙ ap (λ l. l ++ drop first_gate bytes) front)

-- a header that was read is behind an open gate, and the gate of the first record is there
pub header_is_open : (file : ℕ) (bytes : List ℕ) (h : Header) → header_of file bytes ≡ Ok (Some h) → first_gate < length bytes
unfolding header_of
header_is_open file bytes h e = long_enough bytes (some_if (has_open_header bytes) (header_behind_gate file (take first_gate bytes) >>= λ h. Ok (Some h)) h e).0
