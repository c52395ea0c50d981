-- One byte, given bytes, numbers of a fixed width: what is spelled is read, and what is read is spelled so.
use Rattle.std.proofs.Common.{◌≡◌, ℕ, zero, suc, ◌+◌, ◌^◌, ◌<◌, ◌≤◌, Bool, true, false, ◌&&◌, List, [], ◌∷◌, ◌++◌, length, get_or, drop, Result, Ok, refl, sym, ap, ◌∙◌, arith, subst, ltb, eqb, length-drop, drop-cons, get_or-drop}
use Rattle.std.specs.Int.{Width, w32, w64, byte_len, bytes_high_first, to_be_bytes, from_be_bytes}
use Rattle.std.proofs.lemmas.Bool.Decides.{nat_tests}
use Rattle.std.proofs.lemmas.List.{drop-drop}
use Rattle.std.proofs.lemmas.Nat.{from_be_bytes-to_be_bytes_4, from_be_bytes-to_be_bytes_8, be_bytes_4, be_bytes_8}
use Rattle.base_model.specs.Bytes.{AreBytes}
use Rattle.base_model.specs.Fields.{bytes_at}
use Rattle.base_model.proofs.Fields.{got, IsRead, bytes_at-IsRead, Stands, Stands-then, bytes_at-Stands, AreBytes-drop, AreBytes-take}
use Rattle.base_model.proofs.Results.{ok_is, bind_ok, met}
use Rattle.disk_model.proofs.Bytes.{below_bytes}
use Rattle.store_model.specs.Fields.{byte_at, these_at, big_endian_at}

-- ---- one byte

-- a place in front of a byte
there : (bytes : List ℕ) (at b : ℕ) (rest : List ℕ) → at ≤ length bytes → drop at bytes ≡ b ∷ rest → at < length bytes
there bytes at b rest h e = omega (arith, h, length-drop at bytes, ap length e)

-- that byte
byte_is : (bytes : List ℕ) (at b : ℕ) (rest : List ℕ) → drop at bytes ≡ b ∷ rest → get_or bytes at 0 ≡ b
byte_is bytes at b rest e = let z : at + 0 ≡ at = omega arith in ap (λ i. get_or bytes i 0) (sym z) ∙ sym (get_or-drop at bytes 0 0) ∙ ap (λ l. get_or l 0 0) e

-- what stands behind it
behind_byte : (bytes : List ℕ) (at b : ℕ) (rest : List ℕ) → drop at bytes ≡ b ∷ rest → drop (at + 1) bytes ≡ rest
behind_byte bytes at b rest e = sym (drop-drop 1 at bytes) ∙ ap (drop 1) e ∙ start rest
  where
    start : (x : List ℕ) → drop 0 x ≡ x
    start [] = refl
    start (c ∷ x) = refl

-- one byte is read
pub byte_at-IsRead : {E : Type 0} (short : ℕ → E) (b : ℕ) (bytes : List ℕ) (at : ℕ) (rest : List ℕ) → at ≤ length bytes → drop at bytes ≡ b ∷ rest → IsRead (byte_at short bytes at) b bytes rest
unfolding byte_at
byte_at-IsRead {E} short b bytes at rest h e =
    let inside = there bytes at b rest h e in
    let test : ltb at (length bytes) ≡ true = grind (arith, nat_tests) in
    record { place = at + 1; is = rw test (ap (λ x. got {E = E} x (at + 1)) (byte_is bytes at b rest e)); left = behind_byte bytes at b rest e; inside = omega (arith, inside) }

-- the byte at a place inside
byte_here : (bytes : List ℕ) (at : ℕ) → ltb at (length bytes) ≡ true → Stands bytes at (get_or bytes at 0 ∷ []) (at + 1)
byte_here bytes at test =
    let place : suc at ≡ at + 1 = omega arith in
    drop-cons bytes at 0 (inside at (length bytes) test) ∙ ap (λ p. get_or bytes at 0 ∷ drop p bytes) place
  where
    inside : (a n : ℕ) → ltb a n ≡ true → a < n
    inside a n t = grind (arith, nat_tests)

-- a byte that was read stands there
pub byte_at-Stands : {E : Type 0} (short : ℕ → E) (bytes : List ℕ) (at b next : ℕ) → byte_at short bytes at ≡ got b next → Stands bytes at (b ∷ []) next
unfolding byte_at
byte_at-Stands short bytes at b next e =
    let g = met (ltb at (length bytes)) (short at) (got (get_or bytes at 0) (at + 1)) (b, next) e in
    subst (λ (p : ℕ × ℕ). Stands bytes at (p.0 ∷ []) p.1) (ok_is (get_or bytes at 0, at + 1) (b, next) g.1) (byte_here bytes at g.0)

-- ---- given bytes

-- bytes were passed, and the rest stands at the place after them
pub record IsPassed {E : Type 0} (read : Result ℕ E) (bytes rest : List ℕ) : Type 0 where
  pub place : ℕ
  pub is : read ≡ Ok place
  pub left : drop place bytes ≡ rest
  pub inside : place ≤ length bytes

-- given bytes that stand there are passed
pub these_at-IsPassed : {E : Type 0} (wrong : ℕ → E) (xs bytes : List ℕ) (at : ℕ) (rest : List ℕ) → at ≤ length bytes → drop at bytes ≡ xs ++ rest → IsPassed (these_at wrong xs bytes at) bytes rest
unfolding these_at
these_at-IsPassed wrong [] bytes at rest h e = record { place = at; is = refl; left = e; inside = h }
these_at-IsPassed wrong (x ∷ xs) bytes at rest h e =
    let inside = there bytes at x (xs ++ rest) h e in
    let one : ltb at (length bytes) ≡ true = grind (arith, nat_tests) in
    let same : eqb x x ≡ true = grind (arith, nat_tests) in
    let more = these_at-IsPassed wrong xs bytes (at + 1) rest (omega (arith, inside)) (behind_byte bytes at x (xs ++ rest) e) in
    record { place = more.place; is = rw (one, byte_is bytes at x (xs ++ rest) e, same) more.is; left = more.left; inside = more.inside }

both_true : (a b : Bool) → (a && b) ≡ true → (a ≡ true) × (b ≡ true)
both_true true true e = (refl, refl)
both_true true false e = absurd cc
both_true false b e = absurd cc

pub same_number : (a b : ℕ) → eqb a b ≡ true → a ≡ b
same_number a b t = grind (arith, nat_tests)

-- bytes that were passed stand there
pub these_at-Stands : {E : Type 0} (wrong : ℕ → E) (xs bytes : List ℕ) (at next : ℕ) → these_at wrong xs bytes at ≡ Ok next → Stands bytes at xs next
unfolding these_at
these_at-Stands wrong [] bytes at next e = ap (λ p. drop p bytes) (ok_is at next e)
these_at-Stands wrong (x ∷ xs) bytes at next e =
    let g = met (ltb at (length bytes) && eqb (get_or bytes at 0) x) (wrong at) (these_at wrong xs bytes (at + 1)) next e in
    let t = both_true (ltb at (length bytes)) (eqb (get_or bytes at 0) x) g.0 in
    let one : Stands bytes at (x ∷ []) (at + 1) = subst (λ b. Stands bytes at (b ∷ []) (at + 1)) (same_number (get_or bytes at 0) x t.1) (byte_here bytes at t.0) in
    Stands-then bytes at (at + 1) next (x ∷ []) xs one (these_at-Stands wrong xs bytes (at + 1) next g.1)

-- ---- numbers of a fixed width

length-bytes_high_first : (k n : ℕ) → length (bytes_high_first k n) ≡ k
length-bytes_high_first zero n = refl
length-bytes_high_first (suc k) n = ap suc (length-bytes_high_first k n)

-- numbers of a width and lists of so many bytes are one
pub record IsExact (w : Width) : Type 0 where
  pub read : (n : ℕ) → n < 256 ^ byte_len w → from_be_bytes w (to_be_bytes w n) ≡ n
  pub spelled : (bytes : List ℕ) → length bytes ≡ byte_len w → AreBytes bytes → to_be_bytes w (from_be_bytes w bytes) ≡ bytes
  pub fits : (bytes : List ℕ) → AreBytes bytes → from_be_bytes w bytes < 256 ^ byte_len w

pub exact_32 : IsExact w32
exact_32 = record {
  read = from_be_bytes-to_be_bytes_4;
  spelled = λ bytes n small. be_bytes_4 bytes (from_be_bytes w32 bytes) n (below_bytes bytes small) refl;
  fits = λ bytes small. let b = below_bytes bytes small in omega (arith, b 0, b 1, b 2, b 3);
}

pub exact_64 : IsExact w64
exact_64 = record {
  read = from_be_bytes-to_be_bytes_8;
  spelled = λ bytes n small. be_bytes_8 bytes (from_be_bytes w64 bytes) n (below_bytes bytes small) refl;
  fits = λ bytes small. let b = below_bytes bytes small in omega (arith, b 0, b 1, b 2, b 3, b 4, b 5, b 6, b 7);
}

-- a number that is spelled in all its bytes is read
pub big_endian_at-IsRead : {E : Type 0} (short : ℕ → E) (w : Width) (n : ℕ) (bytes : List ℕ) (at : ℕ) (rest : List ℕ) → IsExact w → n < 256 ^ byte_len w → at ≤ length bytes → drop at bytes ≡ to_be_bytes w n ++ rest → IsRead (big_endian_at short w bytes at) n bytes rest
unfolding big_endian_at
big_endian_at-IsRead {E} short w n bytes at rest exact small h e =
    let b = bytes_at-IsRead short (to_be_bytes w n) bytes at rest h e in
    let read : bytes_at short (byte_len w) bytes at ≡ got (to_be_bytes w n) b.place = ap (λ k. bytes_at short k bytes at) (sym (length-bytes_high_first (byte_len w) n)) ∙ b.is in
    record { place = b.place; is = rw read (ap (λ x. got {E = E} x b.place) (exact.read n small)); left = b.left; inside = b.inside }

-- a number that was read stands there in all its bytes
pub big_endian_at-Stands : {E : Type 0} (short : ℕ → E) (w : Width) (bytes : List ℕ) (at n next : ℕ) → IsExact w → AreBytes bytes → big_endian_at short w bytes at ≡ got n next → Stands bytes at (to_be_bytes w n) next × (n < 256 ^ byte_len w)
unfolding big_endian_at
big_endian_at-Stands short w bytes at n next exact fits e =
    let a = bind_ok (bytes_at short (byte_len w) bytes at) (λ found. Ok (from_be_bytes w found.0, found.1)) (n, next) e in
    let t = bytes_at-Stands short (byte_len w) bytes at a.0.0 a.0.1 a.1 in
    let small : AreBytes a.0.0 = subst AreBytes (sym t.2) (AreBytes-take (byte_len w) (drop at bytes) (AreBytes-drop at bytes fits)) in
    let here : Stands bytes at (to_be_bytes w (from_be_bytes w a.0.0)) a.0.1 = subst (λ x. Stands bytes at x a.0.1) (sym (exact.spelled a.0.0 t.1 small)) t.0 in
    subst (λ (p : ℕ × ℕ). Stands bytes at (to_be_bytes w p.0) p.1 × (p.0 < 256 ^ byte_len w)) (ok_is (from_be_bytes w a.0.0, a.0.1) (n, next) a.2) (here, exact.fits a.0.0 small)
