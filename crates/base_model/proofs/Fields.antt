-- The fields of a form: what is spelled is read, and what is read is spelled so.
use Rattle.std.proofs.Common.{◌≡◌, ℕ, zero, suc, ◌+◌, ◌-◌, ◌/◌, ◌^◌, ◌<◌, ◌≤◌, Bool, true, false, cond, List, [], ◌∷◌, ◌++◌, length, get_or, take, drop, Result, Ok, Err, refl, sym, ap, ◌∙◌, arith, subst, ltb, leb, eqb, length-append, length-take, length-drop, take-append-drop, append_assoc, drop-cons, get_or-drop}
use Rattle.std.proofs.lemmas.Bool.Decides.{nat_tests}
use Rattle.std.proofs.lemmas.List.{take_at, drop_at, drop-drop}
use Rattle.base_model.specs.Bytes.{AreBytes}
use Rattle.base_model.specs.Bits.{bits_of_bytes, packed, are_zeros}
use Rattle.base_model.specs.Fields.{Field, flag_form, number_or_fault, number_at, bytes_at, flag_at, bits_at}
use Rattle.base_model.specs.ReadUvarint.{UvarintFault, placed, uvarint_read}
use Rattle.base_model.specs.Uvarint.{uvarint}
use Rattle.base_model.proofs.PackedBits.{length-packed, packed-zeros, packed-front, take-packed, length-front_bits}
use Rattle.base_model.proofs.ReadNumbers.{spelled_is_read, read_is_spelled}
use Rattle.base_model.proofs.Results.{ok_is, bind_ok, passed, met}

-- a value that was read, and the place after it
abbrev pub got : {E A : Type 0} → A → ℕ → Field E A
got x next = Ok (x, next)

-- ---- what is spelled is read

-- a field was read as x, and the rest stands at the place after it
pub record IsRead {E A : Type 0} (read : Field E A) (x : A) (bytes rest : List ℕ) : Type 0 where
  pub place : ℕ
  pub is : read ≡ got x place
  pub left : drop place bytes ≡ rest
  pub inside : place ≤ length bytes

-- what stands behind the first bytes
behind : (bytes : List ℕ) (at n : ℕ) (x rest : List ℕ) → n ≡ length x → drop at bytes ≡ x ++ rest → drop (at + n) bytes ≡ rest
behind bytes at n x rest l e = sym (drop-drop n at bytes) ∙ ap (drop n) e ∙ drop_at x rest n (sym l)

-- the place behind these bytes is no later than the end
within : (bytes : List ℕ) (at n : ℕ) (x rest : List ℕ) → at ≤ length bytes → n ≡ length x → drop at bytes ≡ x ++ rest → at + n ≤ length bytes
within bytes at n x rest h l e = omega (arith, h, l, length-drop at bytes, ap length e, length-append x rest)

-- a number that is spelled at a place is read there
pub number_at-IsRead : {E : Type 0} (bad : ℕ → UvarintFault → E) (n : ℕ) (bytes : List ℕ) (at : ℕ) (rest : List ℕ) → n < 2 ^ 64 → at ≤ length bytes → drop at bytes ≡ uvarint n ++ rest → IsRead (number_at bad bytes at) n bytes rest
unfolding number_at
number_at-IsRead bad n bytes at rest lt h e = record {
  place = at + length (uvarint n);
  is = ap (λ r. number_or_fault bad at (placed at r)) (ap uvarint_read e ∙ spelled_is_read n rest lt);
  left = behind bytes at (length (uvarint n)) (uvarint n) rest refl e;
  inside = within bytes at (length (uvarint n)) (uvarint n) rest h refl e;
}

-- so many bytes as are asked for are read
pub bytes_at-IsRead : {E : Type 0} (short : ℕ → E) (x : List ℕ) (bytes : List ℕ) (at : ℕ) (rest : List ℕ) → at ≤ length bytes → drop at bytes ≡ x ++ rest → IsRead (bytes_at short (length x) bytes at) x bytes rest
unfolding bytes_at
bytes_at-IsRead {E} short x bytes at rest h e =
    let room : length x ≤ length bytes - at = omega (arith, length-drop at bytes, ap length e, length-append x rest) in
    let test : ltb (length bytes - at) (length x) ≡ false = grind (arith, nat_tests) in
    record {
      place = at + length x;
      is = rw test (ap (λ t. got {E = E} t (at + length x)) (ap (take (length x)) e ∙ take_at x rest (length x) refl));
      left = behind bytes at (length x) x rest refl e;
      inside = within bytes at (length x) x rest h refl e;
    }

-- the byte at a place is the first of what stands there
first_byte : (bytes : List ℕ) (at b : ℕ) (rest : List ℕ) → drop at bytes ≡ b ∷ rest → get_or bytes at 0 ≡ b
first_byte bytes at b rest e = let z : at + 0 ≡ at = omega arith in ap (λ i. get_or bytes i 0) (sym z) ∙ sym (get_or-drop at bytes 0 0) ∙ ap (λ l. get_or l 0 0) e

-- a flag is read
pub flag_at-IsRead : {E : Type 0} (short bad : ℕ → E) (b : Bool) (bytes : List ℕ) (at : ℕ) (rest : List ℕ) → at ≤ length bytes → drop at bytes ≡ flag_form b ++ rest → IsRead (flag_at short bad bytes at) b bytes rest
unfolding flag_at
flag_at-IsRead {E} short bad b bytes at rest h e =
    let inside : at + 1 ≤ length bytes = omega (arith, h, length-drop at bytes, ap length e) in
    let there : leb (length bytes) at ≡ false = grind (arith, nat_tests) in
    record { place = at + 1; is = rw (there, first_byte bytes at (cond b 1 0) rest e) (tested b); left = behind bytes at 1 (flag_form b) rest refl e; inside = inside }
  where
    tested : (b : Bool) → cond (eqb (cond b 1 0) 0) (got {E = E} false (at + 1)) (cond (eqb (cond b 1 0) 1) (got true (at + 1)) (Err (bad at))) ≡ got b (at + 1)
    tested false = refl
    tested true = refl

-- packed bits are read
pub bits_at-IsRead : {E : Type 0} (short padding : ℕ → E) (k : List Bool) (bytes : List ℕ) (at : ℕ) (rest : List ℕ) → at ≤ length bytes → drop at bytes ≡ packed k ++ rest → IsRead (bits_at short padding (length k) bytes at) k bytes rest
unfolding bits_at
bits_at-IsRead {E} short padding k bytes at rest h e =
    let b = bytes_at-IsRead short (packed k) bytes at rest h e in
    let read : bytes_at short ((length k + 7) / 8) bytes at ≡ got (packed k) b.place = ap (λ n. bytes_at short n bytes at) (sym (length-packed k)) ∙ b.is in
    record { place = b.place; is = rw (read, packed-zeros k) (ap (λ k. got {E = E} k b.place) (take-packed k)); left = b.left; inside = b.inside }

-- ---- what is read is spelled so

-- from one place to the next stand these bytes
abbrev pub Stands : List ℕ → ℕ → List ℕ → ℕ → Type 0
Stands bytes at x next = drop at bytes ≡ x ++ drop next bytes

-- what stands from place to place to place
pub Stands-then : (bytes : List ℕ) (a b c : ℕ) (x y : List ℕ) → Stands bytes a x b → Stands bytes b y c → Stands bytes a (x ++ y) c
Stands-then bytes a b c x y p q = p ∙ ap (λ t. x ++ t) q ∙ sym (append_assoc x y (drop c bytes))

-- a part of bytes is bytes
pub AreBytes-drop : (n : ℕ) (bytes : List ℕ) → AreBytes bytes → AreBytes (drop n bytes)
AreBytes-drop zero [] h = tt
AreBytes-drop zero (b ∷ bytes) h = h
AreBytes-drop (suc n) [] h = tt
AreBytes-drop (suc n) (b ∷ bytes) h = AreBytes-drop n bytes h.1

pub AreBytes-take : (n : ℕ) (bytes : List ℕ) → AreBytes bytes → AreBytes (take n bytes)
AreBytes-take zero [] h = tt
AreBytes-take zero (b ∷ bytes) h = tt
AreBytes-take (suc n) [] h = tt
AreBytes-take (suc n) (b ∷ bytes) h = (h.0, AreBytes-take n bytes h.1)

-- the number behind a field that was read
number_found : {E : Type 0} (bad : ℕ → UvarintFault → E) (at : ℕ) (r : Result (ℕ × ℕ) UvarintFault) (n next : ℕ) → number_or_fault bad at (placed at r) ≡ got n next → (k : ℕ) × (r ≡ Ok (n, k)) × (next ≡ at + k)
number_found bad at (Ok x) n next e =
    let f = ok_is (x.0, at + x.1) (n, next) e in
    let a : x.0 ≡ n = ap (λ (p : ℕ × ℕ). p.0) f in
    let b : at + x.1 ≡ next = ap (λ (p : ℕ × ℕ). p.1) f in
    (x.1, ap (λ n. Ok (n, x.1)) a, sym b)
number_found bad at (Err d) n next e = absurd cc

-- a number that was read stands there in its spelling, and has at most 64 bits
pub number_at-Stands : {E : Type 0} (bad : ℕ → UvarintFault → E) (bytes : List ℕ) (at n next : ℕ) → AreBytes bytes → number_at bad bytes at ≡ got n next → Stands bytes at (uvarint n) next × (n < 2 ^ 64)
unfolding number_at
number_at-Stands bad bytes at n next fits e =
    let f = number_found bad at (uvarint_read (drop at bytes)) n next e in
    let t = read_is_spelled (drop at bytes) n f.0 (AreBytes-drop at bytes fits) f.1 in
    (t.1 ∙ ap (λ x. uvarint n ++ x) (drop-drop f.0 at bytes) ∙ ap (λ p. uvarint n ++ drop p bytes) (sym f.2), t.0)

-- bytes that were read stand there, as many as asked for
pub bytes_at-Stands : {E : Type 0} (short : ℕ → E) (n : ℕ) (bytes : List ℕ) (at : ℕ) (x : List ℕ) (next : ℕ) → bytes_at short n bytes at ≡ got x next → Stands bytes at x next × (length x ≡ n) × (x ≡ take n (drop at bytes))
unfolding bytes_at
bytes_at-Stands short n bytes at x next e =
    let g = passed (ltb (length bytes - at) n) (short at) (got (take n (drop at bytes)) (at + n)) (x, next) e in
    let f = ok_is (take n (drop at bytes), at + n) (x, next) g.1 in
    let a : take n (drop at bytes) ≡ x = ap (λ (p : List ℕ × ℕ). p.0) f in
    let b : at + n ≡ next = ap (λ (p : List ℕ × ℕ). p.1) f in
    let room : n ≤ length bytes - at = enough (length bytes - at) n g.0 in
    let len : length (take n (drop at bytes)) ≡ n = omega (arith, room, length-drop at bytes, length-take n (drop at bytes)) in
    (sym (take-append-drop n (drop at bytes)) ∙ ap (λ t. t ++ drop n (drop at bytes)) a ∙ ap (λ t. x ++ t) (drop-drop n at bytes ∙ ap (λ p. drop p bytes) b), ap length (sym a) ∙ len, sym a)
  where
    enough : (a b : ℕ) → ltb a b ≡ false → b ≤ a
    enough a b t = grind (arith, nat_tests)

-- what is told of the byte where a flag is to stand
abbrev flag_told : {E : Type 0} → (ℕ → E) → ℕ → ℕ → Field E Bool
flag_told bad at x = cond (eqb x 0) (got false (at + 1)) (cond (eqb x 1) (got true (at + 1)) (Err (bad at)))

-- a flag that was read stands there
pub flag_at-Stands : {E : Type 0} (short bad : ℕ → E) (bytes : List ℕ) (at : ℕ) (b : Bool) (next : ℕ) → flag_at short bad bytes at ≡ got b next → Stands bytes at (flag_form b) next
unfolding flag_at
flag_at-Stands short bad bytes at b next e =
    let g = passed (leb (length bytes) at) (short at) (flag_told bad at (get_or bytes at 0)) (b, next) e in
    let start : drop at bytes ≡ get_or bytes at 0 ∷ drop (suc at) bytes = drop-cons bytes at 0 (there (length bytes) at g.0) in
    let place : suc at ≡ at + 1 = omega arith in
    which (get_or bytes at 0) (start ∙ ap (λ p. get_or bytes at 0 ∷ drop p bytes) place) g.1
  where
    there : (n at : ℕ) → leb n at ≡ false → at < n
    there n at t = grind (arith, nat_tests)

    no_flag : (t u : Bool) → t ≡ false → u ≡ false → cond t (got false (at + 1)) (cond u (got true (at + 1)) (Err (bad at))) ≡ got b next → ⊥
    no_flag true u p q f = absurd cc
    no_flag false true p q f = absurd cc
    no_flag false false p q f = absurd cc

    which : (x : ℕ) → drop at bytes ≡ x ∷ drop (at + 1) bytes → flag_told bad at x ≡ got b next → Stands bytes at (flag_form b) next
    which zero s f = subst (λ (p : Bool × ℕ). Stands bytes at (flag_form p.0) p.1) (ok_is (false, at + 1) (b, next) f) s
    which (suc zero) s f = subst (λ (p : Bool × ℕ). Stands bytes at (flag_form p.0) p.1) (ok_is (true, at + 1) (b, next) f) s
    which (suc (suc x)) s f =
        let a : eqb (suc (suc x)) 0 ≡ false = grind (arith, nat_tests) in
        let b : eqb (suc (suc x)) 1 ≡ false = grind (arith, nat_tests) in
        absurd (no_flag (eqb (suc (suc x)) 0) (eqb (suc (suc x)) 1) a b f)

-- bits that were read stand there packed, as many as asked for
pub bits_at-Stands : {E : Type 0} (short padding : ℕ → E) (n : ℕ) (bytes : List ℕ) (at : ℕ) (k : List Bool) (next : ℕ) → AreBytes bytes → bits_at short padding n bytes at ≡ got k next → Stands bytes at (packed k) next × (length k ≡ n)
unfolding bits_at
bits_at-Stands {E} short padding n bytes at k next fits e =
    let a = bind_ok (bytes_at short ((n + 7) / 8) bytes at) (λ p. cond (are_zeros (drop n (bits_of_bytes p.0))) (got (take n (bits_of_bytes p.0)) p.1) (Err (padding at))) (k, next) e in
    let g = met (are_zeros (drop n (bits_of_bytes a.0.0))) (padding at) (got (take n (bits_of_bytes a.0.0)) a.0.1) (k, next) a.2 in
    let t = bytes_at-Stands short ((n + 7) / 8) bytes at a.0.0 a.0.1 a.1 in
    let small : AreBytes a.0.0 = subst AreBytes (sym t.2) (AreBytes-take ((n + 7) / 8) (drop at bytes) (AreBytes-drop at bytes fits)) in
    let front : packed (take n (bits_of_bytes a.0.0)) ≡ a.0.0 = packed-front n a.0.0 small t.1 g.0 in
    subst (λ (x : List Bool × ℕ). Stands bytes at (packed x.0) x.1 × (length x.0 ≡ n)) (ok_is (take n (bits_of_bytes a.0.0), a.0.1) (k, next) g.1)
    (subst (λ p. Stands bytes at p a.0.1) (sym front) t.0, length-front_bits n a.0.0 t.1)
