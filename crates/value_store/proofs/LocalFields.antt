-- A field is read of the bytes that follow its place, and of so many of them alone.
use Rattle.std.proofs.Common.{◌≡◌, ℕ, ◌+◌, ◌-◌, ◌<◌, ◌≤◌, min, Bool, true, false, cond, List, [], ◌∷◌, ◌++◌, length, get_or, take, drop, Option, Some, None, Result, Ok, Err, refl, sym, ap, ◌∙◌, arith, subst, ltb, leb, eqb, inl, inr, length-take, length-drop, take-append-drop, get_or-take, get_or-drop}
use Rattle.std.proofs.lemmas.Bool.{cases_lt}
use Rattle.std.proofs.lemmas.Bool.Decides.{nat_tests}
use Rattle.std.proofs.Math.Seq.{take-length}
use Rattle.std.proofs.lemmas.List.{take_all, take-append-le, drop-drop, drop-take}
use Rattle.base_model.specs.ReadUvarint.{UvarintFault, placed, uvarint_read}
use Rattle.base_model.specs.Fields.{Field, ◌>>=◌, number_or_fault, number_at, bytes_at, flag_at}
use Rattle.base_model.proofs.Fields.{got, bytes_at-Stands}
use Rattle.base_model.proofs.Results.{ok_is, passed}
use Rattle.trie_model.specs.Maps.{Limits}
use Rattle.batch_model.specs.Sized.{sized_at}
use Rattle.batch_model.specs.Batch.{BatchFault, Outside, comes_after, key_at}
use Rattle.value_store.specs.ChangeHeads.{limited_at, count_at, head_at}
use Rattle.value_store.proofs.LocalNumbers.{first_ten, read_length}

-- a piece of the bytes from a place on: at least so many of them, or all
pub record IsWindow (m : ℕ) (bytes : List ℕ) (at : ℕ) (w : List ℕ) : Type 0 where
  pub is : w ≡ take (length w) (drop at bytes)
  pub long : min m (length (drop at bytes)) ≤ length w

-- what was read of a piece, told of the place where the piece stands
abbrev pub shifted : {A : Type 0} → ℕ → Field BatchFault A → Field BatchFault A
shifted at (Ok x) = Ok (x.0, at + x.1)
shifted at (Err why) = Err why

-- a field that is read of m bytes
pub record IsLocal {A : Type 0} (m : ℕ) (f : List ℕ → ℕ → Field BatchFault A) : Type 0 where
  pub same : (bytes : List ℕ) (at : ℕ) (w : List ℕ) → IsWindow m bytes at w → f bytes at ≡ shifted at (f w 0)
  pub short : (w : List ℕ) (x : A) (k : ℕ) → f w 0 ≡ Ok (x, k) → (k ≤ m) × (k ≤ length w)

-- ---- pieces

-- a piece is no longer than what it is of
window-fits : (m : ℕ) (bytes : List ℕ) (at : ℕ) (w : List ℕ) → IsWindow m bytes at w → length w ≤ length (drop at bytes)
window-fits m bytes at w p = omega (arith, ap length p.is, length-take (length w) (drop at bytes))

-- with what stands behind it, it is all
window-all : (m : ℕ) (bytes : List ℕ) (at : ℕ) (w : List ℕ) → IsWindow m bytes at w → w ++ drop (length w) (drop at bytes) ≡ drop at bytes
window-all m bytes at w p = ap (λ x. x ++ drop (length w) (drop at bytes)) p.is ∙ take-append-drop (length w) (drop at bytes)

start : (x : List ℕ) → drop 0 x ≡ x
start [] = refl
start (b ∷ x) = refl

-- a piece of a piece
pub window-behind : (m n : ℕ) (bytes : List ℕ) (at : ℕ) (w : List ℕ) (k : ℕ) → IsWindow (m + n) bytes at w → k ≤ m → k ≤ length w → IsWindow n bytes (at + k) (drop k w)
window-behind m n bytes at w k p short inside = record {
  is =
      let e : k + (length w - k) ≡ length w = omega arith in
      ap (drop k) (p.is ∙ ap (λ j. take j (drop at bytes)) (sym e))
      ∙ drop-take k (length w - k) (drop at bytes)
      ∙ ap (take (length w - k)) (drop-drop k at bytes)
      ∙ ap (λ j. take j (drop (at + k) bytes)) (sym (length-drop k w));
  long = omega (arith, p.long, length-drop k w, length-drop at bytes, length-drop (at + k) bytes);
}

-- all that is left of a piece
window-rest : (n : ℕ) (w : List ℕ) (k : ℕ) → IsWindow n w k (drop k w)
window-rest n w k = record { is = sym (take-length (drop k w)); long = omega arith }

window-less : (m n : ℕ) (bytes : List ℕ) (at : ℕ) (w : List ℕ) → n ≤ m → IsWindow m bytes at w → IsWindow n bytes at w
window-less m n bytes at w le p = record { is = p.is; long = omega (arith, p.long) }

-- ---- fields

shifted-shifted : {A : Type 0} (a b : ℕ) (r : Field BatchFault A) → shifted a (shifted b r) ≡ shifted (a + b) r
shifted-shifted a b (Ok x) = let e : a + (b + x.1) ≡ a + b + x.1 = omega arith in ap (λ p. Ok (x.0, p)) e
shifted-shifted a b (Err why) = refl

module _ {A B : Type 0} (m n : ℕ) (f : List ℕ → ℕ → Field BatchFault A) (g : A → List ℕ → ℕ → Field BatchFault B) (lf : IsLocal m f) (lg : (x : A) → IsLocal n (g x)) where
  then_same : (bytes : List ℕ) (at : ℕ) (w : List ℕ) → IsWindow (m + n) bytes at w → (r : Field BatchFault A) → f w 0 ≡ r → (shifted at r >>= λ x. g x.0 bytes x.1) ≡ shifted at (r >>= λ x. g x.0 w x.1)
  then_same bytes at w p (Ok x) e =
      let k = lf.short w x.0 x.1 e in
      let here = (lg x.0).same bytes (at + x.1) (drop x.1 w) (window-behind m n bytes at w x.1 p k.0 k.1) in
      let there = (lg x.0).same w x.1 (drop x.1 w) (window-rest n w x.1) in
      here ∙ sym (shifted-shifted at x.1 (g x.0 (drop x.1 w) 0)) ∙ ap (shifted at) (sym there)
  then_same bytes at w p (Err why) e = refl

  then_short : (w : List ℕ) (y : B) (j : ℕ) (r : Field BatchFault A) → f w 0 ≡ r → (r >>= λ x. g x.0 w x.1) ≡ Ok (y, j) → (j ≤ m + n) × (j ≤ length w)
  then_short w y j (Ok x) e h =
      let k = lf.short w x.0 x.1 e in
      let there = (lg x.0).same w x.1 (drop x.1 w) (window-rest n w x.1) in
      tell x k (g x.0 (drop x.1 w) 0) refl (sym there ∙ h)
    where
      tell : (x : A × ℕ) → (x.1 ≤ m) × (x.1 ≤ length w) → (r : Field BatchFault B) → g x.0 (drop x.1 w) 0 ≡ r → shifted x.1 r ≡ Ok (y, j) → (j ≤ m + n) × (j ≤ length w)
      tell x k (Ok z) e h =
          let s = (lg x.0).short (drop x.1 w) z.0 z.1 e in
          let q : x.1 + z.1 ≡ j = ap (λ (p : B × ℕ). p.1) (ok_is (z.0, x.1 + z.1) (y, j) h) in
          (omega (arith, k, s, q), omega (arith, k, s, q, length-drop x.1 w))
      tell x k (Err why) e h = absurd cc
  then_short w y j (Err why) e h = absurd cc

  -- one field behind another
  pub local-then : IsLocal (m + n) (λ bytes at. f bytes at >>= λ x. g x.0 bytes x.1)
  local-then = record {
    same = λ bytes at w p. ap (λ r. r >>= λ x. g x.0 bytes x.1) (lf.same bytes at w (window-less (m + n) m bytes at w (omega arith) p)) ∙ then_same bytes at w p (f w 0) refl;
    short = λ w y j h. then_short w y j (f w 0) refl h;
  }

-- a value that needs no byte
local-value : {A : Type 0} (x : A) → IsLocal 0 (λ bytes at. Ok (x, at))
local-value {A} x = record {
  same = λ bytes at w p. let e : at ≡ at + 0 = omega arith in ap (λ p. got x p) e;
  short = λ w y k h. let q : 0 ≡ k = ap (λ (p : A × ℕ). p.1) (ok_is (x, 0) (y, k) h) in (omega (arith, q), omega (arith, q));
}

-- a test that needs no byte
local-test : {A : Type 0} (n : ℕ) (b : Bool) (f : List ℕ → ℕ → Field BatchFault A) → (b ≡ false → IsLocal n f) → IsLocal n (λ bytes at. cond b (Err Outside) (f bytes at))
local-test n true f l = record { same = λ bytes at w p. refl; short = λ w x k h. absurd cc }
local-test n false f l = l refl

-- a number, of ten bytes
pub local-number : IsLocal 10 (number_at (λ _ _. Outside))
unfolding number_at
local-number = record {
  same = λ bytes at w p.
      ap (λ r. number_or_fault (λ _ _. Outside) at (placed at r)) (read bytes at w p)
      ∙ moved at (uvarint_read w)
      ∙ ap (λ x. shifted at (number_or_fault (λ _ _. Outside) 0 (placed 0 (uvarint_read x)))) (sym (start w));
  short = λ w n k h. subst (λ x. (k ≤ 10) × (k ≤ length x)) (start w) (length_of w n k (uvarint_read (drop 0 w)) refl h);
}
  where
    read : (bytes : List ℕ) (at : ℕ) (w : List ℕ) → IsWindow 10 bytes at w → uvarint_read (drop at bytes) ≡ uvarint_read w
    read bytes at w p = elim (cases_lt (length w) 10) [
      | inl less ↦ ap uvarint_read (sym (take_all (length w) (drop at bytes) (omega (arith, p.long))) ∙ sym p.is)
      | inr more ↦ ap uvarint_read (sym (window-all 10 bytes at w p)) ∙ first_ten w (drop (length w) (drop at bytes)) more
    ]

    moved : (at : ℕ) (r : Result (ℕ × ℕ) UvarintFault) → number_or_fault (λ _ _. Outside) at (placed at r) ≡ shifted at (number_or_fault (λ _ _. Outside) 0 (placed 0 r))
    moved at (Ok x) = let e : at + x.1 ≡ at + (0 + x.1) = omega arith in ap (λ p. got x.0 p) e
    moved at (Err why) = refl

    length_of : (w : List ℕ) (n k : ℕ) (r : Result (ℕ × ℕ) UvarintFault) → uvarint_read (drop 0 w) ≡ r → number_or_fault (λ _ _. Outside) 0 (placed 0 r) ≡ got n k → (k ≤ 10) × (k ≤ length (drop 0 w))
    length_of w n k (Ok x) e h =
        let s = read_length (drop 0 w) x.0 x.1 e in
        let q : 0 + x.1 ≡ k = ap (λ (p : ℕ × ℕ). p.1) (ok_is (x.0, 0 + x.1) (n, k) h) in
        (omega (arith, s, q), omega (arith, s, q))
    length_of w n k (Err why) e h = absurd cc

-- so many bytes
pub local-bytes : (n : ℕ) → IsLocal n (bytes_at (λ _. Outside) n)
unfolding bytes_at
local-bytes n = record {
  same = λ bytes at w p. go bytes at w p (ltb (length bytes - at) n) (ltb (length w - 0) n) refl refl;
  short = λ w x k h.
      let s = bytes_at-Stands (λ _. Outside) n w 0 x k h in
      let g = passed (ltb (length w - 0) n) Outside (got (take n (drop 0 w)) (0 + n)) (x, k) h in
      let q : 0 + n ≡ k = ap (λ (p : List ℕ × ℕ). p.1) (ok_is (take n (drop 0 w), 0 + n) (x, k) g.1) in
      (omega (arith, q), omega (arith, q, enough (length w - 0) n g.0));
}
  where
    enough : (a b : ℕ) → ltb a b ≡ false → b ≤ a
    enough a b t = grind (arith, nat_tests)

    fewer : (a b : ℕ) → ltb a b ≡ true → a < b
    fewer a b t = grind (arith, nat_tests)

    go : (bytes : List ℕ) (at : ℕ) (w : List ℕ) → IsWindow n bytes at w → (s t : Bool) → ltb (length bytes - at) n ≡ s → ltb (length w - 0) n ≡ t → bytes_at (λ _. Outside) n bytes at ≡ shifted at (bytes_at (λ _. Outside) n w 0)
    go bytes at w p true true e f = rw (e, f) refl
    go bytes at w p true false e f = absurd (omega (arith, fewer _ _ e, enough _ _ f, window-fits n bytes at w p, length-drop at bytes))
    go bytes at w p false true e f = absurd (omega (arith, enough _ _ e, fewer _ _ f, p.long, length-drop at bytes))
    go bytes at w p false false e f =
        let k : n ≤ length w = omega (arith, enough _ _ f) in
        let here : take n (drop at bytes) ≡ take n (drop 0 w) = ap (take n) (sym (window-all n bytes at w p)) ∙ take-append-le n w (drop (length w) (drop at bytes)) k ∙ ap (take n) (sym (start w)) in
        let place : at + n ≡ at + (0 + n) = omega arith in
        rw (e, f) (ap (λ x. got x (at + n)) here ∙ ap (λ p. got (take n (drop 0 w)) p) place)

-- what is told of the first byte, where a flag is to stand
abbrev told : ℕ → Field BatchFault Bool
told x = cond (eqb x 0) (got false (0 + 1)) (cond (eqb x 1) (got true (0 + 1)) (Err Outside))

-- a flag, of one byte
pub local-flag : IsLocal 1 (flag_at (λ _. Outside) (λ _. Outside))
unfolding flag_at
local-flag = record {
  same = λ bytes at w p. go bytes at w p (leb (length bytes) at) (leb (length w) 0) refl refl;
  short = λ w b k h.
      let g = passed (leb (length w) 0) Outside (told (get_or w 0 0)) (b, k) h in
      (one (get_or w 0 0) b k g.1, omega (arith, one (get_or w 0 0) b k g.1, some (length w) g.0));
}
  where
    some : (n : ℕ) → leb n 0 ≡ false → 1 ≤ n
    some n t = grind (arith, nat_tests)

    none : (a b : ℕ) → leb a b ≡ true → a ≤ b
    none a b t = grind (arith, nat_tests)

    there : (a b : ℕ) → leb a b ≡ false → b < a
    there a b t = grind (arith, nat_tests)

    one : (x : ℕ) (b : Bool) (k : ℕ) → told x ≡ got b k → k ≤ 1
    one x b k h = by_tests (eqb x 0) (eqb x 1) h
      where
        by_tests : (s t : Bool) → cond s (got false (0 + 1)) (cond t (got true (0 + 1)) (Err Outside)) ≡ got b k → k ≤ 1
        by_tests true t h = let q : 0 + 1 ≡ k = ap (λ (p : Bool × ℕ). p.1) (ok_is (false, 0 + 1) (b, k) h) in omega (arith, q)
        by_tests false true h = let q : 0 + 1 ≡ k = ap (λ (p : Bool × ℕ). p.1) (ok_is (true, 0 + 1) (b, k) h) in omega (arith, q)
        by_tests false false h = absurd cc

    moved : (at x : ℕ) → cond (eqb x 0) (got false (at + 1)) (cond (eqb x 1) (got true (at + 1)) (Err Outside)) ≡ shifted at (told x)
    moved at x = by_tests (eqb x 0) (eqb x 1)
      where
        by_tests : (s t : Bool) → cond s (got false (at + 1)) (cond t (got true (at + 1)) (Err Outside)) ≡ shifted at (cond s (got false (0 + 1)) (cond t (got true (0 + 1)) (Err Outside)))
        by_tests true t = let q : at + 1 ≡ at + (0 + 1) = omega arith in ap (λ p. got false p) q
        by_tests false true = let q : at + 1 ≡ at + (0 + 1) = omega arith in ap (λ p. got true p) q
        by_tests false false = refl

    go : (bytes : List ℕ) (at : ℕ) (w : List ℕ) → IsWindow 1 bytes at w → (s t : Bool) → leb (length bytes) at ≡ s → leb (length w) 0 ≡ t → flag_at (λ _. Outside) (λ _. Outside) bytes at ≡ shifted at (flag_at (λ _. Outside) (λ _. Outside) w 0)
    go bytes at w p true true e f = rw (e, f) refl
    go bytes at w p true false e f = absurd (omega (arith, none _ _ e, some _ f, window-fits 1 bytes at w p, length-drop at bytes))
    go bytes at w p false true e f = absurd (omega (arith, there _ _ e, none _ _ f, p.long, length-drop at bytes))
    go bytes at w p false false e f =
        let z : at + 0 ≡ at = omega arith in
        let first : get_or bytes at 0 ≡ get_or w 0 0 =
        ap (λ i. get_or bytes i 0) (sym z) ∙ sym (get_or-drop at bytes 0 0) ∙ sym (get_or-take (length w) (drop at bytes) 0 0 (some _ f)) ∙ ap (λ x. get_or x 0 0) (sym p.is) in
        rw (e, f, first) (moved at (get_or w 0 0))

-- ---- the head of a change

local-more : {A : Type 0} (m n : ℕ) (f : List ℕ → ℕ → Field BatchFault A) → m ≤ n → IsLocal m f → IsLocal n f
local-more m n f le l = record {
  same = λ bytes at w p. l.same bytes at w (window-less n m bytes at w le p);
  short = λ w x k h. let s = l.short w x k h in (omega (arith, s), s.1);
}

pub local-limited : (limit : ℕ) → IsLocal 10 (limited_at limit)
unfolding limited_at
local-limited limit = local-then 10 0 (number_at (λ _ _. Outside)) (λ n bytes at. cond (ltb limit n) (Err Outside) (Ok (n, at))) local-number (λ n. local-test 0 (ltb limit n) (λ bytes at. Ok (n, at)) (λ t. local-value n))

local-sized : (limit : ℕ) → IsLocal (10 + limit) (sized_at Outside limit)
unfolding sized_at
local-sized limit = local-then 10 limit (number_at (λ _ _. Outside)) (λ n bytes at. cond (ltb limit n) (Err Outside) (bytes_at (λ _. Outside) n bytes at)) local-number
    (λ n. local-test limit (ltb limit n) (bytes_at (λ _. Outside) n) (λ t. local-more n limit (bytes_at (λ _. Outside) n) (within limit n t) (local-bytes n)))
  where
    within : (a b : ℕ) → ltb a b ≡ false → b ≤ a
    within a b t = grind (arith, nat_tests)

pub local-key : (l : Limits) (last : Option (List ℕ)) → IsLocal (10 + l.key + 0) (key_at l last)
unfolding key_at
local-key l last = local-then (10 + l.key) 0 (sized_at Outside l.key) (λ key bytes at. cond (comes_after last key) (Ok (key, at)) (Err Outside)) (local-sized l.key) (λ key. tested (comes_after last key) key)
  where
    tested : (b : Bool) (key : List ℕ) → IsLocal 0 (λ bytes at. cond b (Ok (key, at)) (Err Outside))
    tested true key = local-value key
    tested false key = record { same = λ bytes at w p. refl; short = λ w x k h. absurd cc }

pub local-count : (l : Limits) → IsLocal (1 + (10 + 0)) (count_at l)
unfolding count_at
local-count l = local-then 1 (10 + 0) (flag_at (λ _. Outside) (λ _. Outside)) (λ flag bytes at. cond flag (limited_at l.value bytes at >>= λ n. Ok (Some n.0, n.1)) (Ok (None, at))) local-flag (λ flag. behind flag)
  where
    behind : (flag : Bool) → IsLocal (10 + 0) (λ bytes at. cond flag (limited_at l.value bytes at >>= λ n. Ok (Some n.0, n.1)) (Ok (None, at)))
    behind true = local-then 10 0 (limited_at l.value) (λ n bytes at. Ok (Some n, at)) (local-limited l.value) (λ n. local-value (Some n))
    behind false = local-more 0 (10 + 0) (λ bytes at. Ok (None, at)) (omega arith) (local-value None)

-- the head of a change, of so many bytes
pub local-head : (l : Limits) (last : Option (List ℕ)) → IsLocal (10 + l.key + 0 + (1 + (10 + 0) + 0)) (head_at l last)
unfolding head_at
local-head l last = local-then (10 + l.key + 0) (1 + (10 + 0) + 0) (key_at l last) (λ key bytes at. count_at l bytes at >>= λ count. Ok (record { key = key; count = count.0 }, count.1)) (local-key l last)
    (λ key. local-then (1 + (10 + 0)) 0 (count_at l) (λ count bytes at. Ok (record { key = key; count = count }, at)) (local-count l) (λ count. local-value (record { key = key; count = count })))
