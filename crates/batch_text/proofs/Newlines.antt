-- A scan for a newline that goes on where it stopped.
use Rattle.std.proofs.Common.{false, true, get_or, ◌∙◌, ◌≡◌, ◌==◌, ℕ, ◌+◌, ◌-◌, ◌<◌, ◌≤◌, List, length, take, drop, sym, subst, arith, length-drop}
use Rattle.std.proofs.Math.Seq.{take-add}
use Rattle.std.proofs.lemmas.Bool.Decides.{nat_tests}
use Rattle.std.proofs.lemmas.List.{take_all, take_rest, get_or-drop, get_or-take, length-take-le}
use Rattle.std.proofs.lemmas.List.Elements.{All-append, All-from_get_or}
use Rattle.memchr.specs.Find.{Nowhere, NoneBefore, Passes, is_byte}
use Rattle.text_model.specs.Lines.{is_newline}
use Rattle.batch_text.specs.Stream.{NoNewline, EndsAt}

-- no newline in two stretches is none in both
both : (xs : List ℕ) (m n : ℕ) → NoNewline (take m xs) → NoNewline (take n (drop m xs)) → NoNewline (take (m + n) xs)
both xs m n first second = subst NoNewline (sym (take-add m n xs)) (All-append (λ b. is_newline b ≡ false) (take m xs) (take n (drop m xs)) first second)

-- where a scan meets no newline, there is none
none_scanned : (part : List ℕ) (n : ℕ) → n ≤ length part → Nowhere (Passes (is_byte 10) part) 0 n → NoNewline (take n part)
none_scanned part n le nowhere = All-from_get_or (λ b. is_newline b ≡ false) (take n part) 0 (λ i lt. other part n i (omega (arith, length-take-le n part le)) nowhere)
  where
    no_test : (b : ℕ) → ((b == 10) ≡ true → ⊥) → (b == 10) ≡ false
    no_test b differs = grind (arith, nat_tests)

    other : (part : List ℕ) (n i : ℕ) → i < n → Nowhere (Passes (is_byte 10) part) 0 n → is_newline (get_or (take n part) i 0) ≡ false
    other part n i lt nowhere = rw (get_or-take n part i 0 lt) (no_test (get_or part i 0) (nowhere i (omega arith) lt))

-- a scan of the rest that meets no newline
pub none_found : (bytes : List ℕ) (m : ℕ) → m ≤ length bytes → NoNewline (take m bytes) → Nowhere (Passes (is_byte 10) (take (length bytes - m) (drop m bytes))) 0 (length (take (length bytes - m) (drop m bytes))) → NoNewline bytes
none_found bytes m le first nowhere =
    let n = length bytes - m in
    let scan : Nowhere (Passes (is_byte 10) (drop m bytes)) 0 (length (drop m bytes)) = subst (λ (l : List ℕ). Nowhere (Passes (is_byte 10) l) 0 (length l)) (take_rest bytes m) nowhere in
    let rest : NoNewline (take n (drop m bytes)) = none_scanned (drop m bytes) n (omega (arith, length-drop m bytes)) (λ k low high. scan k low (omega (arith, length-drop m bytes))) in
    subst NoNewline (take_all (m + n) bytes (omega arith)) (both bytes m n first rest)

-- a scan of the rest that meets a newline
pub found_at : (bytes : List ℕ) (m i : ℕ) → m ≤ length bytes → NoNewline (take m bytes) → NoneBefore (Passes (is_byte 10) (take (length bytes - m) (drop m bytes))) 0 (length (take (length bytes - m) (drop m bytes))) i
    → Passes (is_byte 10) (take (length bytes - m) (drop m bytes)) i → EndsAt (length bytes) bytes (m + i)
found_at bytes m i le first before newline =
    let is : take (length bytes - m) (drop m bytes) ≡ drop m bytes = take_rest bytes m in
    let scan : NoneBefore (Passes (is_byte 10) (drop m bytes)) 0 (length (drop m bytes)) i = subst (λ (l : List ℕ). NoneBefore (Passes (is_byte 10) l) 0 (length l) i) is before in
    let there : Passes (is_byte 10) (drop m bytes) i = subst (λ (l : List ℕ). Passes (is_byte 10) l i) is newline in
    let lt : i < length (drop m bytes) = scan.high in
    let short : m + i < length bytes = omega (arith, length-drop m bytes) in (
      short,
      short,
      both bytes m i first (none_scanned (drop m bytes) i (omega arith) scan.before),
      is_ten bytes m i there,
    )
  where
    tested : (b : ℕ) → (b == 10) ≡ true → b ≡ 10
    tested b is = grind (arith, nat_tests)

    is_ten : (bytes : List ℕ) (m i : ℕ) → Passes (is_byte 10) (drop m bytes) i → get_or bytes (m + i) 0 ≡ 10
    is_ten bytes m i there = sym (get_or-drop m bytes i 0) ∙ tested (get_or (drop m bytes) i 0) there

-- a scan of all the bytes that are held
pub none_held : (held bytes : List ℕ) (n : ℕ) → bytes ≡ held → length bytes ≤ n → NoNewline (take n bytes) → NoNewline held
none_held held bytes n is le none = subst NoNewline (take_all n bytes le ∙ is) none
