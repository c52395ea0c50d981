-- What a write makes of the bytes of a file.
use Rattle.std.proofs.Common.{◌≡◌, ◌⊎◌, inl, inr, ⊎_elim, ℕ, ◌+◌, ◌-◌, ◌≤◌, ◌<◌, max, List, ◌++◌, length, get_or, take, drop, replicate, sym, ◌∙◌, ap, arith, length-append, length-drop}
use Rattle.std.proofs.Math.Seq.{take-append-add}
use Rattle.std.proofs.lemmas.List.{length-take, length-replicate, take-append-le, take-replicate, drop_all, append-nil, take_all, get_or-take, get_or-drop, get_or_append_left, get_or-append_right}
use Rattle.std.proofs.lemmas.Bool.{cases_lt}
use Rattle.disk_model.specs.Files.{IsFile, Torn, written, file_limit, first_touched}
use Rattle.base_model.proofs.Fields.{AreBytes-take, AreBytes-drop}
use Rattle.disk_model.proofs.Bytes.{bytes_below, same_front, same_back, AreBytes-append, AreBytes-zeros}

pub length-written : (file : List ℕ) (at : ℕ) (bytes : List ℕ) → length (written file at bytes) ≡ max (length file) (at + length bytes)
length-written file at bytes =
    let front : List ℕ = take at file ++ replicate (at - length file) 0 in
    let back = drop (at + length bytes) file in
    omega (arith, length-append (front ++ bytes) back, length-append front bytes, length-append (take at file) (replicate (at - length file) 0), length-take at file, length-replicate {A = ℕ} (at - length file) 0, length-drop (at + length bytes) file)

-- the front of a file that was filled up
front : (file : List ℕ) (at to : ℕ) → at ≤ to → take at (file ++ replicate (to - length file) 0) ≡ take at file ++ replicate (at - length file) 0
front file at to le = ⊎_elim
    (λ (inside : at < length file).
    let none : at - length file ≡ 0 = omega (arith, inside) in
    take-append-le at file (replicate (to - length file) 0) (omega (arith, inside))
    ∙ sym (ap (λ (n : ℕ). take at file ++ replicate n 0) none ∙ append-nil (take at file)))
    (λ (past : length file ≤ at).
    let there : length file + (at - length file) ≡ at = omega (arith, past) in
    ap (λ (n : ℕ). take n (file ++ replicate (to - length file) 0)) (sym there)
    ∙ take-append-add file (replicate (to - length file) 0) (at - length file)
    ∙ ap (λ (l : List ℕ). file ++ l) (take-replicate (at - length file) (to - length file) 0 (omega (arith, le)))
    ∙ ap (λ (l : List ℕ). l ++ replicate (at - length file) 0) (sym (take_all at file past)))
    (cases_lt at (length file))

-- the back of it
back : (file : List ℕ) (to : ℕ) → drop to (file ++ replicate (to - length file) 0) ≡ drop to file
back file to = ⊎_elim
    (λ (inside : to < length file).
    let none : to - length file ≡ 0 = omega (arith, inside) in
    ap (λ (n : ℕ). drop to (file ++ replicate n 0)) none ∙ ap (λ (l : List ℕ). drop to l) (append-nil file))
    (λ (past : length file ≤ to).
    drop_all to (file ++ replicate (to - length file) 0) (omega (arith, past, length-append file (replicate (to - length file) 0), length-replicate {A = ℕ} (to - length file) 0)) ∙ sym (drop_all to file past))
    (cases_lt to (length file))

-- bytes that were written over a file that was filled up
pub put_written : (file filled new bytes : List ℕ) (at : ℕ) → filled ≡ file ++ replicate (at + length bytes - length file) 0 → new ≡ take at filled ++ bytes ++ drop (at + length bytes) filled → new ≡ written file at bytes
put_written file filled new bytes at is put =
    let to = at + length bytes in
    put ∙ ap (λ (l : List ℕ). take at l ++ bytes ++ drop to l) is
    ∙ ap (λ (l : List ℕ). l ++ bytes ++ drop to (file ++ replicate (to - length file) 0)) (front file at to (omega arith))
    ∙ ap (λ (l : List ℕ). (take at file ++ replicate (at - length file) 0) ++ bytes ++ l) (back file to)

-- a byte outside the range is as it was
elsewhere : (file : List ℕ) (at : ℕ) (bytes : List ℕ) (i : ℕ) → i < length file → (i < at) ⊎ (at + length bytes ≤ i) → get_or (written file at bytes) i 0 ≡ get_or file i 0
elsewhere file at bytes i within (inl lt) =
    let gap : List ℕ = replicate (at - length file) 0 in
    let first : List ℕ = take at file ++ gap in
    let size : i < length (take at file) = omega (arith, length-take at file) in
    let size' : i < length first = omega (arith, size, length-append (take at file) gap) in
    get_or_append_left (first ++ bytes) (drop (at + length bytes) file) 0 i (omega (arith, size', length-append first bytes))
    ∙ get_or_append_left first bytes 0 i size'
    ∙ get_or_append_left (take at file) gap 0 i size
    ∙ get_or-take at file i 0 lt
elsewhere file at bytes i within (inr le) =
    let gap : List ℕ = replicate (at - length file) 0 in
    let first : List ℕ = take at file ++ gap in
    let to = at + length bytes in
    let size : length (first ++ bytes) ≡ to = omega (arith, within, le, length-append first bytes, length-append (take at file) gap, length-take at file, length-replicate {A = ℕ} (at - length file) 0) in
    let there : to + (i - to) ≡ i = omega (arith, le) in
    get_or-append_right (first ++ bytes) (drop to file) to i 0 size le ∙ get_or-drop to file (i - to) 0 ∙ ap (λ (n : ℕ). get_or file n 0) there

-- what was written is torn in the range of the write
pub written_torn : (file : List ℕ) (at : ℕ) (bytes : List ℕ) → Torn (first_touched file at) (at + length bytes) file (written file at bytes)
written_torn file at bytes =
    let size = length-written file at bytes in
    let from = first_touched file at in
    let to = at + length bytes in
    record {
      before = same_front from (written file at bytes) file (omega (arith, size, length-take from (written file at bytes), length-take from file)) (λ i low lt. elsewhere file at bytes i lt (inl (omega (arith, low))));
      after = ⊎_elim
          (λ (inside : to < length file). same_back to (written file at bytes) file (omega (arith, size, inside)) (λ i high lt. elsewhere file at bytes i lt (inr high)))
          (λ (past : length file ≤ to). drop_all to (written file at bytes) (omega (arith, size, past)) ∙ sym (drop_all to file past))
          (cases_lt to (length file));
      no_shorter = omega (arith, size);
      no_longer = omega (arith, size);
    }

-- what is written into a file makes a file, where it fits
pub written_file : (file : List ℕ) (at : ℕ) (bytes : List ℕ) → IsFile file → at + length bytes ≤ file_limit → ((i : ℕ) → get_or bytes i 0 < 256) → IsFile (written file at bytes)
written_file file at bytes old fits each = record {
  bytes = AreBytes-append ((take at file ++ replicate (at - length file) 0) ++ bytes) (drop (at + length bytes) file)
      (AreBytes-append (take at file ++ replicate (at - length file) 0) bytes (AreBytes-append (take at file) (replicate (at - length file) 0) (AreBytes-take at file old.bytes) (AreBytes-zeros (at - length file))) (bytes_below bytes each))
      (AreBytes-drop (at + length bytes) file old.bytes);
  fits = omega (arith, length-written file at bytes, old.fits);
}
