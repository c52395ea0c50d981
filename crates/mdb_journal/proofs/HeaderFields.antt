-- Reading a header, field by field.
use Rattle.std.proofs.Common.{◌≡◌, ℕ, ◌-◌, ◌<◌, ◌≤◌, Bool, true, false, cond, ◌&&◌, List, [], ◌∷◌, length, get_or, take, drop, Result, Ok, Err, Some, None, refl, ap, ◌∙◌, arith, ltb, eqb}
use Rattle.mdb_journal.specs.Opening.{as_answer, fault_of}
use Rattle.mdb_journal.specs.declared.fault.JournalFault.{JournalFault}
use Rattle.std.specs.Int.{w64, from_be_bytes}
use Rattle.std.proofs.lemmas.Bool.Decides.{nat_tests}
use Rattle.base_model.specs.Fields.{◌>>=◌, bytes_at}
use Rattle.store_model.specs.Fields.{these_at, byte_at, big_endian_at}
use Rattle.store_model.specs.Header.{StoreFault, NotAStore, Damaged, header_behind_gate, header_of, width_at, generation_at, name_and_version, header_zeros, is_width, first_gate}

module _ (file : ℕ) (bytes : List ℕ) where
  pub wrong_name : these_at (λ _. NotAStore file) name_and_version bytes 1 ≡ Err (NotAStore file) → header_behind_gate file bytes ≡ Err (NotAStore file)
  unfolding header_behind_gate
  wrong_name name = rw name refl

  module _ (long : length bytes ≡ first_gate) (name : these_at (λ _. NotAStore file) name_and_version bytes 1 ≡ Ok 9) where
    nine : ltb 9 (length bytes) ≡ true
    nine = grind (arith, nat_tests)

    pub wrong_width : is_width (get_or bytes 9 0) ≡ false → header_behind_gate file bytes ≡ Err (Damaged file 9)
    unfolding header_behind_gate width_at byte_at
    wrong_width width = rw (name, nine, width) refl

    module _ (width : is_width (get_or bytes 9 0) ≡ true) where
      pub wrong_zeros : (place : ℕ) → these_at (Damaged file) header_zeros bytes 10 ≡ Err (Damaged file place) → header_behind_gate file bytes ≡ Err (Damaged file place)
      unfolding header_behind_gate width_at byte_at
      wrong_zeros place zeros = rw (name, nine, width, zeros) refl

      module _ (zeros : these_at (Damaged file) header_zeros bytes 10 ≡ Ok 16) where
        room : ltb (length bytes - 16) 8 ≡ false
        room = grind (arith, nat_tests)

        abbrev pub number : ℕ
        number = from_be_bytes w64 (take 8 (drop 16 bytes))

        pub wrong_generation : number ≡ 0 → header_behind_gate file bytes ≡ Err (Damaged file 16)
        unfolding header_behind_gate width_at byte_at generation_at big_endian_at bytes_at
        wrong_generation none = let test : eqb number 0 ≡ true = zero_is number none in rw (name, nine, width, zeros, room, test) refl
          where
            zero_is : (n : ℕ) → n ≡ 0 → eqb n 0 ≡ true
            zero_is n e = grind (arith, nat_tests)

        pub right : (number ≡ 0 → ⊥) → header_behind_gate file bytes ≡ Ok (record { width = get_or bytes 9 0; generation = number })
        unfolding header_behind_gate width_at byte_at generation_at big_endian_at bytes_at
        right some = let test : eqb number 0 ≡ false = not_zero number some in rw (name, nine, width, zeros, room, test) refl
          where
            not_zero : (n : ℕ) → (n ≡ 0 → ⊥) → eqb n 0 ≡ false
            not_zero n e = grind (arith, nat_tests)

-- ---- whether it is open

-- a file that is too short has none
pub too_short : (file : ℕ) (bytes : List ℕ) → length bytes ≤ first_gate → header_of file bytes ≡ Ok None
unfolding header_of
too_short file bytes short = let test : ltb first_gate (length bytes) ≡ false = grind (arith, nat_tests) in rw test refl

-- nor has one with a closed gate
pub closed_gate : (file : ℕ) (bytes : List ℕ) → (get_or bytes 0 0 ≡ 1 → ⊥) → header_of file bytes ≡ Ok None
unfolding header_of
closed_gate file bytes shut = let test : eqb (get_or bytes 0 0) 1 ≡ false = grind (arith, nat_tests) in by_length (ltb first_gate (length bytes)) (eqb (get_or bytes 0 0) 1) test
  where
    by_length : (a b : Bool) → b ≡ false → cond (a && b) (header_behind_gate file (take first_gate bytes) >>= λ h. Ok (Some h)) (Ok None) ≡ Ok None
    by_length true b e = rw e refl
    by_length false b e = refl

-- every other has
pub open_header : (file : ℕ) (bytes : List ℕ) → first_gate < length bytes → get_or bytes 0 0 ≡ 1 → header_of file bytes ≡ (header_behind_gate file (take first_gate bytes) >>= λ h. Ok (Some h))
unfolding header_of
open_header file bytes long open_gate =
    let room : ltb first_gate (length bytes) ≡ true = grind (arith, nat_tests) in
    let test : eqb (get_or bytes 0 0) 1 ≡ true = grind (arith, nat_tests) in
    rw (room, test) refl

-- ---- answers

pub some_answer : {A : Type 0} (r : Result A StoreFault) (x : A) → Ok x ≡ as_answer r → Ok (Some x) ≡ as_answer (r >>= λ h. Ok (Some h))
some_answer (Ok y) x e = let same : x ≡ y = cc in ap (λ y. Ok (Some y)) same
some_answer (Err why) x e = absurd cc

pub fault_answer : {A B : Type 0} (r : Result A StoreFault) (f : A → Result B StoreFault) (fault : JournalFault) → Err fault ≡ as_answer r → Err fault ≡ as_answer (r >>= f)
fault_answer (Ok y) f fault e = absurd cc
fault_answer (Err why) f fault e = let same : fault ≡ fault_of why = cc in ap (λ y. Err y) same

-- the front of a file, as it was read
pub front_read : (into file now : List ℕ) → length into ≡ first_gate → into ≡ take (length into) (drop 0 now) → now ≡ file → into ≡ take first_gate file
front_read into file now long is same = is ∙ ap (λ n. take n (drop 0 now)) long ∙ ap (take first_gate) (start now ∙ same)
  where
    start : (x : List ℕ) → drop 0 x ≡ x
    start [] = refl
    start (b ∷ x) = refl

-- and its first byte
pub first_read : (into file : List ℕ) → into ≡ take first_gate file → get_or into 0 0 ≡ get_or file 0 0
first_read into file is = ap (λ l. get_or l 0 0) is ∙ first file
  where
    first : (file : List ℕ) → get_or (take first_gate file) 0 0 ≡ get_or file 0 0
    first [] = refl
    first (b ∷ file) = refl
