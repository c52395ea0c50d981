-- Reading a record, field by field.
use Rattle.std.proofs.Common.{◌≡◌, ℕ, ◌+◌, ◌-◌, ◌<◌, ◌≤◌, Bool, true, false, List, [], ◌∷◌, length, get_or, take, drop, Ok, Err, refl, sym, ap, ◌∙◌, subst, arith, ltb, length-drop, length-take, get_or-drop}
use Rattle.std.specs.Int.{w32, from_be_bytes}
use Rattle.std.proofs.lemmas.Bool.Decides.{nat_tests}
use Rattle.std.proofs.lemmas.List.{drop-drop}
use Rattle.base_model.specs.Fields.{bytes_at}
use Rattle.store_model.specs.Fields.{byte_at, big_endian_at}
use Rattle.mdb_journal.specs.GateWalk.{IsFound}
use Rattle.store_model.specs.Record.{record_at, is_known}

module _ (bytes : List ℕ) (at : ℕ) where
  no_kind : ltb (at + 1) (length bytes) ≡ false → record_at at bytes at ≡ Err at
  unfolding record_at byte_at
  no_kind e = rw e refl

  no_count : ltb (at + 1) (length bytes) ≡ true → ltb (length bytes - (at + 1 + 1)) 4 ≡ true → record_at at bytes at ≡ Err at
  unfolding record_at byte_at big_endian_at bytes_at
  no_count e f = rw (e, f) refl

  -- the file ends before the payload
  pub too_short : length bytes < at + 6 → record_at at bytes at ≡ Err at
  too_short short = test (ltb (at + 1) (length bytes)) refl
    where
      test : (b : Bool) → ltb (at + 1) (length bytes) ≡ b → record_at at bytes at ≡ Err at
      test true e = no_count e (grind (arith, nat_tests))
      test false e = no_kind e

  module _ (long : at + 6 ≤ length bytes) where
    abbrev pub kind : ℕ
    kind = get_or bytes (at + 1) 0

    abbrev pub count : ℕ
    count = from_be_bytes w32 (take 4 (drop (at + 1 + 1) bytes))

    one : ltb (at + 1) (length bytes) ≡ true
    one = grind (arith, nat_tests)

    four : ltb (length bytes - (at + 1 + 1)) 4 ≡ false
    four = grind (arith, nat_tests)

    place : at + 1 + 1 + 4 ≡ at + 6
    place = omega arith

    -- of another kind
    pub unknown : is_known kind count ≡ false → record_at at bytes at ≡ Err at
    unfolding record_at byte_at big_endian_at bytes_at
    unknown other = test (ltb (length bytes - (at + 1 + 1 + 4)) count) refl
      where
        test : (b : Bool) → ltb (length bytes - (at + 1 + 1 + 4)) count ≡ b → record_at at bytes at ≡ Err at
        test true e = rw (one, four, e) refl
        test false e = rw (one, four, e, other) refl

    module _ (known : is_known kind count ≡ true) where
      -- past the end of the file
      pub too_long : length bytes ≤ at + 6 + count → record_at at bytes at ≡ Err at
      unfolding record_at byte_at big_endian_at bytes_at
      too_long past =
          let last : ltb (at + 1 + 1 + 4 + count) (length bytes) ≡ false = grind (arith, nat_tests) in
          test last (ltb (length bytes - (at + 1 + 1 + 4)) count) refl
        where
          test : ltb (at + 1 + 1 + 4 + count) (length bytes) ≡ false → (b : Bool) → ltb (length bytes - (at + 1 + 1 + 4)) count ≡ b → record_at at bytes at ≡ Err at
          test last true e = rw (one, four, e) refl
          test last false e = rw (one, four, e, known, last) refl

      -- all of it is there
      pub found : at + 6 + count < length bytes → record_at at bytes at ≡ Ok (record { kind = kind; payload = take count (drop (at + 6) bytes) }, at + 6 + count)
      unfolding record_at byte_at big_endian_at bytes_at
      found inside =
          let room : ltb (length bytes - (at + 1 + 1 + 4)) count ≡ false = grind (arith, nat_tests) in
          let last : ltb (at + 1 + 1 + 4 + count) (length bytes) ≡ true = grind (arith, nat_tests) in
          rw (one, four, room, known, last) (ap (λ p. Ok (record { kind = kind; payload = take count (drop p bytes) }, p + count)) place)

      pub payload_length : at + 6 + count < length bytes → length (take count (drop (at + 6) bytes)) ≡ count
      payload_length inside = omega (arith, inside, length-take count (drop (at + 6) bytes), length-drop (at + 6) bytes)

-- what was read of the front of a record
pub head_read : (into bytes : List ℕ) (at : ℕ) → into ≡ take 5 (drop (at + 1) bytes) → at + 6 ≤ length bytes → (get_or into 0 0 ≡ get_or bytes (at + 1) 0) × (drop 1 into ≡ take 4 (drop (at + 1 + 1) bytes))
head_read into bytes at is long =
    let z : at + 1 + 0 ≡ at + 1 = omega arith in
    let p = parts (drop (at + 1) bytes) in
    (ap (λ l. get_or l 0 0) is ∙ p.0 ∙ get_or-drop (at + 1) bytes 0 0 ∙ ap (λ i. get_or bytes i 0) z, ap (drop 1) is ∙ p.1 ∙ ap (take 4) (drop-drop 1 (at + 1) bytes))
  where
    parts : (x : List ℕ) → (get_or (take 5 x) 0 0 ≡ get_or x 0 0) × (drop 1 (take 5 x) ≡ take 4 (drop 1 x))
    parts [] = (refl, refl)
    parts (b ∷ []) = (refl, refl)
    parts (b ∷ d ∷ x) = (refl, refl)

-- what was read of a gate
pub gate_read : (into bytes : List ℕ) (at : ℕ) → into ≡ take 1 (drop at bytes) → get_or into 0 0 ≡ get_or bytes at 0
gate_read into bytes at is =
    let z : at + 0 ≡ at = omega arith in
    ap (λ l. get_or l 0 0) is ∙ first (drop at bytes) ∙ get_or-drop at bytes 0 0 ∙ ap (λ i. get_or bytes i 0) z
  where
    first : (x : List ℕ) → get_or (take 1 x) 0 0 ≡ get_or x 0 0
    first [] = refl
    first (b ∷ x) = refl

-- what was read, of a file as it was before
pub piece_read : (into file now : List ℕ) (n at : ℕ) → length into ≡ n → into ≡ take (length into) (drop at now) → now ≡ file → into ≡ take n (drop at file)
piece_read into file now n at long is same = is ∙ ap (λ n. take n (drop at now)) long ∙ ap (λ f. take n (drop at f)) same

-- what is told by the kind and the length that were read
module _ (bytes : List ℕ) (at k n : ℕ) (long : at + 6 ≤ length bytes) (kind_is : k ≡ get_or bytes (at + 1) 0) (count_is : n ≡ from_be_bytes w32 (take 4 (drop (at + 1 + 1) bytes))) where
  known_is : is_known (kind bytes at long) (count bytes at long) ≡ is_known k n
  known_is = sym (ap (λ k. is_known k n) kind_is ∙ ap (λ n. is_known (get_or bytes (at + 1) 0) n) count_is)

  pub unknown_read : is_known k n ≡ false → record_at at bytes at ≡ Err at
  unknown_read other = unknown bytes at long (known_is ∙ other)

  pub long_read : is_known k n ≡ true → length bytes ≤ at + 6 + n → record_at at bytes at ≡ Err at
  long_read known past = too_long bytes at long (known_is ∙ known) (subst (λ n. length bytes ≤ at + 6 + n) count_is past)

  pub found_read : is_known k n ≡ true → at + 6 + n < length bytes → IsFound bytes at (record { kind = k; place = at + 6; length = n; next = at + 6 + n })
  found_read known inside =
      let room : at + 6 + count bytes at long < length bytes = subst (λ n. at + 6 + n < length bytes) count_is inside in
      let payload = take (count bytes at long) (drop (at + 6) bytes) in
      record {
        payload = payload;
        is = found bytes at long (known_is ∙ known) room ∙ ap (λ k. Ok (record { kind = k; payload = payload }, at + 6 + count bytes at long)) (sym kind_is) ∙ ap (λ n. Ok (record { kind = k; payload = payload }, at + 6 + n)) (sym count_is);
        place = refl;
        length = count_is ∙ sym (payload_length bytes at long (known_is ∙ known) room);
      }
