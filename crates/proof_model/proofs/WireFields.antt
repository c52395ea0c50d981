-- The fields of a proof: what is spelled is read, and what is read is spelled so.
use Rattle.std.proofs.Common.{◌≡◌, ℕ, ◌%◌, ◌^◌, ◌<◌, ◌≤◌, Bool, true, false, cond, List, [], ◌∷◌, ◌++◌, length, get_or, drop, Option, Some, None, Ok, Err, refl, sym, ap, ◌∙◌, arith, subst, ltb, leb, eqb, append_assoc}
use Rattle.std.specs.Prelude.{IfSome}
use Rattle.std.proofs.lemmas.Bool.Decides.{nat_tests}
use Rattle.base_model.specs.Bytes.{AreBytes}
use Rattle.base_model.specs.Uvarint.{uvarint}
use Rattle.base_model.specs.Bits.{packed}
use Rattle.base_model.specs.Fields.{◌>>=◌, flag_form, number_at, bytes_at, flag_at, bits_at}
use Rattle.base_model.proofs.Fields.{got, IsRead, number_at-IsRead, bytes_at-IsRead, flag_at-IsRead, bits_at-IsRead, Stands, Stands-then, number_at-Stands, bytes_at-Stands, flag_at-Stands, bits_at-Stands}
use Rattle.base_model.proofs.Results.{ok_is, bind_ok, passed, met}
use Rattle.trie_model.specs.Hashing.{key_form}
use Rattle.trie_model.specs.Maps.{Limits}
use Rattle.trie_model.specs.StoredNode.{FitsLimits, rest_limit}
use Rattle.batch_model.specs.Sized.{sized_form}
use Rattle.batch_model.specs.Batch.{value_form}
use Rattle.proof_model.specs.Wire.{WireKind, Short, Flag, LongKey, Tokens, Padding, Index, Order, wrong, bad_number, byte_at, sized_at, maybe_at, bit_count_at, node_key_at, index_at}

-- a test that one number is below another, where it is not
not_below : (a b : ℕ) → b ≤ a → ltb a b ≡ false
not_below a b h = grind (arith, nat_tests)

-- where it is below no more than another, that one is at most it
at_most : (a b : ℕ) → ltb a b ≡ false → b ≤ a
at_most a b t = grind (arith, nat_tests)

itself : (b : ℕ) → eqb b b ≡ true
itself b = grind (arith, nat_tests)

is_one : (a b : ℕ) → eqb a b ≡ true → a ≡ b
is_one a b t = grind (arith, nat_tests)

-- ---- what is spelled is read

-- a byte is read
pub byte_at-IsRead : (other : WireKind) (b : ℕ) (bytes : List ℕ) (at : ℕ) (rest : List ℕ) → at ≤ length bytes → drop at bytes ≡ b ∷ rest → IsRead (byte_at other b bytes at) b bytes rest
unfolding byte_at
byte_at-IsRead other b bytes at rest h e =
    let x = bytes_at-IsRead (wrong Short) (b ∷ []) bytes at rest h e in
    record { place = x.place; is = rw (x.is, itself b) (refl {a = got b x.place}); left = x.left; inside = x.inside }

-- bytes within the limit are read behind their length
pub sized_at-IsRead : (long : WireKind) (limit : ℕ) (x bytes : List ℕ) (at : ℕ) (rest : List ℕ) → limit < 2 ^ 64 → length x ≤ limit → at ≤ length bytes → drop at bytes ≡ sized_form x ++ rest → IsRead (sized_at long limit bytes at) x bytes rest
unfolding sized_at
sized_at-IsRead long limit x bytes at rest fits short h e =
    let n = number_at-IsRead bad_number (length x) bytes at (x ++ rest) (omega (arith, fits, short)) h (e ∙ append_assoc (uvarint (length x)) x rest) in
    let b = bytes_at-IsRead (wrong Short) x bytes n.place rest n.inside n.left in
    let test : ltb limit (length x) ≡ false = not_below limit (length x) short in
    record { place = b.place; is = rw (n.is, test) b.is; left = b.left; inside = b.inside }

-- a flag is read, with the bytes where there are some
pub maybe_at-IsRead : (long : WireKind) (limit : ℕ) (v : Option (List ℕ)) (bytes : List ℕ) (at : ℕ) (rest : List ℕ) → limit < 2 ^ 64 → IfSome v (λ v. length v ≤ limit) → at ≤ length bytes → drop at bytes ≡ value_form v ++ rest → IsRead (maybe_at long limit bytes at) v bytes rest
unfolding maybe_at
maybe_at-IsRead long limit None bytes at rest fits short h e =
    let f = flag_at-IsRead (wrong Short) (wrong Flag) false bytes at rest h e in
    record { place = f.place; is = rw f.is (refl {a = got None f.place}); left = f.left; inside = f.inside }
maybe_at-IsRead long limit (Some v) bytes at rest fits short h e =
    let f = flag_at-IsRead (wrong Short) (wrong Flag) true bytes at (sized_form v ++ rest) h e in
    let b = sized_at-IsRead long limit v bytes f.place rest fits short f.inside f.left in
    record { place = b.place; is = rw (f.is, b.is) (refl {a = got (Some v) b.place}); left = b.left; inside = b.inside }

-- a number of bits of whole tokens is read
bit_count_at-IsRead : (l : Limits) (w n : ℕ) (bytes : List ℕ) (at : ℕ) (rest : List ℕ) → FitsLimits l → n ≤ rest_limit l → n % w ≡ 0 → at ≤ length bytes → drop at bytes ≡ uvarint n ++ rest → IsRead (bit_count_at l w bytes at) n bytes rest
unfolding bit_count_at
bit_count_at-IsRead l w n bytes at rest fits short whole h e =
    let r = number_at-IsRead bad_number n bytes at rest (omega (arith, short, fits)) h e in
    record { place = r.place; is = rw (r.is, not_below (rest_limit l) n short, whole) (refl {a = got n r.place}); left = r.left; inside = r.inside }

-- a node's key is read
pub node_key_at-IsRead : (l : Limits) (w : ℕ) (k : List Bool) (bytes : List ℕ) (at : ℕ) (rest : List ℕ) → FitsLimits l → length k ≤ rest_limit l → length k % w ≡ 0 → at ≤ length bytes → drop at bytes ≡ key_form k ++ rest → IsRead (node_key_at l w bytes at) k bytes rest
unfolding node_key_at
node_key_at-IsRead l w k bytes at rest fits short whole h e =
    let n = bit_count_at-IsRead l w (length k) bytes at (packed k ++ rest) fits short whole h (e ∙ append_assoc (uvarint (length k)) (packed k) rest) in
    let b = bits_at-IsRead (wrong Short) (wrong Padding) k bytes n.place rest n.inside n.left in
    record { place = b.place; is = rw n.is b.is; left = b.left; inside = b.inside }

-- an index below the factor is read, where it is not too low
pub index_at-IsRead : (w low i : ℕ) (bytes : List ℕ) (at : ℕ) (rest : List ℕ) → i < 2 ^ w → i < 2 ^ 64 → low ≤ i → at ≤ length bytes → drop at bytes ≡ uvarint i ++ rest → IsRead (index_at w low bytes at) i bytes rest
unfolding index_at
index_at-IsRead w low i bytes at rest small fits l h e =
    let n = number_at-IsRead bad_number i bytes at rest fits h e in
    let test : leb (2 ^ w) i ≡ false = not_above (2 ^ w) i small in
    record { place = n.place; is = rw (n.is, test, not_below i low l) (refl {a = got i n.place}); left = n.left; inside = n.inside }
  where
    not_above : (a b : ℕ) → b < a → leb a b ≡ false
    not_above a b h = grind (arith, nat_tests)

-- ---- what is read is spelled so

-- a byte that was read stands there
pub byte_at-Stands : (other : WireKind) (b : ℕ) (bytes : List ℕ) (at x next : ℕ) → byte_at other b bytes at ≡ got x next → Stands bytes at (b ∷ []) next × (x ≡ b)
unfolding byte_at
byte_at-Stands other b bytes at x next e =
    let a = bind_ok (bytes_at (wrong Short) 1 bytes at) (λ x. cond (eqb (get_or x.0 0 0) b) (got b x.1) (Err (wrong other at))) (x, next) e in
    let g = met (eqb (get_or a.0.0 0 0) b) (wrong other at) (got b a.0.1) (x, next) a.2 in
    let t = bytes_at-Stands (wrong Short) 1 bytes at a.0.0 a.0.1 a.1 in
    let f = ok_is (b, a.0.1) (x, next) g.1 in
    let single : a.0.0 ≡ b ∷ [] = lone a.0.0 t.1 (is_one (get_or a.0.0 0 0) b g.0) in
    (subst (λ n. Stands bytes at (b ∷ []) n) (ap (λ (p : ℕ × ℕ). p.1) f) (subst (λ y. Stands bytes at y a.0.1) single t.0), sym (ap (λ (p : ℕ × ℕ). p.0) f))
  where
    lone : (y : List ℕ) → length y ≡ 1 → get_or y 0 0 ≡ b → y ≡ b ∷ []
    lone [] l g = absurd (omega arith)
    lone (z ∷ []) l g = ap (λ z. z ∷ []) g
    lone (z ∷ u ∷ y) l g = absurd (omega arith)

-- bytes that were read stand there behind their length, and are within the limit
pub sized_at-Stands : (long : WireKind) (limit : ℕ) (bytes : List ℕ) (at : ℕ) (x : List ℕ) (next : ℕ) → AreBytes bytes → sized_at long limit bytes at ≡ got x next → Stands bytes at (sized_form x) next × (length x ≤ limit)
unfolding sized_at
sized_at-Stands long limit bytes at x next fits e =
    let a = bind_ok (number_at bad_number bytes at) (λ n. cond (ltb limit n.0) (Err (wrong long at)) (bytes_at (wrong Short) n.0 bytes n.1)) (x, next) e in
    let g = passed (ltb limit a.0.0) (wrong long at) (bytes_at (wrong Short) a.0.0 bytes a.0.1) (x, next) a.2 in
    let t = number_at-Stands bad_number bytes at a.0.0 a.0.1 fits a.1 in
    let u = bytes_at-Stands (wrong Short) a.0.0 bytes a.0.1 x next g.1 in
    (Stands-then bytes at a.0.1 next (uvarint (length x)) x (subst (λ n. Stands bytes at (uvarint n) a.0.1) (sym u.1) t.0) u.0, subst (λ n. n ≤ limit) (sym u.1) (at_most limit a.0.0 g.0))

-- what was read behind a flag stands there
pub maybe_at-Stands : (long : WireKind) (limit : ℕ) (bytes : List ℕ) (at : ℕ) (v : Option (List ℕ)) (next : ℕ) → AreBytes bytes → maybe_at long limit bytes at ≡ got v next → Stands bytes at (value_form v) next × IfSome v (λ v. length v ≤ limit)
unfolding maybe_at
maybe_at-Stands long limit bytes at v next fits e =
    let a = bind_ok (flag_at (wrong Short) (wrong Flag) bytes at) (λ flag. cond flag.0 (sized_at long limit bytes flag.1 >>= λ v. Ok (Some v.0, v.1)) (Ok (None, flag.1))) (v, next) e in
    which a.0.0 a.0.1 (flag_at-Stands (wrong Short) (wrong Flag) bytes at a.0.0 a.0.1 a.1) a.2
  where
    which : (flag : Bool) (p : ℕ) → Stands bytes at (flag_form flag) p → cond flag (sized_at long limit bytes p >>= λ v. Ok (Some v.0, v.1)) (Ok (None, p)) ≡ got v next → Stands bytes at (value_form v) next × IfSome v (λ v. length v ≤ limit)
    which false p s f = subst (λ (x : Option (List ℕ) × ℕ). Stands bytes at (value_form x.0) x.1 × IfSome x.0 (λ v. length v ≤ limit)) (ok_is (None, p) (v, next) f) (s, tt)
    which true p s f =
        let b = bind_ok (sized_at long limit bytes p) (λ v. Ok (Some v.0, v.1)) (v, next) f in
        let t = sized_at-Stands long limit bytes p b.0.0 b.0.1 fits b.1 in
        subst (λ (x : Option (List ℕ) × ℕ). Stands bytes at (value_form x.0) x.1 × IfSome x.0 (λ v. length v ≤ limit)) (ok_is (Some b.0.0, b.0.1) (v, next) b.2)
        (Stands-then bytes at p b.0.1 (flag_form true) (sized_form b.0.0) s t.0, t.1)

-- a number of bits that was read stands there, is of whole tokens and within the limit
bit_count_at-Stands : (l : Limits) (w : ℕ) (bytes : List ℕ) (at n next : ℕ) → AreBytes bytes → bit_count_at l w bytes at ≡ got n next → Stands bytes at (uvarint n) next × (n ≤ rest_limit l) × (n % w ≡ 0)
unfolding bit_count_at
bit_count_at-Stands l w bytes at n next fits e =
    let a = bind_ok (number_at bad_number bytes at) (λ n. cond (ltb (rest_limit l) n.0) (Err (wrong LongKey at)) (cond (eqb (n.0 % w) 0) (Ok n) (Err (wrong Tokens at)))) (n, next) e in
    let g = passed (ltb (rest_limit l) a.0.0) (wrong LongKey at) (cond (eqb (a.0.0 % w) 0) (Ok a.0) (Err (wrong Tokens at))) (n, next) a.2 in
    let h = met (eqb (a.0.0 % w) 0) (wrong Tokens at) (Ok a.0) (n, next) g.1 in
    let t = number_at-Stands bad_number bytes at a.0.0 a.0.1 fits a.1 in
    subst (λ (p : ℕ × ℕ). Stands bytes at (uvarint p.0) p.1 × (p.0 ≤ rest_limit l) × (p.0 % w ≡ 0)) (ok_is a.0 (n, next) h.1) (t.0, at_most (rest_limit l) a.0.0 g.0, is_one (a.0.0 % w) 0 h.0)

-- a node's key that was read stands there in its form
pub node_key_at-Stands : (l : Limits) (w : ℕ) (bytes : List ℕ) (at : ℕ) (k : List Bool) (next : ℕ) → AreBytes bytes → node_key_at l w bytes at ≡ got k next → Stands bytes at (key_form k) next × (length k ≤ rest_limit l) × (length k % w ≡ 0)
unfolding node_key_at
node_key_at-Stands l w bytes at k next fits e =
    let a = bind_ok (bit_count_at l w bytes at) (λ n. bits_at (wrong Short) (wrong Padding) n.0 bytes n.1) (k, next) e in
    let t = bit_count_at-Stands l w bytes at a.0.0 a.0.1 fits a.1 in
    let u = bits_at-Stands (wrong Short) (wrong Padding) a.0.0 bytes a.0.1 k next fits a.2 in
    subst (λ n. (Stands bytes at (uvarint n ++ packed k) next) × (n ≤ rest_limit l) × (n % w ≡ 0)) (sym u.1) (Stands-then bytes at a.0.1 next (uvarint a.0.0) (packed k) t.0 u.0, t.1, t.2)

-- an index that was read stands there, is below the factor and not too low
pub index_at-Stands : (w low : ℕ) (bytes : List ℕ) (at i next : ℕ) → AreBytes bytes → index_at w low bytes at ≡ got i next → Stands bytes at (uvarint i) next × (i < 2 ^ w) × (low ≤ i)
unfolding index_at
index_at-Stands w low bytes at i next fits e =
    let a = bind_ok (number_at bad_number bytes at) (λ i. cond (leb (2 ^ w) i.0) (Err (wrong Index at)) (cond (ltb i.0 low) (Err (wrong Order at)) (Ok i))) (i, next) e in
    let g = passed (leb (2 ^ w) a.0.0) (wrong Index at) (cond (ltb a.0.0 low) (Err (wrong Order at)) (Ok a.0)) (i, next) a.2 in
    let h = passed (ltb a.0.0 low) (wrong Order at) (Ok a.0) (i, next) g.1 in
    let t = number_at-Stands bad_number bytes at a.0.0 a.0.1 fits a.1 in
    subst (λ (p : ℕ × ℕ). Stands bytes at (uvarint p.0) p.1 × (p.0 < 2 ^ w) × (low ≤ p.0)) (ok_is a.0 (i, next) h.1) (t.0, above (2 ^ w) a.0.0 g.0, at_most a.0.0 low h.0)
  where
    above : (a b : ℕ) → leb a b ≡ false → b < a
    above a b t = grind (arith, nat_tests)
