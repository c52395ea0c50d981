-- Records: what is spelled is read, what is read is spelled so, and no record begins another.
use Rattle.std.proofs.Common.{◌≡◌, ℕ, ◌+◌, ◌^◌, ◌<◌, Bool, true, false, cond, ◌&&◌, List, [], ◌∷◌, ◌++◌, length, take, drop, Ok, Err, refl, sym, ap, ◌∙◌, arith, subst, ltb, length-append, length-drop, append_assoc}
use Rattle.std.specs.Int.{w32, to_be_bytes, from_be_bytes}
use Rattle.std.specs.List.{AllByRecursion}
use Rattle.std.proofs.lemmas.Bool.Decides.{nat_tests}
use Rattle.std.proofs.lemmas.List.{take_at, drop_at, drop-drop}
use Rattle.base_model.specs.Bytes.{AreBytes}
use Rattle.base_model.specs.Fields.{◌>>=◌, bytes_at}
use Rattle.base_model.proofs.Fields.{got, IsRead, bytes_at-IsRead, Stands, Stands-then, bytes_at-Stands}
use Rattle.base_model.proofs.Results.{ok_is, bind_ok, met}
use Rattle.store_model.specs.Fields.{byte_at, big_endian_at}
use Rattle.store_model.specs.Header.{open_gate}
use Rattle.store_model.specs.Record.{Record, IsRecord, Begins, record_form, records_form, record_at, is_known}
use Rattle.store_model.specs.Laws.{SpelledRecordsAreRead, ReadRecordsAreSpelled, RecordsArePrefixFree}
use Rattle.store_model.proofs.Fields.{byte_at-IsRead, byte_at-Stands, exact_32, big_endian_at-IsRead, big_endian_at-Stands}

-- a record is read between two gates
pub record_at-IsRead : {E : Type 0} (damaged : E) (r : Record) (bytes : List ℕ) (gate next : ℕ) (rest : List ℕ) → IsRecord r → gate < length bytes → drop (gate + 1) bytes ≡ record_form r ++ next ∷ rest → IsRead (record_at damaged bytes gate) r bytes (next ∷ rest)
unfolding record_at
record_at-IsRead {E} damaged r bytes gate next rest fits h e =
    let k = byte_at-IsRead (λ _. damaged) r.kind bytes (gate + 1) (to_be_bytes w32 (length r.payload) ++ (r.payload ++ next ∷ rest)) (omega (arith, h)) e in
    let n = big_endian_at-IsRead (λ _. damaged) w32 (length r.payload) bytes k.place (r.payload ++ next ∷ rest) exact_32 fits.short k.inside k.left in
    let p = bytes_at-IsRead (λ _. damaged) r.payload bytes n.place (next ∷ rest) n.inside n.left in
    let room : p.place < length bytes = omega (arith, p.inside, ap length p.left, length-drop p.place bytes) in
    let test : ltb p.place (length bytes) ≡ true = is_below p.place (length bytes) room in
    record { place = p.place; is = rw (k.is, n.is, p.is, fits.known, test) (refl {a = got {E = E} r p.place}); left = p.left; inside = p.inside }
  where
    is_below : (a b : ℕ) → a < b → ltb a b ≡ true
    is_below a b h = grind (arith, nat_tests)

-- a record that was read stands there, and the next gate is inside
pub record_at-Stands : {E : Type 0} (damaged : E) (bytes : List ℕ) (gate : ℕ) (r : Record) (next : ℕ) → AreBytes bytes → record_at damaged bytes gate ≡ got r next → Stands bytes (gate + 1) (record_form r) next × IsRecord r × (next < length bytes)
unfolding record_at
record_at-Stands damaged bytes gate r next fits e =
    let k = bind_ok (byte_at (λ _. damaged) bytes (gate + 1)) (λ kind. big_endian_at (λ _. damaged) w32 bytes kind.1 >>= λ count. bytes_at (λ _. damaged) count.0 bytes count.1 >>= λ payload. cond (is_known kind.0 count.0 && ltb payload.1 (length bytes)) (Ok (record { kind = kind.0; payload = payload.0 }, payload.1)) (Err damaged)) (r, next) e in
    let n = bind_ok (big_endian_at (λ _. damaged) w32 bytes k.0.1) (λ count. bytes_at (λ _. damaged) count.0 bytes count.1 >>= λ payload. cond (is_known k.0.0 count.0 && ltb payload.1 (length bytes)) (Ok (record { kind = k.0.0; payload = payload.0 }, payload.1)) (Err damaged)) (r, next) k.2 in
    let p = bind_ok (bytes_at (λ _. damaged) n.0.0 bytes n.0.1) (λ payload. cond (is_known k.0.0 n.0.0 && ltb payload.1 (length bytes)) (Ok (record { kind = k.0.0; payload = payload.0 }, payload.1)) (Err damaged)) (r, next) n.2 in
    let made : Record × ℕ = (record { kind = k.0.0; payload = p.0.0 }, p.0.1) in
    let g = met (is_known k.0.0 n.0.0 && ltb p.0.1 (length bytes)) damaged (Ok made) (r, next) p.2 in
    let t = both_true (is_known k.0.0 n.0.0) (ltb p.0.1 (length bytes)) g.0 in
    let tn = big_endian_at-Stands (λ _. damaged) w32 bytes k.0.1 n.0.0 n.0.1 exact_32 fits n.1 in
    let tp = bytes_at-Stands (λ _. damaged) n.0.0 bytes n.0.1 p.0.0 p.0.1 p.1 in
    let count : Stands bytes k.0.1 (to_be_bytes w32 (length p.0.0)) n.0.1 = subst (λ n'. Stands bytes k.0.1 (to_be_bytes w32 n') n.0.1) (sym tp.1) tn.0 in
    let s2 = Stands-then bytes k.0.1 n.0.1 p.0.1 (to_be_bytes w32 (length p.0.0)) p.0.0 count tp.0 in
    let s1 = Stands-then bytes (gate + 1) k.0.1 p.0.1 (k.0.0 ∷ []) (to_be_bytes w32 (length p.0.0) ++ p.0.0) (byte_at-Stands (λ _. damaged) bytes (gate + 1) k.0.0 k.0.1 k.1) s2 in
    let known : is_known k.0.0 (length p.0.0) ≡ true = subst (λ n. is_known k.0.0 n ≡ true) (sym tp.1) t.0 in
    let short : length p.0.0 < 2 ^ 32 = subst (λ n. n < 2 ^ 32) (sym tp.1) tn.1 in
    subst (λ (x : Record × ℕ). Stands bytes (gate + 1) (record_form x.0) x.1 × IsRecord x.0 × (x.1 < length bytes)) (ok_is made (r, next) g.1)
    (s1, record { known = known; short = short }, is_below p.0.1 (length bytes) t.1)
  where
    is_below : (a b : ℕ) → ltb a b ≡ true → a < b
    is_below a b t = grind (arith, nat_tests)

    both_true : (a b : Bool) → (a && b) ≡ true → (a ≡ true) × (b ≡ true)
    both_true true true e = (refl, refl)
    both_true true false e = absurd cc
    both_true false b e = absurd cc

-- a record that is spelled between two gates is read
pub spelled_records_are_read : SpelledRecordsAreRead
spelled_records_are_read r damaged front gate next rest fits =
    let bytes = front ++ gate ∷ (record_form r ++ next ∷ rest) in
    let inside : length front < length bytes = omega (arith, length-append front (gate ∷ (record_form r ++ next ∷ rest))) in
    let left : drop (length front + 1) bytes ≡ record_form r ++ next ∷ rest = sym (drop-drop 1 (length front) bytes) ∙ ap (drop 1) (drop_at front (gate ∷ (record_form r ++ next ∷ rest)) (length front) refl) ∙ start (record_form r ++ next ∷ rest) in
    let i = record_at-IsRead damaged r bytes (length front) next rest fits inside left in
    let place : i.place ≡ length front + 1 + length (record_form r) = omega (arith, ap length i.left, i.inside, length-drop i.place bytes, length-append front (gate ∷ (record_form r ++ next ∷ rest)), length-append (record_form r) (next ∷ rest)) in
    i.is ∙ ap (λ p. got r p) place
  where
    start : (x : List ℕ) → drop 0 x ≡ x
    start [] = refl
    start (c ∷ x) = refl

pub read_records_are_spelled : ReadRecordsAreSpelled
read_records_are_spelled damaged bytes gate r next fits e = let t = record_at-Stands damaged bytes gate r next fits e in (t.1, t.0, t.2)

-- no record begins another
pub records_are_prefix_free : RecordsArePrefixFree
records_are_prefix_free r s x y fr fs e =
    let lengths : to_be_bytes w32 (length r.payload) ≡ to_be_bytes w32 (length s.payload) = ap (λ l. take 4 (drop 1 l)) e in
    let size : length r.payload ≡ length s.payload = sym (exact_32.read (length r.payload) fr.short) ∙ ap (from_be_bytes w32) lengths ∙ exact_32.read (length s.payload) fs.short in
    let kind : r.kind ≡ s.kind = cc in
    let behind : r.payload ++ x ≡ s.payload ++ y = ap (drop 5) e in
    let payload : r.payload ≡ s.payload = sym (take_at r.payload x (length r.payload) refl) ∙ ap (take (length r.payload)) behind ∙ take_at s.payload y (length r.payload) (sym size) in
    let rest : x ≡ y = sym (drop_at r.payload x (length r.payload) refl) ∙ ap (drop (length r.payload)) behind ∙ drop_at s.payload y (length r.payload) (sym size) in
    (same r.kind s.kind r.payload s.payload kind payload, rest)
  where
    same : (k l : ℕ) (p q : List ℕ) → k ≡ l → p ≡ q → ◌≡◌ {A = Record} (record { kind = k; payload = p }) (record { kind = l; payload = q })
    same k l p q e f = ap (λ k. record { kind = k; payload = p }) e ∙ ap (λ p. record { kind = l; payload = p }) f

-- bytes begin with at most one list of records
pub begins_once : (rs qs : List Record) (bytes : List ℕ) → Begins rs bytes → Begins qs bytes → rs ≡ qs
begins_once [] [] bytes a b = refl
begins_once [] (q ∷ qs) bytes a b = let same : a.gate ≡ 1 = cc (a.is, b.is) in absurd (a.closed same)
begins_once (r ∷ rs) [] bytes a b = let same : b.gate ≡ 1 = cc (a.is, b.is) in absurd (b.closed same)
begins_once (r ∷ rs) (q ∷ qs) bytes a b =
    let x = records_form rs ++ a.gate ∷ a.junk in
    let y = records_form qs ++ b.gate ∷ b.junk in
    let one : bytes ≡ 1 ∷ (record_form r ++ x) = a.is ∙ ap (λ l. 1 ∷ l) (append_assoc (record_form r) (records_form rs) (a.gate ∷ a.junk)) in
    let two : bytes ≡ 1 ∷ (record_form q ++ y) = b.is ∙ ap (λ l. 1 ∷ l) (append_assoc (record_form q) (records_form qs) (b.gate ∷ b.junk)) in
    let f = records_are_prefix_free r q x y a.records.0 b.records.0 (ap (drop 1) (sym one ∙ two)) in
    let more = begins_once rs qs x (record { gate = a.gate; junk = a.junk; is = refl; closed = a.closed; records = a.records.1 }) (record { gate = b.gate; junk = b.junk; is = f.1; closed = b.closed; records = b.records.1 }) in
    ap (λ r. r ∷ rs) f.0 ∙ ap (λ rs. q ∷ rs) more

-- one record more
pub records_form-push : (rs : List Record) (r : Record) → records_form (rs ++ r ∷ []) ≡ records_form rs ++ open_gate ∷ record_form r
records_form-push [] r = ap (λ l. open_gate ∷ l) (nil (record_form r))
  where
    nil : (x : List ℕ) → x ++ [] ≡ x
    nil [] = refl
    nil (b ∷ x) = ap (λ l. b ∷ l) (nil x)
records_form-push (q ∷ rs) r = ap (λ l. open_gate ∷ (record_form q ++ l)) (records_form-push rs r) ∙ ap (λ l. open_gate ∷ l) (sym (append_assoc (record_form q) (records_form rs) (open_gate ∷ record_form r)))

pub IsRecord-push : (rs : List Record) (r : Record) → AllByRecursion IsRecord rs → IsRecord r → AllByRecursion IsRecord (rs ++ r ∷ [])
IsRecord-push [] r all one = (one, tt)
IsRecord-push (q ∷ rs) r all one = (all.0, IsRecord-push rs r all.1 one)
