-- Bytes behind their length: what is spelled is read, and what is read is spelled so.
use Rattle.std.proofs.Common.{◌≡◌, ℕ, ◌^◌, ◌<◌, ◌≤◌, false, cond, List, ◌++◌, length, drop, Err, sym, ◌∙◌, arith, subst, ltb, append_assoc}
use Rattle.std.proofs.lemmas.Bool.Decides.{nat_tests}
use Rattle.base_model.specs.Bytes.{AreBytes}
use Rattle.base_model.specs.Uvarint.{uvarint}
use Rattle.base_model.specs.Fields.{number_at, bytes_at}
use Rattle.base_model.proofs.Fields.{got, IsRead, number_at-IsRead, bytes_at-IsRead, Stands, Stands-then, number_at-Stands, bytes_at-Stands}
use Rattle.base_model.proofs.Results.{bind_ok, passed}
use Rattle.batch_model.specs.Sized.{sized_form, sized_at}

-- bytes within the limit are read behind their length
pub sized_at-IsRead : {E : Type 0} (fault : E) (limit : ℕ) (x bytes : List ℕ) (at : ℕ) (rest : List ℕ) → limit < 2 ^ 64 → length x ≤ limit → at ≤ length bytes → drop at bytes ≡ sized_form x ++ rest → IsRead (sized_at fault limit bytes at) x bytes rest
unfolding sized_at
sized_at-IsRead fault limit x bytes at rest fits short h e =
    let n = number_at-IsRead (λ _ _. fault) (length x) bytes at (x ++ rest) (omega (arith, fits, short)) h (e ∙ append_assoc (uvarint (length x)) x rest) in
    let b = bytes_at-IsRead (λ _. fault) x bytes n.place rest n.inside n.left in
    let test : ltb limit (length x) ≡ false = not_below limit (length x) short in
    record { place = b.place; is = rw (n.is, test) b.is; left = b.left; inside = b.inside }
  where
    not_below : (a b : ℕ) → b ≤ a → ltb a b ≡ false
    not_below a b h = grind (arith, nat_tests)

-- bytes that were read stand there behind their length, and are within the limit
pub sized_at-Stands : {E : Type 0} (fault : E) (limit : ℕ) (bytes : List ℕ) (at : ℕ) (x : List ℕ) (next : ℕ) → AreBytes bytes → sized_at fault limit bytes at ≡ got x next → Stands bytes at (sized_form x) next × (length x ≤ limit)
unfolding sized_at
sized_at-Stands fault limit bytes at x next fits e =
    let a = bind_ok (number_at (λ _ _. fault) bytes at) (λ n. cond (ltb limit n.0) (Err fault) (bytes_at (λ _. fault) n.0 bytes n.1)) (x, next) e in
    let g = passed (ltb limit a.0.0) fault (bytes_at (λ _. fault) a.0.0 bytes a.0.1) (x, next) a.2 in
    let t = number_at-Stands (λ _ _. fault) bytes at a.0.0 a.0.1 fits a.1 in
    let u = bytes_at-Stands (λ _. fault) a.0.0 bytes a.0.1 x next g.1 in
    (Stands-then bytes at a.0.1 next (uvarint (length x)) x (subst (λ n. Stands bytes at (uvarint n) a.0.1) (sym u.1) t.0) u.0, subst (λ n. n ≤ limit) (sym u.1) (short limit a.0.0 g.0))
  where
    short : (a b : ℕ) → ltb a b ≡ false → b ≤ a
    short a b t = grind (arith, nat_tests)
