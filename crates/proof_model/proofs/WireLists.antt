-- Values of one grammar, one after the other: what is spelled is read, and what is read is spelled so.
use Rattle.std.proofs.Common.{◌≡◌, ℕ, zero, suc, ◌^◌, ◌<◌, ◌≤◌, List, [], ◌∷◌, ◌++◌, length, drop, Ok, refl, sym, ap, ◌∙◌, subst, append_assoc}
use Rattle.std.specs.List.{flat_map, AllByRecursion}
use Rattle.std.proofs.lemmas.List.Concat.{flat_map-cons}
use Rattle.base_model.specs.Bytes.{AreBytes}
use Rattle.base_model.specs.Uvarint.{uvarint}
use Rattle.base_model.specs.Fields.{Field, ◌>>=◌, number_at}
use Rattle.base_model.proofs.Fields.{got, IsRead, number_at-IsRead, Stands, Stands-then, number_at-Stands}
use Rattle.base_model.proofs.Results.{ok_is, bind_ok}
use Rattle.proof_model.specs.Wire.{WireFault, bad_number, counted_form, AreCounted, listed_at, counted_at}

module _ {A : Type 0} (read : List ℕ → ℕ → Field WireFault A) (form : A → List ℕ) (P : A → Type 0) where
  -- one value that is spelled is read
  abbrev pub ReadsSpelled : Type 0
  ReadsSpelled = (x : A) (bytes : List ℕ) (at : ℕ) (rest : List ℕ) → P x → at ≤ length bytes → drop at bytes ≡ form x ++ rest → IsRead (read bytes at) x bytes rest

  -- and one that was read stands there
  abbrev pub ReadsStanding : Type 0
  ReadsStanding = (bytes : List ℕ) (at : ℕ) (x : A) (next : ℕ) → AreBytes bytes → read bytes at ≡ got x next → Stands bytes at (form x) next × P x

  module _ (one : ReadsSpelled) where
    -- values are read, one after the other
    listed_at-IsRead : (xs : List A) (bytes : List ℕ) (at : ℕ) (rest : List ℕ) → AllByRecursion P xs → at ≤ length bytes → drop at bytes ≡ flat_map form xs ++ rest → IsRead (listed_at read (length xs) bytes at) xs bytes rest
    unfolding listed_at
    listed_at-IsRead [] bytes at rest fits h q = record { place = at; is = refl; left = q; inside = h }
    listed_at-IsRead (x ∷ xs) bytes at rest fits h q =
        let others = flat_map form xs ++ rest in
        let regrouped : flat_map form (x ∷ xs) ++ rest ≡ form x ++ others =
        ap (λ y. y ++ rest) (flat_map-cons form x xs) ∙ append_assoc (form x) (flat_map form xs) rest in
        let f = one x bytes at others fits.0 h (q ∙ regrouped) in
        let o = listed_at-IsRead xs bytes f.place rest fits.1 f.inside f.left in
        record { place = o.place; is = rw (f.is, o.is) (refl {a = got (x ∷ xs) o.place}); left = o.left; inside = o.inside }

    -- so are values behind their number
    pub counted_at-IsRead : (xs : List A) (bytes : List ℕ) (at : ℕ) (rest : List ℕ) → AreCounted P xs → at ≤ length bytes → drop at bytes ≡ counted_form form xs ++ rest → IsRead (counted_at read bytes at) xs bytes rest
    unfolding counted_at
    counted_at-IsRead xs bytes at rest fits h q =
        let c = number_at-IsRead bad_number (length xs) bytes at (flat_map form xs ++ rest) fits.count h (q ∙ append_assoc (uvarint (length xs)) (flat_map form xs) rest) in
        let x = listed_at-IsRead xs bytes c.place rest fits.each c.inside c.left in
        record { place = x.place; is = rw c.is x.is; left = x.left; inside = x.inside }

  module _ (one : ReadsStanding) where
    -- values that were read stand there
    listed_at-Stands : (n : ℕ) (bytes : List ℕ) (at : ℕ) (xs : List A) (next : ℕ) → AreBytes bytes → listed_at read n bytes at ≡ got xs next → Stands bytes at (flat_map form xs) next × (length xs ≡ n) × AllByRecursion P xs
    unfolding listed_at
    listed_at-Stands zero bytes at xs next fits q =
        subst (λ (x : List A × ℕ). Stands bytes at (flat_map form x.0) x.1 × (length x.0 ≡ 0) × AllByRecursion P x.0) (ok_is ([], at) (xs, next) q) (refl, refl, tt)
    listed_at-Stands (suc n) bytes at xs next fits q =
        let f = bind_ok (read bytes at) (λ first. listed_at read n bytes first.1 >>= λ others. Ok (first.0 ∷ others.0, others.1)) (xs, next) q in
        let o = bind_ok (listed_at read n bytes f.0.1) (λ others. Ok (f.0.0 ∷ others.0, others.1)) (xs, next) f.2 in
        let tf = one bytes at f.0.0 f.0.1 fits f.1 in
        let to = listed_at-Stands n bytes f.0.1 o.0.0 o.0.1 fits o.1 in
        let all : Stands bytes at (flat_map form (f.0.0 ∷ o.0.0)) o.0.1 = subst (λ x. Stands bytes at x o.0.1) (sym (flat_map-cons form f.0.0 o.0.0)) (Stands-then bytes at f.0.1 o.0.1 (form f.0.0) (flat_map form o.0.0) tf.0 to.0) in
        subst (λ (x : List A × ℕ). Stands bytes at (flat_map form x.0) x.1 × (length x.0 ≡ suc n) × AllByRecursion P x.0) (ok_is (f.0.0 ∷ o.0.0, o.0.1) (xs, next) o.2)
        (all, ap suc to.1, (tf.1, to.2))

    -- so do values behind their number
    pub counted_at-Stands : (bytes : List ℕ) (at : ℕ) (xs : List A) (next : ℕ) → AreBytes bytes → counted_at read bytes at ≡ got xs next → Stands bytes at (counted_form form xs) next × AreCounted P xs
    unfolding counted_at
    counted_at-Stands bytes at xs next fits q =
        let c = bind_ok (number_at bad_number bytes at) (λ count. listed_at read count.0 bytes count.1) (xs, next) q in
        let tc = number_at-Stands bad_number bytes at c.0.0 c.0.1 fits c.1 in
        let tx = listed_at-Stands c.0.0 bytes c.0.1 xs next fits c.2 in
        let count : Stands bytes at (uvarint (length xs)) c.0.1 = subst (λ m. Stands bytes at (uvarint m) c.0.1) (sym tx.1) tc.0 in
        (Stands-then bytes at c.0.1 next (uvarint (length xs)) (flat_map form xs) count tx.0, record { count = subst (λ m. m < 2 ^ 64) (sym tx.1) tc.1; each = tx.2 })
