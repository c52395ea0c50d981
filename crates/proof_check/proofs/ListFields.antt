-- Fields that are read one after the other, and make a list.
use Rattle.std.proofs.Common.{◌≡◌, ℕ, List, [], ◌∷◌, ◌++◌, Option, Some, None, Result, Ok, Err, refl, sym, ap, subst, ◌∙◌, append_assoc}
use Rattle.std.proofs.lemmas.List.{append-nil}
use Rattle.base_model.specs.Fields.{Field, ◌>>=◌}
use Rattle.proof_model.specs.Wire as wire
use Rattle.proof_check.specs.declared.wire_fault.WireFault.{WireFault}
use Rattle.proof_check.specs.ReaderAnswers.{Fails, IsFault, seen_kind}

-- values in front of those that are read
abbrev pub with_front : {A : Type 0} → List A → Field wire.WireFault (List A) → Field wire.WireFault (List A)
with_front front read = read >>= λ x. Ok (front ++ x.0, x.1)

-- one value, and the others behind it
abbrev pub one_and : {A : Type 0} → Field wire.WireFault A → (A × ℕ → Field wire.WireFault (List A)) → Field wire.WireFault (List A)
one_and one others = one >>= λ x. others x >>= λ xs. Ok (x.0 ∷ xs.0, xs.1)

-- one value more in front
regroup : {A : Type 0} (front : List A) (c : A) (read : Field wire.WireFault (List A)) → with_front front (read >>= λ x. Ok (c ∷ x.0, x.1)) ≡ with_front (front ++ c ∷ []) read
regroup front c (Ok x) = ap (λ cs. Ok (cs, x.1)) (simp append_assoc)
regroup front c (Err f) = refl

-- the loop has read one value more
pub goes_on : {A : Type 0} (front : List A) (c : A) (after : ℕ) (one : Field wire.WireFault A) (others : A × ℕ → Field wire.WireFault (List A)) (all total : Field wire.WireFault (List A)) → all ≡ one_and one others → one ≡ Ok (c, after)
    → with_front front all ≡ total → with_front (front ++ c ∷ []) (others (c, after)) ≡ total
goes_on front c after one others all total e h so_far =
    let step : with_front front all ≡ with_front (front ++ c ∷ []) (others (c, after)) = ap (with_front front) e ∙ ap (λ r. with_front front (one_and r others)) h ∙ regroup front c (others (c, after)) in
    sym step ∙ so_far

-- a fault of a field is that of what goes on behind it
through : {A B : Type 0} (at : ℕ) (k : Option wire.WireKind) (r : Result A wire.WireFault) (f : A → Result B wire.WireFault) → IsFault at k r → IsFault at k (r >>= f)
through at None r f h = tt
through at (Some k) r f h = ap (λ r. r >>= f) h

pub fails_through : {A B : Type 0} (e : WireFault) (r : Result A wire.WireFault) (f : A → Result B wire.WireFault) → Fails e r → Fails e (r >>= f)
fails_through e r f h = through e.at (seen_kind e.kind) r f h

-- the loop stops at a fault
pub ends : {A : Type 0} (e : WireFault) (front : List A) (one : Field wire.WireFault A) (others : A × ℕ → Field wire.WireFault (List A)) (all total : Field wire.WireFault (List A)) → all ≡ one_and one others → Fails e one
    → with_front front all ≡ total → Fails e total
ends e front one others all total s h so_far =
    let step : with_front front all ≡ with_front front (one_and one others) = ap (with_front front) s in
    subst (λ r. Fails e r) (sym step ∙ so_far) (fails_through e (one_and one others) (λ x. Ok (front ++ x.0, x.1)) (fails_through e one (λ x. others x >>= λ xs. Ok (x.0 ∷ xs.0, xs.1)) h))

-- the loop has read all values
pub is_done : {A : Type 0} (front : List A) (at : ℕ) (all total : Field wire.WireFault (List A)) → all ≡ Ok ([], at) → with_front front all ≡ total → total ≡ Ok (front, at)
is_done front at all total e so_far = sym so_far ∙ ap (with_front front) e ∙ ap (λ xs. Ok (xs, at)) (append-nil front)
