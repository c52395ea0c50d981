-- A call that failed, after which a disk reads as before.
use Rattle.std.proofs.Common.{◌≡◌, ℕ, ◌+◌, List, length, Result, Ok, Err, OnOk, refl, ap, subst, sym, arith}
use Rattle.disk_model.specs.Files.{Files, Torn, HalfCut, Writes, Cuts, Alone, first_touched}

pub torn_same : (from to : ℕ) (file : List ℕ) → Torn from to file file
torn_same from to file = record { before = refl; after = refl; no_shorter = omega arith; no_longer = omega arith }

half_cut_same : (n : ℕ) (file : List ℕ) → HalfCut n file file
half_cut_same n file = record { before = refl; no_shorter = omega arith; no_longer = omega arith }

-- a write
pub write_kept : {T E : Type 0} (result : Result T E) (file at : ℕ) (bytes : List ℕ) (old new : Files) → OnOk result ⊥ → new ≡ old → Alone file (Writes at bytes result) old new
write_kept (Ok x) file at bytes old new none same = absurd none
write_kept (Err e) file at bytes old new none same = record {
  here = record { ok = tt; err = subst (λ (f : Files). Torn (first_touched (old file) at) (at + length bytes) (old file) (f file)) (sym same) (torn_same (first_touched (old file) at) (at + length bytes) (old file)) };
  others = λ other ne. ap (λ (f : Files). f other) same;
}

-- a cut
pub cut_kept : {T E : Type 0} (result : Result T E) (file n : ℕ) (old new : Files) → OnOk result ⊥ → new ≡ old → Alone file (Cuts n result) old new
cut_kept (Ok x) file n old new none same = absurd none
cut_kept (Err e) file n old new none same = record {
  here = record { ok = tt; err = subst (λ (f : Files). HalfCut n (old file) (f file)) (sym same) (half_cut_same n (old file)) };
  others = λ other ne. ap (λ (f : Files). f other) same;
}

-- a call that is allowed nothing where it fails
pub never_ok : {T E : Type 0} (P : Type 0) (result : Result T E) → OnOk result ⊥ → OnOk result P
never_ok P (Ok x) none = absurd none
never_ok P (Err e) none = tt
