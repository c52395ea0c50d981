-- A write and a sync of a file that was synced before.
use Rattle.std.proofs.Common.{◌≡◌, ◌⊎◌, inl, inr, ℕ, List, Result, Ok, Err, sym, ◌∙◌, ap, subst}
use Rattle.std.specs.Prelude.{OnOk, OnErr}
use Rattle.std.proofs.lemmas.Bool.{cases_eq}
use Rattle.disk_model.specs.Files.{Files, Torn, first_touched}
use Rattle.disk_model.specs.Crash.{Unsynced, IsImage, IsImageOf, at_rest, after_write}
use Rattle.disk_model.specs.Moments.{Moments, Meanwhile, LeavesOnly, Passes}
use Rattle.disk_model.proofs.Meanwhile.{one_or_none}
use Rattle.disk_model.proofs.RestImages.{rest_image}
use Rattle.store_model.proofs.Appends.{torn_image}
use Rattle.mdb_journal.specs.DiskMoves.{Rests, TornAlone}

-- whatever a call answered
pub whatever_answered : {T E P Q : Type 0} (result : Result T E) → OnOk result P → OnErr result Q → Q ⊎ P
whatever_answered (Ok x) ok err = inr ok
whatever_answered (Err e) ok err = inl err

-- what follows where a call answered Ok
pub where_ok : {T E P Q : Type 0} (result : Result T E) → (P → Q) → OnOk result P → OnOk result Q
where_ok (Ok x) f ok = f ok
where_ok (Err e) f ok = ok

module _ (file at to : ℕ) (s : List ℕ) (seen : Files) (old : Moments) (rests : Rests file s seen old) (real : IsImage (old.now file) (seen file)) where
  abbrev begins : Unsynced → Unsynced
  begins = after_write (first_touched (seen file) at) to

  rest : IsImage (at_rest s) s
  rest = subst (λ b. IsImage (at_rest s) b) rests.is (subst (λ (u : Unsynced). IsImage u (seen file)) rests.synced real)

  torn : (mid : Moments) → Passes file begins old mid → (c : List ℕ) → IsImage (mid.now file) c → Torn (first_touched s at) to s c
  torn mid passes c image =
      let is : mid.now file ≡ after_write (first_touched s at) to (at_rest s) = passes.now.here ∙ ap begins rests.synced ∙ ap (λ (l : List ℕ). after_write (first_touched l at) to (at_rest s)) rests.is in
      torn_image s c at to rest (subst (λ (u : Unsynced). IsImage u c) is image)

  -- while it is written
  pub write_step : (mid : Moments) → (mid ≡ old) ⊎ Passes file begins old mid → Meanwhile (TornAlone old file (first_touched s at) to s) old mid
  write_step mid tick = one_or_none _ old mid file begins tick (λ passes image is. record {
    here = torn mid passes (image file) (is file);
    others = λ other ne. subst (λ (u : Unsynced). IsImage u (image other)) (passes.now.others other ne) (is other);
  })

  -- while it is synced
  pub sync_step : (mid new : Moments) (seen_mid : Files) → Passes file begins old mid → IsImage (mid.now file) (seen_mid file) → (new ≡ mid) ⊎ Passes file (λ _. at_rest (seen_mid file)) mid new → Meanwhile (TornAlone old file (first_touched s at) to s) mid new
  sync_step mid new seen_mid passes here tick = one_or_none _ mid new file (λ _. at_rest (seen_mid file)) tick (λ then image is. record {
    here =
        let same : image file ≡ seen_mid file = rest_image (seen_mid file) (image file) (subst (λ (u : Unsynced). IsImage u (image file)) then.now.here (is file)) in
        torn mid passes (image file) (subst (λ (l : List ℕ). IsImage (mid.now file) l) (sym same) here);
    others = λ other ne. subst (λ (u : Unsynced). IsImage u (image other)) (then.now.others other ne ∙ passes.now.others other ne) (is other);
  })

-- a sync leaves only what could be left before
pub sync_only : (file : ℕ) (seen : Files) (old new : Moments) → ((f : ℕ) → IsImage (old.now f) (seen f)) → Passes file (λ _. at_rest (seen file)) old new → LeavesOnly (IsImageOf old.now) new.now
sync_only file seen old new real passes image is f = elim (cases_eq f file) [
  | inl same ↦
      let left : image file ≡ seen file = rest_image (seen file) (image file) (subst (λ (u : Unsynced). IsImage u (image file)) passes.now.here (is file)) in
      subst (λ (k : ℕ). IsImage (old.now k) (image k)) (sym same) (subst (λ (l : List ℕ). IsImage (old.now file) l) (sym left) (real file))
  | inr ne ↦ subst (λ (u : Unsynced). IsImage u (image f)) (passes.now.others f ne) (is f)
]
