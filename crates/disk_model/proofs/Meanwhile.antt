-- Runs of moments, at each of which a crash leaves only what has P.
use Rattle.std.proofs.Common.{◌≡◌, ◌⊎◌, inl, inr, ℕ, List, [], ◌∷◌, ◌++◌, Result, Ok, Err, subst, sym, ◌∙◌, ap, append_assoc}
use Rattle.disk_model.specs.Files.{Files}
use Rattle.disk_model.specs.Crash.{Unsynced}
use Rattle.disk_model.specs.Moments.{Moments, LeavesOnly, EachLeavesOnly, Meanwhile, Passes, Ticks}

-- two lists of moments
pub both : (P : Files → Type 0) (ms ns : List (ℕ → Unsynced)) → EachLeavesOnly P ms → EachLeavesOnly P ns → EachLeavesOnly P (ms ++ ns)
both P [] ns first second = second
both P (m ∷ ms) ns first second = (first.0, both P ms ns first.1 second)

each_weaker : (P Q : Files → Type 0) → ((image : Files) → P image → Q image) → (ms : List (ℕ → Unsynced)) → EachLeavesOnly P ms → EachLeavesOnly Q ms
each_weaker P Q within [] each = tt
each_weaker P Q within (m ∷ ms) each = (λ image is. within image (each.0 image is), each_weaker P Q within ms each.1)

-- what follows from P
pub weaker : {P Q : Files → Type 0} {old new : Moments} → Meanwhile P old new → ((image : Files) → P image → Q image) → Meanwhile Q old new
weaker {P} {Q} run within = record { moments = run.moments; passed = run.passed; each = each_weaker P Q within run.moments run.each }

-- no moment
pub none_yet : (P : Files → Type 0) (old new : Moments) → new ≡ old → Meanwhile P old new
none_yet P old new same = record { moments = []; passed = ap (λ (m : Moments). m.now ∷ m.past) same; each = tt }

-- one moment
pub one : (P : Files → Type 0) (old new : Moments) (file : ℕ) (change : Unsynced → Unsynced) → Passes file change old new → LeavesOnly P new.now → Meanwhile P old new
one P old new file change passes only = record { moments = new.now ∷ []; passed = ap (λ (l : List (ℕ → Unsynced)). new.now ∷ l) passes.past; each = (only, tt) }

-- one moment, or none
pub one_or_none : (P : Files → Type 0) (old new : Moments) (file : ℕ) (change : Unsynced → Unsynced) → (new ≡ old) ⊎ Passes file change old new → (Passes file change old new → LeavesOnly P new.now) → Meanwhile P old new
one_or_none P old new file change (inl same) only = none_yet P old new same
one_or_none P old new file change (inr passes) only = one P old new file change passes (only passes)

-- two runs, one after the other
pub joined : {P : Files → Type 0} {old mid new : Moments} → Meanwhile P old mid → Meanwhile P mid new → Meanwhile P old new
joined {P} {old} {mid} {new} first second = record {
  moments = second.moments ++ first.moments;
  passed = second.passed ∙ ap (λ (l : List (ℕ → Unsynced)). second.moments ++ l) first.passed ∙ sym (append_assoc second.moments first.moments (old.now ∷ old.past));
  each = both P second.moments first.moments second.each first.each;
}

-- and no moment more
pub quiet : {P : Files → Type 0} {old mid new : Moments} → Meanwhile P old mid → new ≡ mid → Meanwhile P old new
quiet {P} {old} {mid} {new} run same = joined run (none_yet P mid new same)

last_is : (P : Files → Type 0) (old new : Moments) (ms : List (ℕ → Unsynced)) → new.now ∷ new.past ≡ ms ++ (old.now ∷ old.past) → EachLeavesOnly P ms → LeavesOnly P old.now → LeavesOnly P new.now
last_is P old new [] passed each first = let same : new.now ≡ old.now = cc in subst (λ (m : ℕ → Unsynced). LeavesOnly P m) (sym same) first
last_is P old new (m ∷ ms) passed each first = let same : new.now ≡ m = cc in subst (λ (m : ℕ → Unsynced). LeavesOnly P m) (sym same) each.0

-- what holds at each moment holds at the last
pub at_last : {P : Files → Type 0} {old new : Moments} → LeavesOnly P old.now → Meanwhile P old new → LeavesOnly P new.now
at_last {P} {old} {new} first run = last_is P old new run.moments run.passed run.each first

-- whatever the call answered
pub whatever_answered : {T E : Type 0} (result : Result T E) (old new : Moments) (file : ℕ) (change : Unsynced → Unsynced) → Ticks result file change old new → (new ≡ old) ⊎ Passes file change old new
whatever_answered (Ok x) old new file change ticks = inr ticks.ok
whatever_answered (Err e) old new file change ticks = ticks.err
