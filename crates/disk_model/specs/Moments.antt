-- What a crash may leave now, and what it might have left at an earlier moment.
use Rattle.std.specs.Prelude.{◌≡◌, ◌⊎◌, ℕ, ◌+◌, ◌-◌, List, [], ◌∷◌, ◌++◌, length, take, Result, OnOk, OnErr}
use Rattle.disk_model.specs.Files.{Files, Alone}
use Rattle.disk_model.specs.Crash.{Unsynced, IsImageOf}

-- what is unsynced of the files now, and at each earlier moment, the latest first
pub record Moments : Type 0 where
  pub now : ℕ → Unsynced
  pub past : List (ℕ → Unsynced)

-- one moment more, at which something else is unsynced of one file
pub record Passes (file : ℕ) (change : Unsynced → Unsynced) (old new : Moments) : Type 0 where
  pub past : new.past ≡ old.now ∷ old.past
  pub now : Alone file (λ was is. is ≡ change was) old.now new.now

-- one moment more after a call; a call that failed was begun, or it was not
pub record Ticks {T E : Type 0} (result : Result T E) (file : ℕ) (change : Unsynced → Unsynced) (old new : Moments) : Type 0 where
  pub ok : OnOk result (Passes file change old new)
  pub err : OnErr result ((new ≡ old) ⊎ Passes file change old new)

-- whatever a crash leaves has P
abbrev pub LeavesOnly : (Files → Type 0) → (ℕ → Unsynced) → Type 0
LeavesOnly P files = (image : Files) → IsImageOf files image → P image

-- at each of these moments
abbrev pub EachLeavesOnly : (Files → Type 0) → List (ℕ → Unsynced) → Type 0
EachLeavesOnly P [] = Unit {0}
EachLeavesOnly P (files ∷ more) = LeavesOnly P files × EachLeavesOnly P more

-- each moment since old, up to new, leaves only what has P
pub record Meanwhile (P : Files → Type 0) (old new : Moments) : Type 0 where
  pub moments : List (ℕ → Unsynced)
  pub passed : new.now ∷ new.past ≡ moments ++ (old.now ∷ old.past)
  pub each : EachLeavesOnly P moments

-- so does old itself
pub record AtAnyMoment (P : Files → Type 0) (old new : Moments) : Type 0 where
  pub first : LeavesOnly P old.now
  pub later : Meanwhile P old new

-- the moment now, by the clock: how many there were before
abbrev pub clock : Moments → ℕ
clock m = length m.past

-- a crash at one of these moments leaves this
abbrev pub OneLeaves : List (ℕ → Unsynced) → Files → Type 0
OneLeaves [] image = ⊥
OneLeaves (files ∷ more) image = IsImageOf files image ⊎ OneLeaves more image

-- a crash at some moment from the t-th on might have left this
abbrev pub LeftSince : Moments → ℕ → Files → Type 0
LeftSince m t image = OneLeaves (take (clock m + 1 - t) (m.now ∷ m.past)) image
