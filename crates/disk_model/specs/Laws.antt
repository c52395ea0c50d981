-- What the words on crashes say of each other.
use Rattle.std.specs.Prelude.{◌≡◌, ◌⊎◌, ◌↔◌, ℕ, ◌+◌, ◌≤◌, List}
use Rattle.disk_model.specs.Files.{Files, IsFile, Torn, HalfCut, first_touched}
use Rattle.disk_model.specs.Crash.{Unsynced, IsImage, IsImageOf, at_rest, after_write, after_cut}
use Rattle.disk_model.specs.Moments.{Moments, Passes, LeavesOnly, Meanwhile, AtAnyMoment, LeftSince, clock}
use Rattle.disk_model.specs.Words.{Telling, TellsContents, TellsImages}

-- after a write a crash leaves just what it might have left before, torn in the range of the write
abbrev pub WritesTear : Type 0
WritesTear =
    (file : Unsynced) (seen : List ℕ) (at n : ℕ) (image : List ℕ) → IsImage file seen
    → IsImage (after_write (first_touched seen at) (at + n) file) image
    ↔ (IsFile image × ((before : List ℕ) × IsImage file before × Torn (first_touched seen at) (at + n) before image))

-- after a cut a crash leaves just what it might have left before, half cut
abbrev pub CutsHalve : Type 0
CutsHalve =
    (file : Unsynced) (seen : List ℕ) (n : ℕ) (image : List ℕ) → IsImage file seen
    → IsImage (after_cut n file) image ↔ (IsFile image × ((before : List ℕ) × IsImage file before × HalfCut n before image))

-- after a sync a crash leaves just what is read
abbrev pub SyncsKeep : Type 0
SyncsKeep = (seen image : List ℕ) → IsFile seen → IsImage (at_rest seen) image ↔ (image ≡ seen)

-- what a crash may leave before a write or a cut it may leave after it
abbrev pub EarlierImagesStay : Type 0
EarlierImagesStay =
    (file : Unsynced) (from to n : ℕ) (image : List ℕ) → IsImage file image
    → IsImage (after_write from to file) image × IsImage (after_cut n file) image

-- what a crash leaves after a sync it might have left before it
abbrev pub SyncsNarrow : Type 0
SyncsNarrow = (file : Unsynced) (seen image : List ℕ) → IsImage file seen → IsImage (at_rest seen) image → IsImage file image

-- a disk that tells what a crash may leave tells what is read
abbrev pub ImagesTellContents : Type 0
ImagesTellContents = (t : Telling) → TellsImages t → TellsContents t

-- what a crash may leave now it might have left since any earlier moment
abbrev pub NowCounts : Type 0
NowCounts = (m : Moments) (t : ℕ) (image : Files) → t ≤ clock m → IsImageOf m.now image → LeftSince m t image

-- since this moment there is no other
abbrev pub NowIsAll : Type 0
NowIsAll = (m : Moments) (image : Files) → LeftSince m (clock m) image → IsImageOf m.now image

-- a call that was begun, or was not, is a run of one moment or none
abbrev pub OneCall : (Files → Type 0) → Type 0
OneCall P =
    (old new : Moments) (file : ℕ) (change : Unsynced → Unsynced) → (new ≡ old) ⊎ Passes file change old new
    → (Passes file change old new → LeavesOnly P new.now) → Meanwhile P old new

-- two runs of moments, one after the other
abbrev pub Joined : (Files → Type 0) → Type 0
Joined P = (old mid new : Moments) → Meanwhile P old mid → Meanwhile P mid new → Meanwhile P old new

-- a run that leaves only what has P leaves only what has Q, where that follows from P
abbrev pub Weaker : (Files → Type 0) → (Files → Type 0) → Type 0
Weaker P Q = (old new : Moments) → Meanwhile P old new → ((image : Files) → P image → Q image) → Meanwhile Q old new

-- where nothing happened there is no moment more
abbrev pub Quiet : (Files → Type 0) → Type 0
Quiet P = (old mid new : Moments) → Meanwhile P old mid → new ≡ mid → Meanwhile P old new

-- what holds at the start and at each moment since holds at the last
abbrev pub AtLast : (Files → Type 0) → Type 0
AtLast P = (old new : Moments) → LeavesOnly P old.now → Meanwhile P old new → LeavesOnly P new.now

-- what holds at the start and at each moment since holds of all that a crash might have left since
abbrev pub EachSince : (Files → Type 0) → Type 0
EachSince P = (old new : Moments) → AtAnyMoment P old new → (image : Files) → LeftSince new (clock old) image → P image
