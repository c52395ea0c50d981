-- What a crash leaves while files are opened that stand for a map.
use Rattle.std.specs.Prelude.{◌⊎◌}
use Rattle.disk_model.specs.Crash.{IsImageOf}
use Rattle.disk_model.specs.Moments.{Moments, LeavesOnly, Meanwhile}
use Rattle.trie_model.specs.Maps.{Limits, Map}
use Rattle.store_model.specs.Journal.{Stands}

-- The opening was synced at some moment. Until then a crash leaves what it might have left before, and from then on files
-- that stand for this map.
pub record SyncedAt (l : Limits) (m : Map) (old now : Moments) : Type 0 where
  pub at : Moments
  pub before : Meanwhile (IsImageOf old.now) old at
  pub there : LeavesOnly (λ image. Stands l image m) at.now
  pub after : Meanwhile (λ image. Stands l image m) at now

-- an opening, synced so far or not
abbrev pub Opens : Limits → Map → Moments → Moments → Type 0
Opens l m old now = Meanwhile (IsImageOf old.now) old now ⊎ SyncedAt l m old now
