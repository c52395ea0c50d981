-- What a crash leaves of the files of a store.
use Rattle.disk_model.specs.Files.{Files}
use Rattle.disk_model.specs.Moments.{Moments, LeavesOnly}
use Rattle.trie_model.specs.Maps.{Map, limits}
use Rattle.store_model.specs.Journal.{Stands}
use Rattle.mdb_journal.specs.DiskMoves.{AreSynced}
use Rattle.mdb_journal.proofs.OpenedFiles.{synced_leave, known_hold}
use Rattle.mdb_core.specs.Stores.{DbState, Keeps}

-- where they are synced, it stands for the map of the store
pub kept_leaves : (s : DbState) (m : Map) (files : Files) (now : Moments) → Keeps s m files → AreSynced files now → LeavesOnly (λ image. Stands limits image m) now.now
kept_leaves s m files now keeps synced image is =
    let values = keeps.values in
    record { records = values.records; hold = synced_leave files now values.records synced (known_hold s.values.journal values.records files values.knows) image is; is = values.map_is }
