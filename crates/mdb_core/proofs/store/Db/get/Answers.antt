use Rattle.std.proofs.Common.{◌≡◌, sym, ap, ◌∙◌, subst, Some, None}
use Rattle.std.specs.Prelude.{IfSome}
use Rattle.std.specs.FinMap.{get, get-empty}
use Rattle.base_model.specs.Bytes.{bytes_cmp}
use Rattle.trie_model.specs.Maps.{Map}
use Rattle.mdb_core.specs.FoundMaps.{map_found}
use Rattle.mdb_core.proofs.StoreFiles.{kept_speaks}
use Rattle.mdb_core.proofs.store.Db.get.Goals as goal

pub returns-in-Ok-Empty-clause-value : goal.returns-in-Ok-Empty-clause-value
returns-in-Ok-Empty-clause-value g c = λ told m k.
    let found = c.in-Ok-Empty.ensures.found m (kept_speaks c.args.self.now m (g.D.Disk.words.seen c.args.disk.now) c.args.at k) ∙ ap (λ f. Some (map_found c.args.self.now m f)) c.in-Ok-Empty.field-0-is in
    subst (λ o. IfSome o (λ (n : Map). None ≡ get n c.args.key.now)) (sym found) (sym (get-empty bytes_cmp c.args.key.now))
