use Rattle.std.proofs.Common.{ap, ◌∙◌, map}
use Rattle.std.specs.FinMap.Entries.{put}
use Rattle.base_model.specs.Bytes.{bytes_cmp}
use Rattle.trie_model.proofs.PlainEntries.{plain, plain-insert_entry}
use Rattle.mdb_core.proofs.MapDigests.{key_items}
use Rattle.mdb_core.proofs.digests.Digests.put.Goals as goal

pub returns-clause-ok : goal.returns-clause-ok
returns-clause-ok c =
    ap (map (plain key_items)) c.in_ok-insert.ensures.entries
    ∙ plain-insert_entry key_items c.self.inside.entries.entries c.args.key c.args.digest
    ∙ ap (put bytes_cmp c.args.key.items c.args.digest) c.self.view_is
