use Rattle.std.proofs.Common.{ap, ◌∙◌, map}
use Rattle.std.specs.Map.{remove_entry}
use Rattle.std.specs.BTreeMap.{is_at}
use Rattle.base_model.specs.Bytes.{bytes_cmp}
use Rattle.trie_model.proofs.PlainEntries.{plain, plain-remove_entry}
use Rattle.mdb_core.proofs.MapDigests.{key_items}
use Rattle.mdb_core.proofs.digests.Digests.remove.Goals as goal

pub returns : goal.returns
returns c =
    ap (map (plain key_items)) c.remove.ensures.entries
    ∙ plain-remove_entry key_items c.self.inside.entries.entries c.args.key.now.items
    ∙ ap (remove_entry (is_at (bytes_cmp c.args.key.now.items))) c.self.view_is
