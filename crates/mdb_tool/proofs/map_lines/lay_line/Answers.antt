use Rattle.mdb_core.proofs.MapDigests.{map_digests-insert, map_digests-remove}
use Rattle.mdb_tool.proofs.map_lines.lay_line.Goals as goal

pub returns-in-Put : goal.returns-in-Put
returns-in-Put c = λ m is.
    rw (c.in-Put.is, map_digests-insert m c.in-Put.key.items c.in-Put.value.items, ← is, ← c.deref.ensures.value, ← c.value_digest.ensures) c.put.ensures.ok

pub returns : goal.returns
returns c = λ m is.
    rw (c.in-Del.is, map_digests-remove m c.in-Del.key.items, ← is) c.remove.ensures
