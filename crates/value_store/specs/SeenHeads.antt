-- A head as the code has it.
use Rattle.std.specs.Prelude.{ℕ}
use Rattle.value_store.specs.ChangeHeads.{Head as head_of}
use Rattle.value_store.specs.declared.heads.Head.{Head}

-- the head, and how many bytes it has
abbrev pub seen_head : Head → head_of × ℕ
seen_head h = (record { key = h.key.now; count = h.count }, h.length)
