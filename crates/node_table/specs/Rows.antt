-- The keys of rows.
use Rattle.std.specs.Prelude.{Bool, List}
use Rattle.trie_model.specs.Table.{Row}

abbrev pub row_key : Row → List Bool
row_key r = r.0
