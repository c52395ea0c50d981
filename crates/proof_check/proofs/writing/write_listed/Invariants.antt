use Rattle.std.proofs.Common.{◌≡◌, ◌++◌, drop}
use Rattle.std.specs.List.{flat_map}
use Rattle.base_model.specs.Bytes.{Grown}
use Rattle.proof_model.specs.RangeWire.{pair_form}
use Rattle.proof_check.proofs.writing.write_listed.Given as goal

-- what is written, and what is left to write, are what was there and all pairs
abbrev pub invariant-loop-pair : goal.invariant-loop-pair
invariant-loop-pair l = record {
  so_far : l.out.items ++ flat_map pair_form (drop l.pair-index l.pairs) ≡ l.fn.out.items ++ flat_map pair_form l.pairs;
  grown : Grown l.fn.out.items l.out.items;
}
