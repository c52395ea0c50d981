use Rattle.std.proofs.Common.{◌≡◌, ◌++◌, drop}
use Rattle.std.specs.List.{flat_map}
use Rattle.base_model.specs.Bytes.{Grown}
use Rattle.proof_model.specs.Wire.{node_form}
use Rattle.proof_check.proofs.writing.write_nodes.Given as goal

-- what is written, and what is left to write, are what was there and all nodes
abbrev pub invariant-loop-node : goal.invariant-loop-node
invariant-loop-node l = record {
  so_far : l.out.items ++ flat_map node_form (drop l.node-index l.nodes) ≡ l.fn.out.items ++ flat_map node_form l.nodes;
  grown : Grown l.fn.out.items l.out.items;
}
