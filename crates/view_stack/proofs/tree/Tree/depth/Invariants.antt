use Rattle.std.proofs.Common.{◌≡◌, ◌+◌, ◌≤◌, length}
use Rattle.view_stack.specs.Links.{IsOpen}
use Rattle.view_stack.specs.Paths.{tree_path}
use Rattle.view_stack.proofs.tree.Tree.depth.Given as goal

abbrev pub invariant-loop-from : goal.invariant-loop-from
invariant-loop-from l =
    IsOpen l.self l.from × (l.depth + length (tree_path l.self l.from) ≡ length (tree_path l.self l.view)) × (l.depth + l.from ≤ l.view)

abbrev pub decreases-loop-from : goal.decreases-loop-from
decreases-loop-from l = l.from
