use Rattle.std.proofs.Common.{◌≡◌, ◌++◌}
use Rattle.std.specs.Prelude.{reverse}
use Rattle.view_stack.specs.Links.{IsOpen}
use Rattle.view_stack.specs.Paths.{tree_path}
use Rattle.view_stack.specs.ViewAnswers.{numbers}
use Rattle.view_stack.proofs.tree.Tree.chain.Given as goal

abbrev pub invariant-loop-at : goal.invariant-loop-at
invariant-loop-at l = IsOpen l.self l.at × (tree_path l.self l.view ≡ tree_path l.self l.at ++ reverse (numbers l.ids.items))

abbrev pub decreases-loop-at : goal.decreases-loop-at
decreases-loop-at l = l.at
