use Rattle.std.proofs.Common.{sym, ◌∙◌}
use Rattle.proof_check.proofs.ItemFronts.{is_none, none_left, none_right}
use Rattle.proof_check.proofs.merging.merge.Goals as goal

pub returns-then-is_empty : goal.returns-then-is_empty
returns-then-is_empty c = none_right c.args.left.items c.args.right.items (sym c.args.right.ok.0 ∙ is_none _ _ c.is_empty.ensures c.if-is_empty.true) c.requires.left

pub returns-then-is_empty-2 : goal.returns-then-is_empty-2
returns-then-is_empty-2 c = none_left c.args.left.items c.args.right.items (sym c.args.left.ok.0 ∙ is_none _ _ c.is_empty-2.ensures c.if-is_empty-2.true) c.requires.right
