use Rattle.std.proofs.Common.{sym, subst}
use Rattle.proof_check.proofs.ItemFronts.{left_taken, right_taken, both_taken, TakesFirst, both}
use Rattle.proof_check.proofs.merging.take_first.Goals as goal

pub returns-in-Less-clause-taken : goal.returns-in-Less-clause-taken
returns-in-Less-clause-taken c = left_taken _ _ _ c.args.right.now.items c.pop_front.ensures.items c.pop_front.ensures.rest (sym c.in-Less.ensures) c.requires.left c.requires.right

pub returns-in-Greater-clause-taken : goal.returns-in-Greater-clause-taken
returns-in-Greater-clause-taken c = right_taken _ c.args.left.now.items _ _ c.pop_front-in-Greater.ensures.items c.pop_front-in-Greater.ensures.rest (sym c.in-Greater.ensures) c.requires.left c.requires.right

pub returns-in-Equal-clause-taken : goal.returns-in-Equal-clause-taken
returns-in-Equal-clause-taken c =
    subst (λ rs. TakesFirst c.pop_front-in-Equal.result (both c.args.left.now.items c.args.right.now.items) (both c.pop_front-in-Equal.new.self.items rs)) (sym c.drop_first.ensures.items)
    (both_taken _ _ _ c.args.right.now.items c.pop_front-in-Equal.ensures.items c.pop_front-in-Equal.ensures.rest (sym c.in-Equal.ensures) c.requires.left c.requires.right)
