use Rattle.view_stack.proofs.WrittenViews.{live_has}
use Rattle.view_stack.proofs.OneViewEnds.{kept_within}
use Rattle.view_stack.proofs.tree.Tree.take.Goals as goal

pub slot-requires : goal.slot-requires
slot-requires c = live_has _ _ c.requires.on.live

pub let_go-requires-clause-has : goal.let_go-requires-clause-has
let_go-requires-clause-has c = live_has _ _ c.requires.on.live

pub let_go-requires-clause-weighs : goal.let_go-requires-clause-weighs
let_go-requires-clause-weighs c = kept_within c.args.self.now c.args.number c.requires.sound.weighs (live_has _ _ c.requires.on.live)
