use Rattle.std.proofs.Common.{◌-◌, ◌∙◌, ap, length}
use Rattle.std.specs.List.{slice_get}
use Rattle.map_root.proofs.KeptChildren.{popped}
use Rattle.map_root.proofs.pass.take_open.Goals as goal

pub returns-clause-some : goal.returns-clause-some
returns-clause-some g c =
    popped c.args.above.now.items c.pop.new.self.items c.pop.result c.in-Some.last.now c.args.least c.pop.ensures.items (c.in-Some.ensures.value ∙ ap (λ xs. slice_get xs (length xs - 1)) c.as_slice.ensures.value) c.if-last-least.false
