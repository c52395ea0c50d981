use Rattle.std.proofs.Common.{◌≡◌, sym, ap, arith, option_map}
use Rattle.view_stack.specs.Slots.{TreeState}
use Rattle.view_stack.specs.ViewAnswers.{fault_told}
use Rattle.view_stack.proofs.Forests.{weight-forest}
use Rattle.view_stack.proofs.Refusals.{told_too_many, told_too_deep, told_too_heavy, told_nothing, new_depth-walked}
use Rattle.view_stack.proofs.tree.Tree.limit_passed.Goals as goal

pub returns-then-count-ge-NUMBER_LIMIT : goal.returns-then-count-ge-NUMBER_LIMIT
returns-then-count-ge-NUMBER_LIMIT c p way = sym (ap (option_map fault_told) (told_too_many c.args.self.now p c.args.batch.now (omega (arith, c.count.ensures))))

pub returns-then-depth-ge-DEPTH_LIMIT : goal.returns-then-depth-ge-DEPTH_LIMIT
returns-then-depth-ge-DEPTH_LIMIT c p way =
    let d = new_depth-walked c.args.self.now p c.args.parent c.depth.result way c.depth.ensures in
    sym (ap (option_map fault_told) (told_too_deep c.args.self.now p c.args.batch.now (omega (arith, c.count.ensures)) (omega (arith, d))))

pub returns-then-payload_len-self : goal.returns-then-payload_len-self
returns-then-payload_len-self c p way =
    let t = c.args.self.now in
    let d = new_depth-walked t p c.args.parent c.depth.result way c.depth.ensures in
    let w = weight-forest t c.requires.tree.sound c.requires.tree.marked in
    let own : c.self.inside.weight ≡ t.weight = ap (λ (u : TreeState). u.weight) c.self.view_is in
    sym (ap (option_map fault_told) (told_too_heavy t p c.args.batch.now (omega (arith, c.count.ensures)) (omega (arith, d)) (omega (arith, w, own, c.requires.tree.light, c.payload_len.ensures))))

pub returns : goal.returns
returns c p way =
    let t = c.args.self.now in
    let d = new_depth-walked t p c.args.parent c.depth.result way c.depth.ensures in
    let w = weight-forest t c.requires.tree.sound c.requires.tree.marked in
    let own : c.self.inside.weight ≡ t.weight = ap (λ (u : TreeState). u.weight) c.self.view_is in
    sym (ap (option_map fault_told) (told_nothing t p c.args.batch.now (omega (arith, c.count.ensures)) (omega (arith, d)) (omega (arith, w, own, c.requires.tree.light, c.payload_len.ensures))))
