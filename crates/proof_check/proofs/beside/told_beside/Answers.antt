use Rattle.std.proofs.Common.{◌++◌, map, sym, ap, ◌∙◌}
use Rattle.bit_keys.specs.Branch.{width_of}
use Rattle.trie_items.specs.Items.{item_of}
use Rattle.proof_check.specs.Claims.{claim_of}
use Rattle.proof_check.specs.Descents.{told_down, told_up}
use Rattle.proof_check.proofs.ItemsBeside.{width_positive}
use Rattle.proof_check.proofs.Descents.{descent}
use Rattle.proof_check.proofs.beside.told_beside.Goals as goal

pub returns : goal.returns
returns c =
    let w = width_of c.args.branch in
    let k = claim_of c.args.claim.now in
    c.in_ok-push_up.ensures
    ∙ ap (λ r. r ++ told_up w k c.args.path.now) (c.in_ok-push_down.ensures ∙ ap (λ is. map item_of is ++ told_down w k c.args.path.now) c.in_ok-told.ensures.items)
    ∙ sym (descent w k c.args.path.now (width_positive c.args.branch) c.requires.path)
