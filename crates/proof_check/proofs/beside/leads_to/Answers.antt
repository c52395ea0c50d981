use Rattle.std.proofs.Common.{ap, ◌∙◌}
use Rattle.trie_model.specs.Bits.{is_prefix}
use Rattle.proof_model.specs.Paths.{ProofNode}
use Rattle.proof_check.proofs.ItemsBeside.{last_leads}
use Rattle.proof_check.proofs.beside.leads_to.Goals as goal

pub returns-in-Some : goal.returns-in-Some
returns-in-Some c =
    c.is_prefix.ensures ∙ ap (λ (n : ProofNode). is_prefix c.args.slot.now n.key) c.deepest.view_is
    ∙ last_leads 0 c.args.path.now c.args.slot.now c.in-Some.deepest.now c.requires c.in-Some.ensures.value
