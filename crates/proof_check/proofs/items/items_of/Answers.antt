use Rattle.std.proofs.Common.{map, ap, ◌∙◌}
use Rattle.trie_items.specs.Items.{item_of}
use Rattle.proof_check.specs.Claims.{claim_of}
use Rattle.proof_check.proofs.ClaimItems.{claim_valid}
use Rattle.proof_check.proofs.FirstReasons.{paths_unbroken}
use Rattle.proof_check.proofs.items.items_of.Goals as goal

pub gather-requires-clause-unbroken : goal.gather-requires-clause-unbroken
gather-requires-clause-unbroken c = paths_unbroken c.args.claim.now c.in_ok-check_paths.ensures

pub from_items-requires : goal.from_items-requires
from_items-requires c =
    claim_valid c.claim_items_are_valid.ensures c.args.branch (claim_of c.args.claim.now) (map item_of c.into_vec.result.items) c.requires (ap (map item_of) c.into_vec.ensures.items ∙ c.in_ok-items.ensures)
