use Rattle.std.proofs.Common.{◌++◌, map, refl, arith}
use Rattle.trie_model.specs.Maps.{entry_item}
use Rattle.bit_keys.specs.Branch.{width_of}
use Rattle.trie_items.specs.Items.{item_of}
use Rattle.proof_check.specs.Claims.{claim_of, pair_of, told_of}
use Rattle.std.proofs.lemmas.Result.{IfOk-weaker}
use Rattle.proof_check.proofs.ItemsBeside.{rises_made}
use Rattle.proof_check.proofs.Descents.{start_path, end_path}
use Rattle.proof_check.proofs.ClaimItems.{gathered}
use Rattle.proof_check.proofs.ItemsInRange.{none_listed, some_listed, beside_out}
use Rattle.proof_check.proofs.items.gather_both.Goals as goal

pub told_beside-requires-clause-path : goal.told_beside-requires-clause-path
told_beside-requires-clause-path c = start_path (width_of c.args.branch) (claim_of c.args.claim.now) c.requires.claim.shown c.requires.unbroken.start

pub told_beside-requires-2-clause-path : goal.told_beside-requires-2-clause-path
told_beside-requires-2-clause-path c = end_path (width_of c.args.branch) (claim_of c.args.claim.now) c.requires.claim.shown c.requires.unbroken.end

pub merge-requires-clause-left : goal.merge-requires-clause-left
merge-requires-clause-left c = rises_made (map item_of c.in_ok-start.start.items) (told_of (width_of c.args.branch) (claim_of c.args.claim.now) c.args.claim.now.start.now) c.in_ok-start.ensures

pub merge-requires-clause-right : goal.merge-requires-clause-right
merge-requires-clause-right c = rises_made (map item_of c.in_ok-end.end.items) (told_of (width_of c.args.branch) (claim_of c.args.claim.now) c.args.claim.now.end.now) c.in_ok-end.ensures

pub returns-in-empty : goal.returns-in-empty
returns-in-empty c =
    gathered (width_of c.args.branch) (claim_of c.args.claim.now) (map entry_item (map pair_of c.args.claim.now.entries.now)) (map item_of c.in_ok-start.start.items) (map item_of c.in_ok-end.end.items) (map item_of c.in_ok-beside.beside.items) (map item_of c.in_ok-beside.beside.items)
    refl c.in_ok-start.ensures c.in_ok-end.ensures c.in_ok-beside.ensures
    (none_listed c.args.claim.now.entries.now (map item_of c.in_ok-beside.beside.items) (omega arith) (rises_made (map item_of c.in_ok-beside.beside.items) (map item_of c.in_ok-start.start.items ++ map item_of c.in_ok-end.end.items) c.in_ok-beside.ensures))

pub returns-in_ok-key-in-len1-up : goal.returns-in_ok-key-in-len1-up
returns-in_ok-key-in-len1-up c =
    let w = width_of c.args.branch in
    let k = claim_of c.args.claim.now in
    let start = map item_of c.in_ok-start.start.items in
    let end = map item_of c.in_ok-end.end.items in
    let beside = map item_of c.in_ok-beside.beside.items in
    IfOk-weaker c.put_in.result _ _
    (λ q h.
    gathered w k (map entry_item k.pairs) start end beside (map item_of q.items) refl c.in_ok-start.ensures c.in_ok-end.ensures c.in_ok-beside.ensures
    (some_listed c.bytes_lie_as_their_bits.ensures k.reached c.requires.claim.range c.in_ok-key-in-len1-up.key beside (map item_of q.items) (beside_out w k start end beside c.in_ok-start.ensures c.in_ok-end.ensures c.in_ok-beside.ensures) (rises_made beside (start ++ end) c.in_ok-beside.ensures)
    c.args.claim.now.entries.now _ c.in-len1-up.len_at_least c.in_ok-key-in-len1-up.ensures c.requires.claim.listed c.requires.claim.sorted h)) c.put_in.ensures
