use Rattle.std.proofs.Common.{map}
use Rattle.std.proofs.lemmas.Result.{IfOk-weaker}
use Rattle.std.proofs.lemmas.Option.{IfSome_then}
use Rattle.bit_keys.specs.Branch.{width_of}
use Rattle.trie_items.specs.Items.{item_of}
use Rattle.proof_check.specs.Claims.{claim_of}
use Rattle.proof_check.proofs.EntriesBetween.{one_path}
use Rattle.proof_check.proofs.Descents.{start_path}
use Rattle.proof_check.proofs.items.gather_one.Goals as goal

pub put_between-requires-clause-path : goal.put_between-requires-clause-path
put_between-requires-clause-path c = start_path (width_of c.args.branch) (claim_of c.args.claim.now) c.requires.claim.shown c.requires.unbroken.start

pub returns-in_ok-key-in-len1-up : goal.returns-in_ok-key-in-len1-up
returns-in_ok-key-in-len1-up c =
    IfOk-weaker c.put_between.result _ _
    (λ made h. IfSome_then made h
    (λ q e. one_path c.bytes_lie_as_their_bits.ensures c.args.branch c.args.claim.now c.in_ok-key-in-len1-up.key _ (map item_of q.items) c.requires.claim c.requires.unbroken c.requires.alone c.in-len1-up.len_at_least c.in_ok-key-in-len1-up.ensures e)) c.put_between.ensures
