use Rattle.std.proofs.Common.{◌≡◌, ◌+◌, ◌*◌, ◌<◌, arith, ◌∙◌, ap, subst, sym, ◌++◌, drop}
use Rattle.trie_model.specs.Bits.{bits_of}
use Rattle.bit_keys.specs.Branch.{width_of, factor_of}
use Rattle.point_proof.proofs.JoinedKeys.{token_more, token_end}
use Rattle.point_proof.proofs.TokenWidths.{token_small}
use Rattle.point_proof.proofs.joining.with_tokens.Goals as goal

pub slot-requires : goal.slot-requires
slot-requires c =
    let within = token_end (width_of c.args.unit) c.loop-i.i c.args.to _ c.loop-i-test.true c.requires.room in
    subst (λ t. t < factor_of c.args.unit) (sym c.token.ensures) (token_small c.args.unit (width_of c.args.unit * c.loop-i.i) c.args.rest.now within)

pub loop-i-preserved : goal.loop-i-preserved
loop-i-preserved c =
    let w = width_of c.args.unit in
    let within = token_end w c.loop-i.i c.args.to _ c.loop-i-test.true c.requires.room in
    let next : w * (c.loop-i.i + 1) ≡ w * c.loop-i.i + w = omega arith in
    ap (λ k. k ++ drop (w * (c.loop-i.i + 1)) c.args.rest.now) (c.in_ok-key.ensures ∙ ap (λ t. c.loop-i.key ++ bits_of w t) c.token.ensures)
    ∙ token_more w (w * c.loop-i.i) (w * (c.loop-i.i + 1)) c.loop-i.key c.args.rest.now next (omega (arith, next, within))
    ∙ c.loop-i.invariant
