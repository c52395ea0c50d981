use Rattle.std.proofs.Common.{◌≡◌, ◌*◌, ◌%◌, length, arith, ◌∙◌}
use Rattle.hex.proofs.Pairs.{decode_start, decode_step, decode_done}
use Rattle.hex.proofs.HexLemmas.{decode_of-even}
use Rattle.batch_text.proofs.HexWords.{refused}
use Rattle.batch_text.proofs.digits.read_digits.Goals as goal

pub bytes-init : goal.bytes-init
bytes-init c = decode_start c.args.digits.now c.args.out.now

pub bytes-preserved : goal.bytes-preserved
bytes-preserved c = decode_step c.args.digits.now c.bytes.out c.bytes.i c.in-Some.byte (omega arith) (omega arith) (c.in-Some.ensures (2 * c.bytes.i)) c.bytes.invariant

pub returns-in_default : goal.returns-in_default
returns-in_default c =
    let even : length c.args.digits.now % 2 ≡ 0 = omega arith in
    refused c.args.digits.now c.bytes.out c.bytes.i even (omega arith) (c.in_default.ensures (2 * c.bytes.i)) c.bytes.invariant

pub returns : goal.returns
returns c =
    let even : length c.args.digits.now % 2 ≡ 0 = omega arith in
    decode_of-even c.args.digits.now even ∙ decode_done c.args.digits.now c.bytes.out c.bytes.i (omega arith) (omega arith) c.bytes.invariant
