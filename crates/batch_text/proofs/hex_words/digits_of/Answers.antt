use Rattle.std.proofs.Common.{◌≡◌, true, codes, sym}
use Rattle.std.specs.Str.{bytes_eq}
use Rattle.batch_text.proofs.HexWords.{dash_spelled}
use Rattle.batch_text.proofs.hex_words.digits_of.Goals as goal

pub returns-then-eq-clause-spelled : goal.returns-then-eq-clause-spelled
returns-then-eq-clause-spelled c =
    let dash : bytes_eq c.args.word.now (codes "-") ≡ true = sym (rw c.as_slice.ensures at c.if-eq.ensures) in
    dash_spelled c.args.word.now dash
