use Rattle.std.proofs.Common.{◌≡◌, true, codes, sym}
use Rattle.std.specs.Str.{bytes_eq}
use Rattle.batch_text.proofs.RootWords.{empty_read}
use Rattle.batch_text.proofs.root_words.read_plain_root.Goals as goal

pub returns-then-eq : goal.returns-then-eq
returns-then-eq c =
    let empty : bytes_eq c.args.word.now (codes "empty") ≡ true = sym (rw c.as_slice.ensures at c.if-eq.ensures) in
    empty_read c.args.word.now empty
