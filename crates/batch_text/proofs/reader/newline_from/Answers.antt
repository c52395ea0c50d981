use Rattle.batch_text.proofs.Newlines.{none_found, found_at}
use Rattle.batch_text.proofs.reader.newline_from.Goals as goal

pub returns-in_err-at : goal.returns-in_err-at
returns-in_err-at c = rw c.from_residual.ensures (none_found c.args.bytes.now c.args.scanned c.requires.within c.requires.before c.in_err-at.ensures)

pub returns : goal.returns
returns c = found_at c.args.bytes.now c.args.scanned c.in_ok-at.at c.requires.within c.requires.before c.in_ok-at.ensures.0 c.in_ok-at.ensures.1
