use Rattle.std.proofs.Common.{refl}
use Rattle.batch_text.proofs.WordsOfLine.{words_of-blank_line, words_of-first, words_of-only}
use Rattle.batch_text.proofs.words.next_word.Goals as goal

pub returns-in_err-start : goal.returns-in_err-start
returns-in_err-start c = rw c.from_residual.ensures (words_of-blank_line c.args.line.now c.in_err-start.ensures.none)

pub returns-in-Some : goal.returns-in-Some
returns-in-Some c = words_of-first c.args.line.now _ c.in_ok-start.start c.in-Some.end refl c.in_ok-start.ensures.before c.in_ok-start.ensures.start c.in-Some.ensures.within c.in-Some.ensures.before c.in-Some.ensures.blank

pub returns-in-None : goal.returns-in-None
returns-in-None c = words_of-only c.args.line.now _ c.in_ok-start.start refl c.in_ok-start.ensures.before c.in_ok-start.ensures.within c.in-None.ensures.none
