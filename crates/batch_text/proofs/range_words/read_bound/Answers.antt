use Rattle.batch_text.proofs.BoundWords.{read_short}
use Rattle.batch_text.proofs.range_words.read_bound.Goals as goal

pub invariant_of-result : goal.invariant_of-result
invariant_of-result c = (c.in_ok-count.ensures.fits, read_short c.args.word.now _ c.in_ok-count.ensures.read)
