use Rattle.std.proofs.Common.{◌∙◌}
use Rattle.range_model.specs.Ranges.{Range as Bounds}
use Rattle.mdb_tool.specs.ReadJob.{counts_words}
use Rattle.mdb_tool.proofs.job.read_asked.Goals as goal

pub returns-in-Err-clause-err : goal.returns-in-Err-clause-err
returns-in-Err-clause-err c = λ command. c.in-Err.ensures.err (λ (asked : Bounds). counts_words c.args.place (command asked))

pub returns-in-Ok-read_counts-clause-ok : goal.returns-in-Ok-read_counts-clause-ok
returns-in-Ok-read_counts-clause-ok c = λ command.
    c.in-Ok.ensures.ok (λ (asked : Bounds). counts_words c.args.place (command asked)) ∙ c.in-Ok-read_counts.ensures.ok (command c.in-Ok.read.0)

pub returns-in-Err-read_counts-clause-err : goal.returns-in-Err-read_counts-clause-err
returns-in-Err-read_counts-clause-err c = λ command.
    c.in-Ok.ensures.ok (λ (asked : Bounds). counts_words c.args.place (command asked)) ∙ c.in-Err-read_counts.ensures.err (command c.in-Ok.read.0)
