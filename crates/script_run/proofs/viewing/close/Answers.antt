use Rattle.script_run.proofs.Views.{close_done, close_refused}
use Rattle.script_run.proofs.viewing.close.Goals as goal

pub returns-in-Ok-clause-quiet : goal.returns-in-Ok-clause-quiet
returns-in-Ok-clause-quiet c = λ m pending files keeps.
    close_done m c.args.db.now pending files c.args.number keeps c.close_view.new.self c.closed_line.result c.close_view.result _ c.in-Ok.is c.close_view.ensures.closed (c.close_view.ensures.keeps m files keeps) c.closed_line.ensures

pub returns-in-Err-clause-quiet : goal.returns-in-Err-clause-quiet
returns-in-Err-clause-quiet c = λ m pending files keeps.
    close_refused m c.args.db.now pending files c.args.number keeps c.close_view.new.self c.refuse.result c.close_view.result c.in-Err.fault c.in-Err.is c.close_view.ensures.closed c.refuse.ensures
