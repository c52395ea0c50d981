use Rattle.verify_run.proofs.lines.verify.Goals as goal

pub returns-clause-verify : goal.returns-clause-verify
returns-clause-verify g c = rw (c.closed.ensures.disk, c.closed.ensures.end c.check_lines-end.ensures.works) c.check_lines-end.ensures.verify
