use Rattle.mdb_tool.proofs.verify_command.run_verify.Goals as goal

pub returns-clause-shared : goal.returns-clause-shared
returns-clause-shared g c = rw c.status_of.ensures c.verify.ensures.shared

pub returns-clause-verify : goal.returns-clause-verify
returns-clause-verify g c = rw c.status_of.ensures c.verify.ensures.verify
