use Rattle.script_run.proofs.committing.commit.Given as goal

abbrev pub ghosts-apply : goal.ghosts-apply
ghosts-apply g a = record { name = a.blank.name; parts = a.blank.parts }
