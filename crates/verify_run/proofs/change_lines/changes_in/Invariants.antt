use Rattle.verify_run.proofs.change_lines.changes_in.Given as goal

abbrev pub ghosts-check : goal.ghosts-check
ghosts-check g a = record { name = a.blank.name; parts = a.blank.parts }
