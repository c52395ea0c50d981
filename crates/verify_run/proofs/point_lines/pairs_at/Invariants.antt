use Rattle.verify_run.proofs.point_lines.pairs_at.Given as goal

abbrev pub ghosts-check : goal.ghosts-check
ghosts-check a = record { name = a.blank.name; parts = a.blank.parts }
