use Rattle.verify_run.proofs.range_lines.pairs_in.Given as goal

abbrev pub ghosts-check : goal.ghosts-check
ghosts-check a = record { name = a.blank.name; parts = a.blank.parts }
