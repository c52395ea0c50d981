use Rattle.script_run.proofs.viewing.view.Given as goal

abbrev pub ghosts-propose : goal.ghosts-propose
ghosts-propose g a = record { name = a.blank.name; parts = a.blank.parts }
