use Rattle.change_proof.proofs.tests.said.Given as goal

abbrev pub ghosts-verdict : goal.ghosts-verdict
ghosts-verdict a = record { name = a.blank.name; parts = a.blank.parts }
