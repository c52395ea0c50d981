use Rattle.mdb_core.proofs.tests.made.Given as goal

abbrev pub ghosts-proposed : goal.ghosts-proposed
ghosts-proposed g a = record { name = a.blank.name; parts = a.blank.parts }
