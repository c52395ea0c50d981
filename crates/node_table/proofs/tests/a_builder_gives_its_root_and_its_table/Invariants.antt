use Rattle.node_table.proofs.tests.a_builder_gives_its_root_and_its_table.Given as goal

abbrev pub ghosts-one_key_table : goal.ghosts-one_key_table
ghosts-one_key_table g a = record { name = a.blank.name; parts = a.blank.parts }
