use Rattle.trie_items.proofs.tests.assert_hashed.Given as goal

abbrev pub ghosts-uncounted_id : goal.ghosts-uncounted_id
ghosts-uncounted_id g a = record { name = a.blank.name; parts = a.blank.parts }
