use Rattle.library_tests.proofs.asked.asked.Given as goal

abbrev pub ghosts-asked_on : goal.ghosts-asked_on
ghosts-asked_on a = record { name = a.blank.name; parts = a.blank.parts }
