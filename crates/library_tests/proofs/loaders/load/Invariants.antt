use Rattle.library_tests.proofs.loaders.load.Given as goal

abbrev pub ghosts-load_on : goal.ghosts-load_on
ghosts-load_on g a = record { name = a.blank.name; parts = a.blank.parts }
