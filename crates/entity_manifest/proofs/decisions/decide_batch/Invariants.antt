use Rattle.entity_manifest.proofs.decisions.decide_batch.Given as goal

abbrev pub ghosts-answers_by : goal.ghosts-answers_by
ghosts-answers_by g a = record { name = a.blank.name; parts = a.blank.parts }
