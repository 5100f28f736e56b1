use Rattle.directory_service.proofs.lines.answer_lines.Given as goal

abbrev pub ghosts-answer_marked : goal.ghosts-answer_marked
ghosts-answer_marked g a = record { name = a.blank.name; parts = a.blank.parts }
