use Rattle.propositions.proofs.search.open_atom.Given as goal

abbrev pub decreases-loop-at : goal.decreases-loop-at
decreases-loop-at l = l.at
