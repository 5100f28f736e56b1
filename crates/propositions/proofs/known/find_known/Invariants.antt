use Rattle.std.proofs.Common.{◌≡◌, drop}
use Rattle.propositions.specs.Known.{known_after, known_of}
use Rattle.propositions.proofs.known.find_known.Given as goal

-- what is known so far goes on to what is known of all
abbrev pub invariant-loop-gate : goal.invariant-loop-gate
invariant-loop-gate l = known_after l.atoms l.known.items (drop l.gate-index l.gate-items) ≡ known_of l.atoms l.gate-items
