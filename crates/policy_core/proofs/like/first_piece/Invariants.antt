use Rattle.std.proofs.Common.{◌≡◌, ◌++◌, length, map}
use Rattle.policy_expressions.specs.declared.kinds.PatternElem.TheVariants.{Char}
use Rattle.policy_core.proofs.like.first_piece.Given as goal

abbrev pub invariant-elements : goal.invariant-elements
invariant-elements l = l.fn.pattern ≡ map Char l.chars.items ++ l.pattern

abbrev pub decreases-elements : goal.decreases-elements
decreases-elements l = length l.pattern
