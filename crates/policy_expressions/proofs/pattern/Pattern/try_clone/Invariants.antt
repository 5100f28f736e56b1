use Rattle.std.proofs.Common.{◌≡◌, take}
use Rattle.policy_expressions.proofs.pattern.Pattern.try_clone.Given as goal

abbrev pub invariant-loop-element : goal.invariant-loop-element
invariant-loop-element l = l.elements.items ≡ take l.element-index l.fn.self
