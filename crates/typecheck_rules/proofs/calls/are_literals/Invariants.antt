use Rattle.std.proofs.Common.{◌≡◌, drop}
use Rattle.policy_expressions.specs.Tree.{trees_of}
use Rattle.typing_spec.specs.Signatures.{are_literals}
use Rattle.typecheck_rules.proofs.calls.are_literals.Given as goal

-- what is left decides
abbrev pub invariant-loop-argument : goal.invariant-loop-argument
invariant-loop-argument l = are_literals (trees_of (drop l.argument-index l.arguments)) ≡ are_literals (trees_of l.arguments)
