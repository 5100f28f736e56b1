use Rattle.std.proofs.Common.{◌≡◌, drop}
use Rattle.std.specs.List.{list_all}
use Rattle.typecheck_rules.specs.Walked.{has_typing}
use Rattle.typecheck_operators.specs.Reported.{all_of}
use Rattle.typecheck_operators.proofs.parts.are_typed.Given as goal

-- what is left decides
abbrev pub invariant-loop-w : goal.invariant-loop-w
invariant-loop-w l = list_all has_typing (all_of (drop l.w-index l.ws.items)) ≡ list_all has_typing (all_of l.ws.items)
