use Rattle.std.proofs.Common.{string_bytes}
use Rattle.edit_service.proofs.ForbidLines.{AreLinesOn}
use Rattle.edit_service.proofs.forbids.forbid_lines.Given as goal

abbrev pub invariant-loop-policy : goal.invariant-loop-policy
invariant-loop-policy l = AreLinesOn l.schema l.assumed l.policies.policies l.policy-iterator (string_bytes l.text)
