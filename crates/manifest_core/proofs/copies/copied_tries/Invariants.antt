use Rattle.std.proofs.Common.{◌≡◌, ◌++◌}
use Rattle.manifest_core.proofs.copies.copied_tries.Given as goal

-- those that are left come behind what there is
abbrev pub invariant-loop-request_type : goal.invariant-loop-request_type
invariant-loop-request_type l = l.per_action.entries ≡ l.tries.entries ++ l.request_type-iterator
