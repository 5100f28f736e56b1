use Rattle.std.proofs.Common.{◌≡◌, ◌++◌}
use Rattle.std.specs.BTreeMap.{values}
use Rattle.policy_set.proofs.policy_set.collected.Given as goal

-- those so far, and then those that are left
abbrev pub invariant-loop-template : goal.invariant-loop-template
invariant-loop-template l = l.templates.items ++ l.template-iterator ≡ values l.fn.by_id
