use Rattle.std.proofs.Common.{◌≡◌, ◌++◌, Some, map, drop}
use Rattle.std.specs.Option.{option_copied}
use Rattle.policy_typecheck.specs.Pointed.{pointed}
use Rattle.policy_typecheck.proofs.slots.each.Given as goal

-- the slots so far, and those of what is left
abbrev pub invariant-loop-name : goal.invariant-loop-name
invariant-loop-name l = map option_copied l.slots.items ++ map Some (pointed (drop l.name-index l.names.items)) ≡ map Some (pointed l.names.items)
