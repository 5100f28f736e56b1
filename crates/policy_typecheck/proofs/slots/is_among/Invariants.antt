use Rattle.std.proofs.Common.{◌≡◌, drop}
use Rattle.policy_values.specs.Reaches.{has}
use Rattle.policy_values.specs.Uid.{text_cmp}
use Rattle.policy_typecheck.specs.Pointed.{pointed}
use Rattle.policy_typecheck.proofs.slots.is_among.Given as goal

-- it is among what is left exactly where it is among all
abbrev pub invariant-loop-other : goal.invariant-loop-other
invariant-loop-other l = has text_cmp (pointed (drop l.other-index l.names.items)) l.name ≡ has text_cmp (pointed l.names.items) l.name
