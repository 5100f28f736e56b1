use Rattle.std.proofs.Common.{◌≡◌}
use Rattle.std.specs.BTreeSet.{IsOrdered}
use Rattle.policy_values.specs.Uid.{text_cmp}
use Rattle.schema_types.specs.Names.{union}
use Rattle.schema_types.proofs.entity_lub.EntityLUB.least_upper_bound.Given as goal

-- what is left is still to be put in
abbrev pub invariant-loop-entity_type : goal.invariant-loop-entity_type
invariant-loop-entity_type l = record {
  made : union l.names.keys l.entity_type-iterator ≡ union l.self l.other;
  ordered : IsOrdered text_cmp l.names;
}
