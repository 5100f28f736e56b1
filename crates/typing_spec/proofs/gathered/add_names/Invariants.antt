use Rattle.std.proofs.Common.{◌≡◌}
use Rattle.std.specs.BTreeSet.{IsOrdered}
use Rattle.policy_values.specs.Uid.{text_cmp}
use Rattle.schema_types.specs.Names.{union}
use Rattle.typing_spec.proofs.gathered.add_names.Given as goal

-- what is left is still to be put in
abbrev pub invariant-loop-name : goal.invariant-loop-name
invariant-loop-name l = record {
  made : union l.names.keys l.name-iterator ≡ union l.initial.names.keys l.added.keys;
  ordered : IsOrdered text_cmp l.names;
}
