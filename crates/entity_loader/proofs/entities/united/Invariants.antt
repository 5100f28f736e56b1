use Rattle.std.proofs.Common.{◌≡◌}
use Rattle.std.specs.List.Sorted.{IsStrictlySortedBy}
use Rattle.policy_values.specs.Uid.{uid_cmp}
use Rattle.reads_spec.specs.Merge.{united}
use Rattle.entity_loader.proofs.entities.united.Given as goal

abbrev pub invariant-loop-other : goal.invariant-loop-other
invariant-loop-other l = record {
  left : united l.all.keys l.other-iterator ≡ united l.ids.keys l.others.keys;
  ascending : IsStrictlySortedBy uid_cmp l.other-iterator;
}
