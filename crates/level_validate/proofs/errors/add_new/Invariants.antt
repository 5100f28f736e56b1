use Rattle.std.proofs.Common.{map, fold}
use Rattle.std.specs.Vec.Iter.{into_iter_items}
use Rattle.policy_scope.specs.Names.{with_new}
use Rattle.level_validate.specs.Faults.{fault_of, fault_cmp}
use Rattle.level_validate.proofs.Once.{IsOnce}
use Rattle.level_validate.proofs.errors.add_new.Given as goal

abbrev pub invariant-loop-fault : goal.invariant-loop-fault
invariant-loop-fault l = IsOnce l.seen (map fault_of (into_iter_items l.fault-iterator)) (fold (with_new fault_cmp) (map fault_of l.fn.distinct.items) (map fault_of l.fn.faults.items)) (map fault_of l.distinct.items)
