use Rattle.std.proofs.Common.{◌≡◌}
use Rattle.std.specs.Prelude.{slice_get}
use Rattle.std.specs.Option.{option_or}
use Rattle.std.specs.Vec.Iter.{into_iter_items}
use Rattle.policy_expressions.specs.declared.kinds.SlotId.TheVariants.{Principal, Resource}
use Rattle.policy_set.specs.PolicySet.{given}
use Rattle.policy_set.proofs.link.slot_values.Given as goal

-- the first so far, or else the first that is left
abbrev pub invariant-loop-slot : goal.invariant-loop-slot
invariant-loop-slot l = record {
  principal : option_or l.principal (slice_get (given (into_iter_items l.slot-iterator) Principal) 0) ≡ slice_get (given l.fn.values.items Principal) 0;
  resource : option_or l.resource (slice_get (given (into_iter_items l.slot-iterator) Resource) 0) ≡ slice_get (given l.fn.values.items Resource) 0;
}
