use Rattle.std.proofs.Common.{◌≡◌, ◌||◌, Some}
use Rattle.std.specs.BTreeSet.{contains}
use Rattle.std.specs.Vec.Iter.{into_iter_items}
use Rattle.policy_core.specs.Operators.{above}
use Rattle.policy_values.specs.declared.entity_uid.EntityUID.{EntityUID}
use Rattle.policy_values.specs.Uid.{uid_cmp}
use Rattle.entity_loading.specs.Joining.{lists}
use Rattle.entity_loading.proofs.ancestors.with_more.Given as goal

abbrev pub invariant-loop-id : goal.invariant-loop-id
invariant-loop-id l = (y : EntityUID) → (contains uid_cmp l.ancestors y || lists (into_iter_items l.id-iterator) y) ≡ (above (Some l.entity) y || lists l.fn.ids.items y)
