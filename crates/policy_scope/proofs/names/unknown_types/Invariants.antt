use Rattle.std.proofs.Common.{map}
use Rattle.std.specs.List.{filter_map}
use Rattle.std.specs.Vec.Iter.{into_iter_items}
use Rattle.policy_scope.specs.Literals.{pair_of}
use Rattle.policy_scope.specs.Names.{entity_type_cmp, entity_type_finding, distinct}
use Rattle.policy_scope.proofs.Once.{IsOnce}
use Rattle.policy_scope.proofs.Made.{type_made}
use Rattle.policy_scope.proofs.names.unknown_types.Given as goal

abbrev pub invariant-loop-mention : goal.invariant-loop-mention
invariant-loop-mention l =
    IsOnce entity_type_cmp (type_made l.policy_id) l.seen (filter_map (entity_type_finding l.schema l.policy_id) (map pair_of (into_iter_items l.mention-iterator))) (distinct entity_type_cmp (filter_map (entity_type_finding l.schema l.policy_id) (map pair_of l.fn.names.items))) l.found.items
