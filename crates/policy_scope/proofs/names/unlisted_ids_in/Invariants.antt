use Rattle.std.proofs.Common.{map}
use Rattle.std.specs.List.{filter_map}
use Rattle.std.specs.Vec.Iter.{into_iter_items}
use Rattle.policy_scope.specs.Literals.{pair_of}
use Rattle.policy_scope.specs.Names.{enum_cmp, enum_finding, enum_findings}
use Rattle.policy_scope.proofs.Once.{IsOnce}
use Rattle.policy_scope.proofs.Made.{enum_made}
use Rattle.policy_scope.proofs.names.unlisted_ids_in.Given as goal

abbrev pub invariant-loop-mention : goal.invariant-loop-mention
invariant-loop-mention l =
    IsOnce enum_cmp (enum_made l.schema l.policy_id) l.seen (filter_map (enum_finding l.schema l.policy_id) (map pair_of (into_iter_items l.mention-iterator))) (enum_findings l.schema l.policy_id l.condition) l.found.items
