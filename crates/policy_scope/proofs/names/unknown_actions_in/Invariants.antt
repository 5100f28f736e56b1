use Rattle.std.proofs.Common.{map}
use Rattle.std.specs.List.{filter_map}
use Rattle.std.specs.Vec.Iter.{into_iter_items}
use Rattle.policy_scope.specs.Literals.{pair_of}
use Rattle.policy_scope.specs.Names.{action_id_cmp, action_id_finding, action_id_findings}
use Rattle.policy_scope.proofs.Once.{IsOnce}
use Rattle.policy_scope.proofs.Made.{action_made}
use Rattle.policy_scope.proofs.names.unknown_actions_in.Given as goal

abbrev pub invariant-loop-mention : goal.invariant-loop-mention
invariant-loop-mention l =
    IsOnce action_id_cmp (action_made l.schema l.policy_id) l.seen (filter_map (action_id_finding l.schema l.policy_id) (map pair_of (into_iter_items l.mention-iterator))) (action_id_findings l.schema l.policy_id l.condition) l.found.items
