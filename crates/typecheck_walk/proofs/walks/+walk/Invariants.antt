use Rattle.std.proofs.Common.{◌≡◌, ◌≤◌, ◌+◌, ◌*◌, ◌++◌, drop, map, max}
use Rattle.std.specs.Map.{keys_of}
use Rattle.schema_core.specs.RequestEnvs.{env_data_of}
use Rattle.policy_expressions.specs.Tree.{depth_of, deepest, deepest_named, trees_of, named_of}
use Rattle.typecheck_rules.specs.Walk.{walked_all, walked_named}
use Rattle.typecheck_operators.specs.Reported.{all_of, field_of}
use Rattle.typecheck_walk.proofs.walks.+walk.Given as goal

abbrev pub decreases-walk : goal.decreases-walk
decreases-walk l = 4 * depth_of l.e.now

abbrev pub decreases-walk_if : goal.decreases-walk_if
decreases-walk_if l = 4 * max (depth_of l.x.now) (max (depth_of l.y.now) (depth_of l.z.now)) + 3

abbrev pub decreases-walk_and : goal.decreases-walk_and
decreases-walk_and l = 4 * max (depth_of l.x.now) (depth_of l.y.now) + 3

abbrev pub decreases-walk_or : goal.decreases-walk_or
decreases-walk_or l = 4 * max (depth_of l.x.now) (depth_of l.y.now) + 3

abbrev pub decreases-walk_boolean : goal.decreases-walk_boolean
decreases-walk_boolean l = 4 * depth_of l.y.now + 1

abbrev pub decreases-walk_after : goal.decreases-walk_after
decreases-walk_after l = 4 * depth_of l.y.now + 1

abbrev pub decreases-walk_besides : goal.decreases-walk_besides
decreases-walk_besides l = 4 * depth_of l.z.now + 1

abbrev pub decreases-walk_right_of_and : goal.decreases-walk_right_of_and
decreases-walk_right_of_and l = 4 * depth_of l.y.now + 2

abbrev pub decreases-walk_right_of_or : goal.decreases-walk_right_of_or
decreases-walk_right_of_or l = 4 * depth_of l.y.now + 2

abbrev pub decreases-walk_unary : goal.decreases-walk_unary
decreases-walk_unary l = 4 * depth_of l.x.now + 1

abbrev pub decreases-walk_binary : goal.decreases-walk_binary
decreases-walk_binary l = 4 * max (depth_of l.x.now) (depth_of l.y.now) + 1

abbrev pub decreases-walk_attr : goal.decreases-walk_attr
decreases-walk_attr l = 4 * depth_of l.x.now + 1

abbrev pub decreases-walk_has : goal.decreases-walk_has
decreases-walk_has l = 4 * depth_of l.x.now + 1

abbrev pub decreases-walk_like : goal.decreases-walk_like
decreases-walk_like l = 4 * depth_of l.x.now + 1

abbrev pub decreases-walk_is : goal.decreases-walk_is
decreases-walk_is l = 4 * depth_of l.x.now + 1

abbrev pub decreases-walk_call : goal.decreases-walk_call
decreases-walk_call l = 4 * deepest (trees_of l.xs.now.items) + 2

abbrev pub decreases-walk_set : goal.decreases-walk_set
decreases-walk_set l = 4 * deepest (trees_of l.xs.now.items) + 2

abbrev pub decreases-walk_record : goal.decreases-walk_record
decreases-walk_record l = 4 * deepest_named (named_of l.fields.now.entries) + 2

abbrev pub decreases-walk_all : goal.decreases-walk_all
decreases-walk_all l = 4 * deepest (trees_of l.xs.now.items) + 1

abbrev pub decreases-walk_named : goal.decreases-walk_named
decreases-walk_named l = 4 * deepest_named (named_of l.fields.now.entries) + 1

-- what is walked so far, and what is left
abbrev pub invariant-walk_all-loop-x : goal.invariant-walk_all-loop-x
invariant-walk_all-loop-x l =
    all_of l.all.items ++ walked_all l.at.schema.now (env_data_of l.at.env.now) l.caps (trees_of (drop l.x-index l.xs.items)) ≡ walked_all l.at.schema.now (env_data_of l.at.env.now) l.caps (trees_of l.xs.items)

abbrev pub invariant-walk_named-loop-name : goal.invariant-walk_named-loop-name
invariant-walk_named-loop-name l = record {
  so_far : map field_of l.values.entries ++ walked_named l.at.schema.now (env_data_of l.at.env.now) l.caps (named_of l.name-iterator) ≡ walked_named l.at.schema.now (env_data_of l.at.env.now) l.caps (named_of l.fields.entries);
  keys : keys_of l.fields.entries ≡ keys_of l.values.entries ++ keys_of l.name-iterator;
  depth : deepest_named (named_of l.name-iterator) ≤ deepest_named (named_of l.fields.entries);
}
