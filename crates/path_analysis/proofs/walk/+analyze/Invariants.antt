use Rattle.std.proofs.Common.{◌≡◌, ◌≤◌, ◌+◌, ◌*◌, ◌++◌, take, drop, map, max}
use Rattle.std.specs.Map.{keys_of}
use Rattle.schema_core.specs.RequestEnvs.{env_data_of}
use Rattle.policy_expressions.specs.Tree.{depth_of, deepest, deepest_named, trees_of, named_of}
use Rattle.reads_spec.specs.Reads.{reads_all, demands_all, reads_named, demands_named, shape_of}
use Rattle.path_analysis.specs.Parts.{shaped}
use Rattle.path_analysis.specs.Covers.{Adds}
use Rattle.path_analysis.specs.PathOrder.{with_demands}
use Rattle.path_analysis.proofs.walk.+analyze.Given as goal

abbrev pub decreases-analyze : goal.decreases-analyze
decreases-analyze l = 4 * depth_of l.e.now

abbrev pub decreases-analyze_if : goal.decreases-analyze_if
decreases-analyze_if l = 4 * max (depth_of l.x.now) (max (depth_of l.y.now) (depth_of l.z.now)) + 1

abbrev pub decreases-analyze_sides : goal.decreases-analyze_sides
decreases-analyze_sides l = 4 * max (depth_of l.x.now) (depth_of l.y.now) + 1

abbrev pub decreases-analyze_unary : goal.decreases-analyze_unary
decreases-analyze_unary l = 4 * depth_of l.x.now + 1

abbrev pub decreases-analyze_attr : goal.decreases-analyze_attr
decreases-analyze_attr l = 4 * depth_of l.x.now + 3

abbrev pub decreases-reach : goal.decreases-reach
decreases-reach l = 4 * depth_of l.e.now + 1

abbrev pub decreases-reach_attr : goal.decreases-reach_attr
decreases-reach_attr l = 4 * depth_of l.x.now + 2

abbrev pub decreases-analyze_binary : goal.decreases-analyze_binary
decreases-analyze_binary l = 4 * max (depth_of l.x.now) (depth_of l.y.now) + 1

abbrev pub decreases-analyze_call : goal.decreases-analyze_call
decreases-analyze_call l = 4 * deepest (trees_of l.xs.now.items) + 2

abbrev pub decreases-analyze_set : goal.decreases-analyze_set
decreases-analyze_set l = 4 * deepest (trees_of l.xs.now.items) + 2

abbrev pub decreases-analyze_record : goal.decreases-analyze_record
decreases-analyze_record l = 4 * deepest_named (named_of l.fields.now.entries) + 2

abbrev pub decreases-analyze_all : goal.decreases-analyze_all
decreases-analyze_all l = 4 * deepest (trees_of l.xs.now.items) + 1

abbrev pub decreases-analyze_named : goal.decreases-analyze_named
decreases-analyze_named l = 4 * deepest_named (named_of l.fields.now.entries) + 1

-- what was added, and what is left
abbrev pub invariant-analyze_all-loop-x : goal.invariant-analyze_all-loop-x
invariant-analyze_all-loop-x l = record {
  reads : Adds l.fn.reads.keys (reads_all l.at.schema.now (env_data_of l.at.env.now) (trees_of l.xs.items)) l.reads.keys (reads_all l.at.schema.now (env_data_of l.at.env.now) (trees_of (drop l.x-index l.xs.items)));
  demands : with_demands l.demands.keys (demands_all (trees_of (drop l.x-index l.xs.items))) ≡ with_demands l.fn.demands.keys (demands_all (trees_of l.xs.items));
  shapes : l.shapes.items ≡ map shape_of (take l.x-index l.xs.items);
}

abbrev pub invariant-analyze_named-loop-name : goal.invariant-analyze_named-loop-name
invariant-analyze_named-loop-name l = record {
  reads : Adds l.fn.reads.keys (reads_named l.at.schema.now (env_data_of l.at.env.now) (named_of l.fields.entries)) l.reads.keys (reads_named l.at.schema.now (env_data_of l.at.env.now) (named_of l.name-iterator));
  demands : with_demands l.demands.keys (demands_named (named_of l.name-iterator)) ≡ with_demands l.fn.demands.keys (demands_named (named_of l.fields.entries));
  shapes : l.shapes.entries ++ map shaped l.name-iterator ≡ map shaped l.fields.entries;
  keys : keys_of l.fields.entries ≡ keys_of l.shapes.entries ++ keys_of l.name-iterator;
  depth : deepest_named (named_of l.name-iterator) ≤ deepest_named (named_of l.fields.entries);
}
