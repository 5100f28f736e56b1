use Rattle.std.proofs.Common.{◌≡◌, ◌≤◌, ◌+◌, ◌*◌, ◌++◌, ◌∷◌, drop, map, max}
use Rattle.std.specs.Option.{option_copied}
use Rattle.policy_expressions.specs.Tree.{depth_of, deepest, deepest_named, trees_of, named_of}
use Rattle.level_spec.specs.Levels.{level_under}
use Rattle.level_spec.specs.Findings.{faults_all, faults_named, named_targets}
use Rattle.level_validate.specs.Faults.{fault_of}
use Rattle.level_validate.specs.Fields.{fields_in}
use Rattle.level_validate.proofs.Fields.{left_level, left_targets}
use Rattle.level_validate.proofs.walk.+walk.Given as goal

abbrev pub decreases-check : goal.decreases-check
decreases-check l = 3 * depth_of l.e.now

abbrev pub decreases-check_all : goal.decreases-check_all
decreases-check_all l = 3 * deepest (trees_of l.xs.now.items) + 1

abbrev pub decreases-check_named : goal.decreases-check_named
decreases-check_named l = 3 * deepest_named (named_of l.fields.now.entries) + 1

abbrev pub decreases-check_binary : goal.decreases-check_binary
decreases-check_binary l = 3 * max (depth_of l.x.now) (depth_of l.y.now) + 1

abbrev pub decreases-check_access : goal.decreases-check_access
decreases-check_access l = 3 * depth_of l.x.now + 1

abbrev pub decreases-target : goal.decreases-target
decreases-target l = 3 * depth_of l.e.now

abbrev pub decreases-target_if : goal.decreases-target_if
decreases-target_if l = 3 * max (depth_of l.x.now) (max (depth_of l.y.now) (depth_of l.z.now)) + 2

abbrev pub decreases-target_branch : goal.decreases-target_branch
decreases-target_branch l = 3 * depth_of l.y.now + 1

abbrev pub decreases-target_binary : goal.decreases-target_binary
decreases-target_binary l = 3 * max (depth_of l.x.now) (depth_of l.y.now) + 1

abbrev pub decreases-target_attr : goal.decreases-target_attr
decreases-target_attr l = 3 * depth_of l.x.now + 1

abbrev pub decreases-target_field : goal.decreases-target_field
decreases-target_field l = 3 * deepest_named (named_of l.fields.now.entries) + 1

-- what is found so far, and then what is found in what is left
abbrev pub invariant-check_all-loop-x : goal.invariant-check_all-loop-x
invariant-check_all-loop-x l =
    map fault_of l.found.items ++ faults_all (option_copied l.at.action) l.at.max_level (trees_of (drop l.x-index l.xs.items)) ≡ map fault_of l.fn.found.items ++ faults_all (option_copied l.at.action) l.at.max_level (trees_of l.xs.items)

abbrev pub invariant-check_named-loop-x : goal.invariant-check_named-loop-x
invariant-check_named-loop-x l = record {
  so_far : map fault_of l.found.items ++ faults_named (option_copied l.at.action) l.at.max_level (named_of l.x-iterator) ≡ map fault_of l.fn.found.items ++ faults_named (option_copied l.at.action) l.at.max_level (named_of l.fields.entries);
  depth : deepest_named (named_of l.x-iterator) ≤ deepest_named (named_of l.fields.entries);
}

abbrev pub invariant-target_field-loop-key : goal.invariant-target_field-loop-key
invariant-target_field-loop-key l = record {
  level : left_level (option_copied l.at.action) l.reached (named_of l.key-iterator) (l.name ∷ fields_in l.rest) ≡ level_under (option_copied l.at.action) (named_of l.fields.entries) (l.name ∷ fields_in l.rest);
  so_far : map fault_of l.found.items ++ left_targets (option_copied l.at.action) l.at.max_level l.loc l.reached (named_of l.key-iterator) (l.name ∷ fields_in l.rest)
      ≡ map fault_of l.fn.found.items ++ named_targets (option_copied l.at.action) l.at.max_level l.loc (named_of l.fields.entries) (l.name ∷ fields_in l.rest);
  depth : deepest_named (named_of l.key-iterator) ≤ deepest_named (named_of l.fields.entries);
}
