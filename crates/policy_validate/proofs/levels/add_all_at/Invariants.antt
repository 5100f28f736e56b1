use Rattle.std.proofs.Common.{◌≡◌, ◌++◌, map}
use Rattle.std.specs.Prelude.{flat_map}
use Rattle.std.specs.Map.Iter.{deref}
use Rattle.std.specs.Vec.Iter.{into_iter_items}
use Rattle.policy_set.specs.Data.{TemplateData}
use Rattle.policy_set.specs.PolicySet.{written}
use Rattle.policy_validate.specs.Accepted.{warnings_of}
use Rattle.policy_validate.specs.Levels.{errors_at_level}
use Rattle.policy_validate.proofs.levels.add_all_at.Given as goal

-- those that are left
abbrev pub invariant-loop-template : goal.invariant-loop-template
invariant-loop-template l = record {
  errors : l.errors.items ++ flat_map (errors_at_level l.schema l.level) (map (deref {X = TemplateData}) (into_iter_items l.template-iterator)) ≡ l.fn.errors.items ++ flat_map (errors_at_level l.schema l.level) (written l.policies);
  warnings : l.warnings.items ++ flat_map (warnings_of l.schema) (map (deref {X = TemplateData}) (into_iter_items l.template-iterator)) ≡ l.fn.warnings.items ++ flat_map (warnings_of l.schema) (written l.policies);
}
