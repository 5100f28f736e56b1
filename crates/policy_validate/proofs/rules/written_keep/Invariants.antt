use Rattle.std.proofs.Common.{◌≡◌, map}
use Rattle.std.specs.List.{list_all}
use Rattle.std.specs.Map.Iter.{deref}
use Rattle.std.specs.Vec.Iter.{into_iter_items}
use Rattle.policy_set.specs.Data.{TemplateData}
use Rattle.policy_set.specs.PolicySet.{written}
use Rattle.policy_validate.specs.Rules.{keeps_rules}
use Rattle.policy_validate.proofs.rules.written_keep.Given as goal

-- it is so of all exactly where it is so of what is left
abbrev pub invariant-loop-template : goal.invariant-loop-template
invariant-loop-template l = list_all (keeps_rules l.schema) (map (deref {X = TemplateData}) (into_iter_items l.template-iterator)) ≡ list_all (keeps_rules l.schema) (written l.policies)
