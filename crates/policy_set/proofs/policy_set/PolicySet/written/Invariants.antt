use Rattle.std.proofs.Common.{◌≡◌, [], map}
use Rattle.std.specs.Prelude.{fold, filter}
use Rattle.std.specs.BTreeMap.{values}
use Rattle.std.specs.Map.Iter.{deref}
use Rattle.policy_values.specs.Keyed.{AreAtTheirKeys}
use Rattle.policy_values.specs.Uid.{text_cmp}
use Rattle.policy_set.specs.Condition.{written_of}
use Rattle.policy_set.specs.PolicySet.{placed, is_static, written}
use Rattle.policy_set.proofs.policy_set.PolicySet.written.Given as goal

-- what is left is still to be placed
abbrev pub invariant-loop-template : goal.invariant-loop-template
invariant-loop-template l = record {
  keys : AreAtTheirKeys text_cmp (λ t. t.now.id) l.by_id;
  made : fold placed (map deref (values l.by_id)) l.template-iterator ≡ fold placed [] l.self.templates;
}

abbrev pub invariant-loop-policy : goal.invariant-loop-policy
invariant-loop-policy l = record {
  keys : AreAtTheirKeys text_cmp (λ t. t.now.id) l.by_id;
  made : fold placed (map deref (values l.by_id)) (map written_of (filter is_static l.policy-iterator)) ≡ written l.self;
}
