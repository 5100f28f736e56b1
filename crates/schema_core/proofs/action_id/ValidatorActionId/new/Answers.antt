use Rattle.std.specs.Cmp.Lexicographic.{nat_list_cmp_total}
use Rattle.std.proofs.lemmas.Map.Lookups.{exact_bytes}
use Rattle.policy_values.specs.Uid.{uid_cmp_total, exact_uid}
use Rattle.schema_core.proofs.SameKeys.{same_members}
use Rattle.schema_core.proofs.action_id.ValidatorActionId.new.Goals as goal

pub returns-clause-principals : goal.returns-clause-principals
returns-clause-principals c = same_members nat_list_cmp_total exact_bytes c.in_ok-principals.principals.keys c.args.principals.items c.in_ok-principals.ensures.has

pub returns-clause-resources : goal.returns-clause-resources
returns-clause-resources c = same_members nat_list_cmp_total exact_bytes c.in_ok-resources.resources.keys c.args.resources.items c.in_ok-resources.ensures.has

pub returns-clause-descendants : goal.returns-clause-descendants
returns-clause-descendants c = same_members uid_cmp_total exact_uid c.in_ok-descendants.descendants.keys c.args.descendants.items c.in_ok-descendants.ensures.has
