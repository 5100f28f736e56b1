use Rattle.std.proofs.Common.{◌≡◌, ◌++◌, map}
use Rattle.std.specs.Prelude.{flat_map}
use Rattle.std.specs.Map.Iter.{deref}
use Rattle.std.specs.Vec.Iter.{into_iter_items}
use Rattle.policy_set.specs.Data.{PolicyData}
use Rattle.policy_set.specs.PolicySet.{links}
use Rattle.policy_validate.specs.Accepted.{errors_of_link}
use Rattle.policy_validate.proofs.validator.add_all_links.Given as goal

-- those that are left
abbrev pub invariant-loop-link : goal.invariant-loop-link
invariant-loop-link l = l.errors.items ++ flat_map (errors_of_link l.schema) (map (deref {X = PolicyData}) (into_iter_items l.link-iterator)) ≡ l.fn.errors.items ++ flat_map (errors_of_link l.schema) (links l.policies)
