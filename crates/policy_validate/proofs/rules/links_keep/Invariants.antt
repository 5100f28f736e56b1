use Rattle.std.proofs.Common.{◌≡◌, map}
use Rattle.std.specs.List.{list_all}
use Rattle.std.specs.Map.Iter.{deref}
use Rattle.std.specs.Vec.Iter.{into_iter_items}
use Rattle.policy_set.specs.Data.{PolicyData}
use Rattle.policy_set.specs.PolicySet.{links}
use Rattle.policy_validate.specs.Rules.{link_keeps_rules}
use Rattle.policy_validate.proofs.rules.links_keep.Given as goal

-- it is so of all exactly where it is so of what is left
abbrev pub invariant-loop-link : goal.invariant-loop-link
invariant-loop-link l = list_all (link_keeps_rules l.schema) (map (deref {X = PolicyData}) (into_iter_items l.link-iterator)) ≡ list_all (link_keeps_rules l.schema) (links l.policies)
