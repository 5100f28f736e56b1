use Rattle.std.proofs.Common.{◌≡◌, false}
use Rattle.std.specs.List.{list_any}
use Rattle.std.specs.Option.{option_map_or}
use Rattle.std.specs.Ordering.{is_eq}
use Rattle.policy_values.specs.Uid.{text_cmp}
use Rattle.policy_set.specs.Removal.{is_linked}
use Rattle.policy_set.proofs.policy_set.PolicySet.is_linked.Given as goal

-- what is left decides
abbrev pub invariant-loop-policy : goal.invariant-loop-policy
invariant-loop-policy l = list_any (λ p. option_map_or (λ k. is_eq (text_cmp l.id k.template)) p.link false) l.policy-iterator ≡ is_linked l.self l.id
