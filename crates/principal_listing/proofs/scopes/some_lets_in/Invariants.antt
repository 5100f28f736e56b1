use Rattle.std.proofs.Common.{◌≡◌}
use Rattle.std.specs.List.{list_any}
use Rattle.principal_listing.specs.Scopes.{lets_in}
use Rattle.principal_listing.proofs.scopes.some_lets_in.Given as goal

-- what is left says the same as all
abbrev pub invariant-loop-policy : goal.invariant-loop-policy
invariant-loop-policy l = list_any (lets_in l.asked.action l.entity) l.policy-iterator ≡ list_any (lets_in l.asked.action l.entity) l.policies.policies
