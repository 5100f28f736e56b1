use Rattle.std.proofs.Common.{◌≡◌, map}
use Rattle.std.specs.Prelude.{filter}
use Rattle.schema_core.specs.EnvData.{unlinked}
use Rattle.schema_core.specs.Environments.{environment}
use Rattle.policy_scope.specs.Scope.{type_meets}
use Rattle.link_spec.specs.Met.{body_check, met_at}
use Rattle.policy_typecheck.specs.Reported.{all_reported}
use Rattle.policy_typecheck.proofs.bodies.check_of_principal.Given as goal

-- what is reported so far, before what the resource types that are left say
abbrev pub invariant-loop-resource : goal.invariant-loop-resource
invariant-loop-resource l =
    all_reported l.t.id (body_check l.checker l.t) (l.summary, l.found.keys) (map (λ r. unlinked l.action (environment l.principal l.action.name r)) (filter (type_meets l.checker l.t.resource) l.resource-iterator)) ≡
    all_reported l.t.id (body_check l.checker l.t) (l.initial.summary, l.initial.found.keys) (met_at l.checker l.t l.action l.principal)
