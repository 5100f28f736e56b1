use Rattle.std.proofs.Common.{◌≡◌}
use Rattle.std.specs.Prelude.{filter, flat_map}
use Rattle.policy_scope.specs.Scope.{type_meets}
use Rattle.link_spec.specs.Met.{body_check, met_at, met_with}
use Rattle.policy_typecheck.specs.Reported.{all_reported}
use Rattle.policy_typecheck.proofs.bodies.check_of_action.Given as goal

-- what is reported so far, before what the principal types that are left say
abbrev pub invariant-loop-principal : goal.invariant-loop-principal
invariant-loop-principal l =
    all_reported l.t.id (body_check l.checker l.t) (l.summary, l.found.keys) (flat_map (met_at l.checker l.t l.action) (filter (type_meets l.checker l.t.principal) l.principal-iterator)) ≡
    all_reported l.t.id (body_check l.checker l.t) (l.initial.summary, l.initial.found.keys) (met_with l.checker l.t l.action)
