use Rattle.std.proofs.Common.{◌≡◌}
use Rattle.std.specs.Prelude.{flat_map}
use Rattle.std.specs.Vec.Iter.{into_iter_items}
use Rattle.link_spec.specs.Met.{body_check, met_envs, met_with}
use Rattle.policy_typecheck.specs.Pointed.{pointed}
use Rattle.policy_typecheck.specs.Reported.{all_reported}
use Rattle.policy_typecheck.proofs.bodies.check_bodies.Given as goal

-- what is reported so far, before what the actions that are left say
abbrev pub invariant-loop-action : goal.invariant-loop-action
invariant-loop-action l =
    all_reported l.t.id (body_check l.checker l.t) (l.summary, l.found.keys) (flat_map (met_with l.checker l.t) (pointed (into_iter_items l.action-iterator))) ≡
    all_reported l.t.id (body_check l.checker l.t) (l.initial.summary, l.initial.found.keys) (met_envs l.checker l.t)
