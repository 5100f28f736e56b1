use Rattle.std.proofs.Common.{◌≡◌, map}
use Rattle.std.specs.Vec.Iter.{into_iter_items}
use Rattle.schema_core.specs.RequestEnvs.{env_data_of}
use Rattle.link_spec.specs.Linked.{linked_envs_of}
use Rattle.link_spec.specs.Met.{refused_check}
use Rattle.policy_typecheck.specs.Reported.{all_reported}
use Rattle.policy_typecheck.proofs.no_action.check_of_action.Given as goal

-- what is reported so far, before what the environments that are left say
abbrev pub invariant-loop-env : goal.invariant-loop-env
invariant-loop-env l =
    all_reported l.t.id (refused_check l.checker l.t) (l.summary, l.found.keys) (map env_data_of (into_iter_items l.env-iterator)) ≡
    all_reported l.t.id (refused_check l.checker l.t) (l.initial.summary, l.initial.found.keys) (linked_envs_of l.checker l.t l.action)
