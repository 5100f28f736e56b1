use Rattle.std.proofs.Common.{◌≡◌, drop}
use Rattle.std.specs.Prelude.{flat_map}
use Rattle.link_spec.specs.Linked.{linked_envs, linked_envs_of}
use Rattle.link_spec.specs.Met.{refused_check}
use Rattle.policy_typecheck.specs.Reported.{all_reported}
use Rattle.policy_typecheck.proofs.no_action.check_refused.Given as goal

-- what is reported so far, before what the actions that are left say
abbrev pub invariant-loop-action : goal.invariant-loop-action
invariant-loop-action l =
    all_reported l.t.id (refused_check l.checker l.t) (l.summary, l.found.keys) (flat_map (linked_envs_of l.checker l.t) (drop l.action-index l.checker.action_ids)) ≡
    all_reported l.t.id (refused_check l.checker l.t) (l.initial.summary, l.initial.found.keys) (linked_envs l.checker l.t)
