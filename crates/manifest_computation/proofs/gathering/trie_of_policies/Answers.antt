use Rattle.std.proofs.Common.{subst}
use Rattle.std.specs.List.{AllByRecursion}
use Rattle.schema_core.specs.RequestEnvs.{env_data_of}
use Rattle.policy_set.specs.PolicySet.{IsLinkedIn}
use Rattle.policy_validate.specs.Found.{found_conditions}
use Rattle.manifest_computation.proofs.Additions.{all_added, none_left}
use Rattle.manifest_computation.proofs.Holding.{one_step}
use Rattle.manifest_computation.proofs.gathering.trie_of_policies.Goals as goal

pub take_policy-requires-clause-link : goal.take_policy-requires-clause-link
take_policy-requires-clause-link c = (subst (AllByRecursion (IsLinkedIn c.args.policies.now)) c.in-Some.ensures.steps c.loop-policy.invariant.2).0

pub loop-policy-preserved : goal.loop-policy-preserved
loop-policy-preserved c =
    let schema = c.args.schema.now in
    let env = env_data_of c.args.env.now in
    let s = c.args.policies.now in
    let p = c.in-Some.policy.now in
    let is = c.in-Some.ensures.steps in
    let step =
    one_step schema env c.loop-policy.policy-iterator c.next.new.self p is c.loop-policy.trie c.take_policy.new.trie c.loop-policy.conditions.items c.take_policy.new.conditions.items
    (found_conditions schema env s.policies) s.policies c.loop-policy.invariant.0 c.loop-policy.invariant.1 (c.in_ok-left.ensures.taken c.if-not-left.false) in
    (step.0, step.1, (subst (AllByRecursion (IsLinkedIn s)) is c.loop-policy.invariant.2).1, c.in_ok-left.ensures.held c.if-not-left.false)

pub returns-then-not-left-clause-missing : goal.returns-then-not-left-clause-missing
returns-then-not-left-clause-missing c = λ none.
    none_left c.args.schema.now (env_data_of c.args.env.now) c.loop-policy.policy-iterator c.next.new.self c.in-Some.policy.now c.in-Some.ensures.steps (c.in_ok-left.ensures.missing c.if-not-left.true)
    c.args.policies.now.policies c.loop-policy.invariant.1

pub returns-clause-trie : goal.returns-clause-trie
returns-clause-trie c =
    all_added c.args.schema.now (env_data_of c.args.env.now) c.loop-policy.policy-iterator c.args.policies.now.policies c.in-None.ensures.steps.0 c.loop-policy.conditions.items c.loop-policy.trie c.add_all.new.trie
    c.loop-policy.invariant.0 c.loop-policy.invariant.1 c.in_ok-add_all.ensures.same
