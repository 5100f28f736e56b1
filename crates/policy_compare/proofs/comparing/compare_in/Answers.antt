use Rattle.std.proofs.Common.{◌≡◌, Bool, true, map, Result, Ok, Err, IfOk, IfSome, subst}
use Rattle.std.specs.Map.Iter.{deref}
use Rattle.schema_core.specs.RequestEnvs.{env_data_of}
use Rattle.policy_compare.specs.Edits.{AreConditions}
use Rattle.policy_compare.proofs.Owned.{gathered}
use Rattle.policy_compare.proofs.comparing.compare_in.Goals as goal

-- what is found of conditions, where something is found, holds of decisions
carried : {A E : Type 0} (t : A → Bool) (P Q : Type 0) → (P → Q) → (r : Result A E) → IfOk r (λ x. t x ≡ true → P) → IfOk r (λ x. t x ≡ true → Q)
carried t P Q f (Ok x) h = λ e. f (h e)
carried t P Q f (Err e) h = tt

pub returns : goal.returns
returns c =
    let schema = c.args.at.now.schema.now in
    let env = env_data_of c.args.at.now.env.now in
    let before = c.args.edit.now.before.now in
    let after = c.args.edit.now.after.now in
    let removed = map deref c.args.edit.now.removed.items in
    let added = map deref c.args.edit.now.added.items in
    let old : AreConditions schema env removed c.in-Some.removed.items = subst (λ o. IfSome o (λ cs. AreConditions schema env removed cs.items)) c.in-Some.is c.in_ok-removed.ensures in
    let new : AreConditions schema env added c.in-Some-2.added.items = subst (λ o. IfSome o (λ cs. AreConditions schema env added cs.items)) c.in-Some-2.is c.in_ok-added.ensures in
    let holds = c.comparison_holds.ensures schema env before after
    c.in-Some.removed.items c.in-Some-2.added.items
    (gathered schema env after before.policies removed c.requires.removed c.in-Some.removed.items old)
    (gathered schema env before after.policies added c.requires.added c.in-Some-2.added.items new) in
    record {
      at_most = carried (λ x. x.at_most) _ _ holds.0 c.compare_conditions.result c.compare_conditions.ensures.at_most;
      at_least = carried (λ x. x.at_least) _ _ holds.1 c.compare_conditions.result c.compare_conditions.ensures.at_least;
    }
