use Rattle.std.proofs.Common.{ap, ◌∙◌, subst, cond}
use Rattle.std.specs.BTreeMap.{get}
use Rattle.policy_values.specs.Uid.{uid_cmp, uid_eq}
use Rattle.entity_loader.specs.Kept.{kept_with, WhyNotKept}
use Rattle.entity_loader.proofs.Steps.{kept_at}
use Rattle.entity_loader.proofs.kept.keep.Goals as goal

pub returns-in-Err-clause-err : goal.returns-in-Err-clause-err
returns-in-Err-clause-err c =
    let is = c.in_ok-uid.ensures ∙ c.uid.ensures in
    let known = c.remove-known.ensures.value ∙ ap (get uid_cmp c.args.kept.now) is in
    subst (λ o. WhyNotKept o c.args.entity c.in-Err.error) known c.in-Err.ensures.err

pub returns-clause-ok : goal.returns-clause-ok
returns-clause-ok c = λ x.
    let is = c.in_ok-uid.ensures ∙ c.uid.ensures in
    let known = c.remove-known.ensures.value ∙ ap (get uid_cmp c.args.kept.now) is in
    c.in_ok-put.ensures x
    ∙ kept_at (uid_eq c.in_ok-uid.uid x) _ _ _ _ (c.in-Ok.ensures.ok ∙ ap (λ o. kept_with o c.args.entity) known) (c.remove-known.ensures.updates.0 x)
    ∙ (λ i. cond (uid_eq (is i) x) (kept_with (get uid_cmp c.args.kept.now c.args.entity.uid) c.args.entity) (get uid_cmp c.args.kept.now x))
