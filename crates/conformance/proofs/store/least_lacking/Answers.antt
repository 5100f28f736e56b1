use Rattle.std.proofs.Common.{◌≡◌, ◌++◌, ◌∷◌, [], ◌+◌, take, refl, ◌∙◌}
use Rattle.std.specs.Option.{option_copied}
use Rattle.std.proofs.lemmas.List.{take_more}
use Rattle.policy_values.specs.Uid.{uid_cmp_total, exact_uid}
use Rattle.conformance.specs.StoreRules.{lacks_it}
use Rattle.conformance.proofs.Lacking.{first_is_least, lacks_more, lacks_none}
use Rattle.conformance.proofs.store.least_lacking.Goals as goal

pub loop-action-init : goal.loop-action-init
loop-action-init c = lacks_none c.args.entities.now

pub loop-action-preserved : goal.loop-action-preserved
loop-action-preserved c =
    let acts = c.action_ids-action-items.result.now in
    let i = c.loop-action.action-index in
    let a = c.action-item.result in
    let next : take (i + 1) acts ≡ take i acts ++ a ∷ [] = take_more acts i a c.loop-action-test.true ∙ rw (← c.action-item.is) refl in
    let first = first_is_least uid_cmp_total exact_uid a.descendants (lacks_it c.args.entities.now a) c.first_without.ensures.ascending in
    rw (next, c.lower-least.ensures, c.first_without.ensures.found) (lacks_more c.args.entities.now (take i acts) a (option_copied c.loop-action.least) _ c.loop-action.invariant first)
