use Rattle.std.proofs.Common.{◌≡◌, Some, sym, ap, ◌∙◌}
use Rattle.std.specs.BTreeMap.{get}
use Rattle.std.specs.Option.{option_copied}
use Rattle.policy_values.specs.Uid.{uid_cmp}
use Rattle.entity_loading.proofs.AddSteps.{under_put, alike_put}
use Rattle.entity_loading.proofs.MoreSteps.{more_put, more_none}
use Rattle.entity_loading.proofs.ancestors.add_ancestors.Goals as goal

pub returns-clause-ids : goal.returns-clause-ids
returns-clause-ids c =
    under_put c.args.kept.now c.insert.new.self c.args.uid.now c.in_ok-more.more c.requires (rw c.in_ok-try_clone.ensures at c.in_ok-insert.ensures.updates.0)
    (ap (λ e. e.uid) c.in_ok-more.ensures.alike ∙ c.requires c.args.uid.now c.in-Some.entity.now (sym c.get.ensures.value ∙ ap option_copied c.in-Some.is))

pub returns-clause-alike : goal.returns-clause-alike
returns-clause-alike c =
    let had : get uid_cmp c.args.kept.now c.args.uid.now ≡ Some c.in-Some.entity.now = sym c.get.ensures.value ∙ ap option_copied c.in-Some.is in
    alike_put c.args.kept.now c.insert.new.self c.args.uid.now c.in_ok-more.more c.in-Some.entity.now had c.in_ok-more.ensures.alike (rw c.in_ok-try_clone.ensures at c.in_ok-insert.ensures.updates.0)

pub returns-clause-more : goal.returns-clause-more
returns-clause-more c =
    let had : get uid_cmp c.args.kept.now c.args.uid.now ≡ Some c.in-Some.entity.now = sym c.get.ensures.value ∙ ap option_copied c.in-Some.is in
    more_put c.args.kept.now c.insert.new.self c.args.uid.now c.args.ids.items c.in_ok-more.more c.in-Some.entity.now had c.in_ok-more.ensures.more c.in_ok-more.ensures.ascending
    (rw c.in_ok-try_clone.ensures at c.in_ok-insert.ensures.updates.0)

pub returns-in_default-clause-more : goal.returns-in_default-clause-more
returns-in_default-clause-more c = more_none c.args.kept.now c.args.uid.now c.args.ids.items (sym c.get.ensures.value ∙ ap option_copied c.in_default.is)
