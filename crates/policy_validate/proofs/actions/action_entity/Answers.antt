use Rattle.std.proofs.Common.{ap, ◌∙◌, refl}
use Rattle.policy_validate.specs.Described.{action_of}
use Rattle.policy_validate.proofs.Found.{ancestors_are}
use Rattle.policy_validate.proofs.actions.action_entity.Goals as goal

pub returns : goal.returns
returns c =
    let same = ancestors_are c.args.schema.now c.args.uid.now c.in_ok-ancestors.ancestors.keys c.requires.actions_ascend c.in_ok-ancestors.ensures.ascending c.in_ok-ancestors.ensures.actions in
    ap action_of c.new-3.ensures.value ∙ rw (same, c.in_ok-uid.ensures) refl
