use Rattle.std.proofs.Common.{sym, ◌∙◌, ap}
use Rattle.policy_values.specs.Basename.{basename_of}
use Rattle.policy_values.proofs.BehindColons.{basename_whole, basename_behind}
use Rattle.policy_values.proofs.entity_uid.EntityType.basename.Goals as goal

pub returns-in-Some : goal.returns-in-Some
returns-in-Some c =
    let split = c.in-Some.ensures.cases in
    split.4 ∙ sym (basename_behind c.as_str-name.result.now split.0 split.1 split.2) ∙ ap basename_of c.as_str-name.ensures.value

pub returns-in-None : goal.returns-in-None
returns-in-None c = sym (basename_whole c.as_str-name.result.now c.in-None.ensures.cases) ∙ ap basename_of c.as_str-name.ensures.value
