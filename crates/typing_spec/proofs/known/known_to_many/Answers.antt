use Rattle.std.proofs.Common.{◌∙◌}
use Rattle.typing_spec.specs.Capability.{together}
use Rattle.typing_spec.proofs.GivenSteps.{common_given}
use Rattle.typing_spec.proofs.known.known_to_many.Goals as goal

pub returns : goal.returns
returns c =
    c.in_ok-items.ensures ∙
    common_given (together c.args.parts.now.items) (together c.args.others.now.items) c.in_ok-held.held.keys c.in_ok-held.ensures
