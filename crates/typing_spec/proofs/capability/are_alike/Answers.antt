use Rattle.std.proofs.lemmas.Bool.Decides.{same_from_decides}
use Rattle.typing_spec.specs.Capability.{is_alike}
use Rattle.typing_spec.specs.CapabilityLaws.{alike_decides}
use Rattle.typing_spec.proofs.capability.are_alike.Goals as goal

pub returns : goal.returns
returns c = same_from_decides c.is_same.result (is_alike c.args.k.now c.args.m.now) c.is_same.ensures (alike_decides c.args.k.now c.args.m.now)
