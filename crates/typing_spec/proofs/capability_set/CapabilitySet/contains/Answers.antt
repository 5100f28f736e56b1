use Rattle.std.proofs.Common.{subst}
use Rattle.std.specs.Bool.{Decides}
use Rattle.std.proofs.lemmas.Bool.Decides.{Decides-at}
use Rattle.typing_spec.specs.Capability.{IsKnown, has_cap, together}
use Rattle.typing_spec.specs.CapabilityLaws.{known_decides}
use Rattle.typing_spec.proofs.capability_set.CapabilitySet.contains.Goals as goal

pub returns-clause-known : goal.returns-clause-known
returns-clause-known c =
    let items = together c.self.inside.parts.items in
    subst (λ cs. Decides c.some_has.result (IsKnown cs c.args.e.now)) c.self.view_is
    (Decides-at c.some_has.result (has_cap items c.args.e.now) c.some_has.ensures (known_decides items c.args.e.now))
