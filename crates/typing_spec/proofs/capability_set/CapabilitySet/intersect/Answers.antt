use Rattle.std.proofs.Common.{◌≡◌, subst, sym, rules}
use Rattle.std.specs.Prelude.{◌↔◌}
use Rattle.typing_spec.specs.Capability.{IsKnown, common}
use Rattle.typing_spec.specs.CapabilityLaws.{known_common}
use Rattle.typing_spec.proofs.capability_set.CapabilitySet.intersect.Goals as goal

pub returns-clause-known : goal.returns-clause-known
returns-clause-known c = λ k.
    let all : c.in_ok-set.set ≡ common c.args.self.now c.args.other.now = search rules in
    subst (λ cs. IsKnown cs k ↔ (IsKnown c.args.self.now k × IsKnown c.args.other.now k)) (sym all) (known_common c.args.self.now c.args.other.now k)
