use Rattle.std.proofs.Common.{◌≡◌, ◌++◌, ◌⊎◌, subst, sym, rules}
use Rattle.std.specs.Prelude.{◌↔◌}
use Rattle.typing_spec.specs.Capability.{IsKnown, together}
use Rattle.typing_spec.specs.CapabilityLaws.{known_append}
use Rattle.typing_spec.proofs.capability_set.CapabilitySet.union.Goals as goal

pub returns-clause-known : goal.returns-clause-known
returns-clause-known c = λ k.
    let all : together c.share_all-2.new.parts.items ≡ c.args.self.now ++ c.args.other.now = search rules in
    subst (λ cs. IsKnown cs k ↔ (IsKnown c.args.self.now k ⊎ IsKnown c.args.other.now k)) (sym all) (known_append c.args.self.now c.args.other.now k)
