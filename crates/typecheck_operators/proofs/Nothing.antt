-- Where nothing is known, no capability is.
use Rattle.std.proofs.Common.{◌≡◌, true, false, List, [], ◌∷◌, refl}
use Rattle.std.proofs.lemmas.Bool.{false≢true}
use Rattle.typing_spec.specs.Capability.{Capability, has_cap, is_nothing}

pub has_none : (cs : List Capability) (k : Capability) → is_nothing cs ≡ true → has_cap cs k ≡ false
has_none [] k h = refl
has_none (c ∷ cs) k h = absurd (false≢true h)
