-- Capabilities that are given.
use Rattle.std.specs.Prelude.{Bool, List}
use Rattle.std.specs.List.{list_any}
use Rattle.std.specs.Borrow.{Bor}
use Rattle.typing_spec.specs.Capability.{Capability, is_alike}

-- one of the given capabilities is alike
abbrev pub lends : List (Bor Capability) → Capability → Bool
lends rs k = list_any (λ r. is_alike k r.now) rs
