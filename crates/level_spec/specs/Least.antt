-- The least level at which an expression passes.
use Rattle.std.specs.Prelude.{◌≡◌, ◌<◌, ℕ, true, false, Option, MatchOption}
use Rattle.policy_values.specs.declared.entity_uid.EntityUID.{EntityUID}
use Rattle.typing_spec.specs.Typing.{Typed}
use Rattle.level_spec.specs.Levels.{passes, least_level}

-- an expression passes at its least level, and at none below; without one it passes nowhere
abbrev pub LeastLevelIsLeast : Type 0
LeastLevelIsLeast =
    (action : Option EntityUID) (e : Typed) →
    MatchOption (least_level action e) ((n : ℕ) → passes action n e ≡ false)
    (λ m. (passes action m e ≡ true) × ((n : ℕ) → n < m → passes action n e ≡ false))
