-- Ids added to those that are reached.
use Rattle.std.specs.Prelude.{◌≡◌, true, false, ◌||◌, List}
use Rattle.policy_values.specs.declared.entity_uid.EntityUID.{EntityUID}
use Rattle.level_spec.specs.Cut.{is_among}
use Rattle.level_spec.specs.Hops.{Within}

-- the ids are reached besides, and those of them that were not reached before are fresh
pub record AreFresh (ids reached reached2 fresh : List EntityUID) : Type 0 where
  pub all : (u : EntityUID) → is_among reached2 u ≡ (is_among reached u || is_among ids u)
  pub fresh_reached : Within fresh reached2
  pub newest : (u : EntityUID) → is_among reached2 u ≡ true →
      is_among fresh u ≡ false → is_among reached u ≡ true
