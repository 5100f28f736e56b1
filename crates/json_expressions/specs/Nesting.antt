-- What may be nested too deep.
use Rattle.std.specs.Prelude.{ℕ, List, [], ◌∷◌, Option, Some, None}
use Rattle.json_values.specs.Lists.{with_first, with_field}
use Rattle.json_expressions.specs.declared.nesting.Bounded.{Bounded}
use Rattle.json_expressions.specs.declared.nesting.Bounded.TheVariants.{Within, Nested}

module _ {A : Type 0} where
  abbrev pub within : Bounded A → Option A
  within (Within x) = Some x
  within Nested = None

  -- all, where none is nested deeper
  abbrev pub all_within : List (Bounded A) → Option (List A)
  all_within [] = Some []
  all_within (r ∷ rs) = with_first (within r) (all_within rs)

  abbrev pub fields_within : List (List ℕ × Bounded A) → Option (List (List ℕ × A))
  fields_within [] = Some []
  fields_within (e ∷ es) = with_field e.0 (within e.1) (fields_within es)
