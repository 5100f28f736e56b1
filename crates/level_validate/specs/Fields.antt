-- Fields that are asked for, as code has them.
use Rattle.std.specs.Prelude.{ℕ, List, [], ◌∷◌}
use Rattle.level_validate.specs.declared.pending.Pending.{Pending, End, Field'}

-- their names, the outermost first
abbrev pub fields_in : Pending → List (List ℕ)
fields_in End = []
fields_in (Field' name p rest) = name.now ∷ fields_in rest
