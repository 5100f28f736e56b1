-- What is found in conditions, as code has it.
use Rattle.std.specs.Prelude.{ℕ, Option, Some, None}
use Rattle.std.specs.Option.{option_cmp}
use Rattle.std.specs.Ordering.{nat_cmp, ordering_then}
use Rattle.std.specs.declared.cmp.Ordering.{Ordering}
use Rattle.schema_types.specs.Ty.{Ty}
use Rattle.policy_expressions.specs.declared.kinds.Loc.{Loc}
use Rattle.policy_expressions.specs.Tree.{Mark}
use Rattle.policy_scope.specs.Names.{loc_cmp}
use Rattle.level_spec.specs.Findings.{LevelFault, needs_level, literal_target}
use Rattle.level_validate.specs.declared.fault.Fault.{Fault}

-- with the level that is needed, or of a literal
abbrev pub fault_at : Option ℕ → Option Loc → LevelFault
fault_at (Some k) l = needs_level k l
fault_at None l = literal_target l

abbrev pub fault_of : Fault → LevelFault
fault_of f = fault_at f.needed f.source_loc

-- two are the same one where they say the same of the same place
abbrev pub parts_of : LevelFault → Option ℕ × Option Loc
parts_of (needs_level k l) = (Some k, l)
parts_of (literal_target l) = (None, l)

abbrev pub parts_cmp : Option ℕ × Option Loc → Option ℕ × Option Loc → Ordering
parts_cmp a b = ordering_then (option_cmp nat_cmp a.0 b.0) (option_cmp loc_cmp a.1 b.1)

abbrev pub fault_cmp : LevelFault → LevelFault → Ordering
fault_cmp a b = parts_cmp (parts_of a) (parts_of b)

-- a mark with a place; no level depends on the type in it
abbrev pub at_place : Option Loc → Mark (Option Ty)
at_place l = record { note = None; loc = l }
