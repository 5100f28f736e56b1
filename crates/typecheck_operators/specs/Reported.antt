-- What the walk answers in code, as the definitions' answer.
use Rattle.std.specs.Prelude.{ℕ, Bool, List, Option, map, option_map}
use Rattle.policy_expressions.specs.declared.kinds.Loc.{Loc}
use Rattle.policy_expressions.specs.Tree.{Mark}
use Rattle.schema_types.specs.Ty.{Ty}
use Rattle.typing_spec.specs.Capability.{Capability}
use Rattle.typing_spec.specs.Typing as definition
use Rattle.typing_spec.specs.Typing.{Typed, typing}
use Rattle.findings.specs.Finding.{Finding}
use Rattle.typecheck_rules.specs.Walked.{Walked, Success, Fail}
use Rattle.typecheck_rules.specs.Found.{findings_from}
use Rattle.typecheck_operators.specs.declared.reported.Typing.{Typing}
use Rattle.typecheck_operators.specs.declared.reported.Part.{Part}
use Rattle.typecheck_operators.specs.declared.reported.Reported.{Reported}
use Rattle.typecheck_operators.specs.declared.reported.Reported.TheVariants as reported

-- the mark of a plain expression at a place
abbrev pub mark : Option Loc → Mark (Unit {0})
mark l = record { note = tt; loc = l }

abbrev pub typing_from : Typing → definition.Typing
typing_from a = record { type = a.of; caps = a.caps; tree = a.tree }

abbrev pub walked_of : Reported → Walked
walked_of (reported.Success a) = Success (typing_from a.value)
walked_of (reported.Fail a) = Fail a.value.tree (findings_from a.value.found.items)

-- of the operands of a list, and of the fields of a record
abbrev pub all_of : List Reported → List Walked
all_of ws = map walked_of ws

abbrev pub field_of : List ℕ × Reported → List ℕ × Walked
field_of e = (e.0, walked_of e.1)

-- what is given by a part of this type, with these capabilities and this expression
abbrev pub given_as : Option Ty → List Capability → Typed → Option definition.Typing
given_as o cs t = option_map (λ u. typing u cs t) o

-- an operand taken apart: whether there is a typing, the type that is given, what is known, the expression,
-- what is found
pub record Operand : Type 0 where
  pub ok : Bool
  pub of : Option Ty
  pub caps : List Capability
  pub tree : Typed
  pub found : List Finding

abbrev pub operand_of : Part → Operand
operand_of p =
    record { ok = p.ok; of = p.of; caps = p.caps; tree = p.tree; found = findings_from p.found.items }

-- what it gives
abbrev pub given : Operand → Option definition.Typing
given a = given_as a.of a.caps a.tree
