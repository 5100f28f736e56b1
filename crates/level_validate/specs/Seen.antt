-- A set of what was found.
use Rattle.std.specs.Prelude.{◌≡◌, ℕ, List, Option}
use Rattle.std.specs.BTreeSet.{BTreeSet, contains}
use Rattle.policy_values.specs.Reaches.{has}
use Rattle.policy_expressions.specs.declared.kinds.Loc.{Loc}
use Rattle.level_spec.specs.Findings.{LevelFault}
use Rattle.level_validate.specs.Faults.{parts_of, parts_cmp, fault_cmp}

-- the set has what the list has
abbrev pub HasSeen : BTreeSet (Option ℕ × Option Loc) → List LevelFault → Type 0
HasSeen seen found = (f : LevelFault) → has fault_cmp found f ≡ contains parts_cmp seen (parts_of f)
