-- A record literal of which a field is asked for, field by field.
use Rattle.std.specs.Prelude.{ℕ, List, Option, Some, None}
use Rattle.policy_values.specs.declared.entity_uid.EntityUID.{EntityUID}
use Rattle.schema_types.specs.Ty.{Ty}
use Rattle.policy_expressions.specs.declared.kinds.Loc.{Loc}
use Rattle.policy_expressions.specs.Tree.{Named, Mark}
use Rattle.level_spec.specs.Levels.{level_under}
use Rattle.level_spec.specs.Findings.{LevelFault, faults_named, named_targets}

-- the level, where the field was reached, or else of what is left
abbrev pub left_level : Option EntityUID → Option (Option ℕ) → Named (Mark (Option Ty)) → List (List ℕ) → Option ℕ
left_level action (Some o) xs fs = o
left_level action None xs fs = level_under action xs fs

-- what is found in what is left
abbrev pub left_targets : Option EntityUID → ℕ → Option Loc → Option (Option ℕ) → Named (Mark (Option Ty)) → List (List ℕ) → List LevelFault
left_targets action n l (Some o) xs fs = faults_named action n xs
left_targets action n l None xs fs = named_targets action n l xs fs
