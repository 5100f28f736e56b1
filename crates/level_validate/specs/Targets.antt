-- What is found in targets of dereferences, by the setting of the walk: for the code and its proofs.
use Rattle.std.specs.Prelude.{ℕ, List, Option, if◌then◌else◌}
use Rattle.std.specs.Option.{option_copied}
use Rattle.schema_types.specs.Ty.{Ty}
use Rattle.policy_expressions.specs.declared.kinds.Loc.{Loc}
use Rattle.policy_expressions.specs.Tree.{Named, Mark}
use Rattle.typing_spec.specs.Typing.{Typed}
use Rattle.level_spec.specs.Levels.{is_reached}
use Rattle.level_spec.specs.Findings.{LevelFault, level_faults, target_faults, named_targets}
use Rattle.level_validate.specs.declared.walk.Checked.{Checked}

-- what is found in a target, of whose value these fields are asked for
abbrev pub target_faults_at : Checked → Typed → List (List ℕ) → List LevelFault
target_faults_at c e fs = target_faults (option_copied c.action) c.max_level e fs

-- what is found in a branch of a target: one that is not reached is walked as all else
abbrev pub branch_faults_at : Checked → Typed → List (List ℕ) → List LevelFault
branch_faults_at c e fs =
    if is_reached e then target_faults_at c e fs else level_faults (option_copied c.action) c.max_level e

-- what is found in a record literal that is a target: fields that are not asked for are walked as all else
abbrev pub named_targets_at :
    Checked → Option Loc → Named (Mark (Option Ty)) → List (List ℕ) → List LevelFault
named_targets_at c l xs fs = named_targets (option_copied c.action) c.max_level l xs fs
