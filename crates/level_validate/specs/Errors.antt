-- What is found in conditions, as errors of a policy that is checked for a level.
use Rattle.std.specs.Prelude.{◌≡◌, ◌↔◌, ℕ, ◌+◌, nat_lt, true, false, List, [], Option, Some, None, map}
use Rattle.std.specs.List.{AllByRecursion, flat_map}
use Rattle.findings.specs.declared.error.ValidationError.{ValidationError}
use Rattle.findings.specs.declared.error.ValidationError.TheVariants.{EntityDerefLevelViolation}
use Rattle.findings.specs.declared.level.EntityDerefViolationKind.{EntityDerefViolationKind}
use Rattle.findings.specs.declared.level.EntityDerefViolationKind.TheVariants.{MaximumLevelExceeded, LiteralDerefTarget}
use Rattle.policy_expressions.specs.declared.kinds.Loc.{Loc}
use Rattle.schema_core.specs.EnvData.{action_in}
use Rattle.schema_core.specs.RequestEnvs.{env_data_of}
use Rattle.schema_core.specs.declared.request_env.RequestEnv.{RequestEnv}
use Rattle.policy_values.specs.declared.entity_uid.EntityUID.{EntityUID}
use Rattle.policy_scope.specs.Names.{distinct}
use Rattle.typing_spec.specs.Typing.{Typed}
use Rattle.level_spec.specs.Levels.{dereferences, passes}
use Rattle.level_validate.specs.Faults.{fault_cmp}
use Rattle.level_spec.specs.Findings.{LevelFault, needs_level, literal_target, level_faults, IsIn}

-- the level that is allowed, and the one that is needed
abbrev pub kind_at : ℕ → LevelFault → EntityDerefViolationKind
kind_at n (needs_level k l) = MaximumLevelExceeded (record { level = n }) (record { level = k })
kind_at n (literal_target l) = LiteralDerefTarget

-- where it stands
abbrev pub place_of : LevelFault → Option Loc
place_of (needs_level k l) = l
place_of (literal_target l) = l

abbrev pub level_error : List ℕ → ℕ → LevelFault → ValidationError
level_error id n f = EntityDerefLevelViolation
    (record { source_loc = place_of f; policy_id = id; violation_kind = kind_at n f })

-- a typed condition, with the action of its environment, where it is known
abbrev pub Condition : Type 0
Condition = Option EntityUID × Typed

-- what is found in it, and the levels of the left operands of its dereferences
abbrev pub faults_in : ℕ → Condition → List LevelFault
faults_in n c = level_faults c.0 n c.1

abbrev pub dereferences_in : Condition → List (Option ℕ)
dereferences_in c = dereferences c.0 c.1

-- it passes at the level
abbrev pub PassesIn : ℕ → Condition → Type 0
PassesIn n c = passes c.0 n c.1 ≡ true

-- the errors of a policy by its conditions in several environments: what is found in one after another,
-- each once
abbrev pub level_errors_in : List ℕ → ℕ → List Condition → List ValidationError
level_errors_in id n cs = map (level_error id n) (distinct fault_cmp (flat_map (faults_in n) cs))

-- by the levels of the left operands of dereferences: the level that is needed is one more than one of these
-- that is not below the level allowed; and of a literal is reported only where one has no level
abbrev pub IsReportedBy : ℕ → List (Option ℕ) → EntityDerefViolationKind → Type 0
IsReportedBy n os (MaximumLevelExceeded allowed actual) =
    (allowed.level ≡ n) × ((k : ℕ) × (actual.level ≡ k + 1) × (nat_lt k n ≡ false) × IsIn (Some k) os)
IsReportedBy n os LiteralDerefTarget = IsIn None os

abbrev pub IsReportedOf : List ℕ → ℕ → List (Option ℕ) → ValidationError → Type 0
IsReportedOf id n os (EntityDerefLevelViolation e) = (e.policy_id ≡ id) × IsReportedBy n os e.violation_kind
IsReportedOf id n os e = ⊥

-- there is no error exactly where each condition passes, and each error says of a dereference
abbrev pub LevelErrorsAreExact : Type 0
LevelErrorsAreExact =
    (id : List ℕ) (n : ℕ) (cs : List Condition) →
    ((level_errors_in id n cs ≡ []) ↔ AllByRecursion (PassesIn n) cs) ×
    AllByRecursion (IsReportedOf id n (flat_map dereferences_in cs)) (level_errors_in id n cs)

-- a condition as code has it
abbrev pub condition_in : RequestEnv × Typed → Condition
condition_in c = (action_in (env_data_of c.0), c.1)
