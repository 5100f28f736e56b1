-- What typing the condition of a policy comes to.
use Rattle.std.specs.Prelude.{◌≡◌, ⊤, nat_lt, List, [], Option, Some, None, IsSome, IsTrue, if◌then◌else◌}
use Rattle.schema_types.specs.declared.kinds.Primitive.TheVariants.{Bool as BoolType}
use Rattle.schema_types.specs.Ty.{Ty, true_type, false_type, primitive}
use Rattle.schema_core.specs.Schema.{SchemaData}
use Rattle.schema_core.specs.EnvData.{EnvData, action_type_in}
use Rattle.policy_expressions.specs.Tree.{depth_of}
use Rattle.policy_expressions.specs.Plain.{Plain}
use Rattle.typing_spec.specs.Typing.{Typed, Typing, types}
use Rattle.findings.specs.Finding.{Finding}
use Rattle.typecheck_rules.specs.Names.{has_known_names}
use Rattle.typecheck_rules.specs.Expected.{a_boolean}
use Rattle.typecheck_rules.specs.Walked as walk
use Rattle.typecheck_rules.specs.Walked.{Walked, findings_of, expect}
use Rattle.typecheck_rules.specs.Operators.{place}
use Rattle.typecheck_rules.specs.Walk.{walked}

pub data Check : Type 0 where
  -- it may be true
  Success : Typed → Check
  -- it is false on each request of the environment
  Irrelevant : Typed → Check
  -- it has no type, or nests too deep to be typed
  Fail : List Finding → Check
  TooDeep : Check

-- by its type, and the findings where that is none of a condition
abbrev pub check_of : Ty → Typed → List Finding → Check
check_of true_type t fs = Success t
check_of false_type t fs = Irrelevant t
check_of (primitive BoolType) t fs = Success t
check_of u t fs = Fail fs

abbrev pub check_by : Option Typing → List Finding → Check
check_by None fs = Fail fs
check_by (Some a) fs = check_of a.type a.tree fs

-- a condition has to be a boolean
abbrev pub condition_walked : SchemaData → EnvData → Plain → Walked
condition_walked schema env e = expect a_boolean (place e) (walked schema env [] e)

abbrev pub check_walked : Walked → Check
check_walked (walk.Success a) = check_of a.type a.tree []
check_walked (walk.Fail t fs) = Fail fs

abbrev pub checked : SchemaData → EnvData → Plain → Check
checked schema env e =
    if nat_lt 200 (depth_of e) then TooDeep else check_walked (condition_walked schema env e)

-- a condition that is not too deep succeeds where it is typed True or Bool, is irrelevant where it is typed
-- False, and fails elsewhere
abbrev pub CheckIsExact : Type 0
CheckIsExact =
    (schema : SchemaData) (env : EnvData) (e : Plain) →
    checked schema env e ≡ (if nat_lt 200 (depth_of e) then TooDeep
    else check_by (types schema env [] e) (findings_of (condition_walked schema env e)))

-- a check that fails says why
abbrev pub SaysWhy : Check → Type 0
SaysWhy (Fail []) = ⊥
SaysWhy c = ⊤

-- where each name is known and the environment's action is declared, every check that fails says why
abbrev pub RefusalIsReported : Type 0
RefusalIsReported = (schema : SchemaData) (env : EnvData) → IsSome (action_type_in schema env) →
    (e : Plain) → IsTrue (has_known_names schema e) → SaysWhy (checked schema env e)
