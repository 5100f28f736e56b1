-- What holds of the walk.
use Rattle.std.specs.Prelude.{◌≡◌, ⊤, List, [], ◌∷◌, Option, Some, None, IsSome, IsTrue, IfSome, Contains}
use Rattle.schema_core.specs.Schema.{SchemaData}
use Rattle.schema_core.specs.EnvData.{EnvData, action_type_in}
use Rattle.policy_expressions.specs.Plain.{Plain}
use Rattle.typing_spec.specs.Capability.{Capability}
use Rattle.typing_spec.specs.Typing.{Typing, types}
use Rattle.findings.specs.Finding.{Finding}
use Rattle.typecheck_rules.specs.Names.{has_known_names}
use Rattle.typecheck_rules.specs.Walked.{Walked, typing_of, findings_of}
use Rattle.typecheck_rules.specs.Walk.{walked}
use Rattle.typecheck_rules.specs.Faults.{faults}

-- the walk gives the typing, where there is one, and says each fault
pub record WalkAgrees (w : Walked) (t : Option Typing) (fs : List Finding) : Type 0 where
  pub exact : typing_of w ≡ t
  pub reported : (f : Finding) → Contains fs f → Contains (findings_of w) f

abbrev pub WalkIsExact : Type 0
WalkIsExact = (schema : SchemaData) (env : EnvData) (cs : List Capability) (e : Plain) →
    WalkAgrees (walked schema env cs e) (types schema env cs e) (faults schema env cs e)

-- an expression that has a type has no faults
abbrev pub TypedHasNoFaults : Type 0
TypedHasNoFaults = (schema : SchemaData) (env : EnvData) (cs : List Capability) (e : Plain) →
    IfSome (types schema env cs e) (λ a. faults schema env cs e ≡ [])

-- there is a typing or a finding
abbrev pub HasTypingOrFinding : Option Typing → List Finding → Type 0
HasTypingOrFinding (Some a) fs = ⊤
HasTypingOrFinding None [] = ⊥
HasTypingOrFinding None (f ∷ fs) = ⊤

-- where each name is known and the environment's action is declared, an expression without a type has
-- a finding
abbrev pub FailureIsReported : Type 0
FailureIsReported =
    (schema : SchemaData) (env : EnvData) → IsSome (action_type_in schema env) →
    (cs : List Capability) (e : Plain) → IsTrue (has_known_names schema e) →
    HasTypingOrFinding (types schema env cs e) (findings_of (walked schema env cs e))
