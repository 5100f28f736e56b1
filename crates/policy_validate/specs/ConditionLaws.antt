-- What checks leave of accepted policies.
use Rattle.std.specs.Prelude.{◌≡◌, ℕ, List, [], ◌∷◌, Some}
use Rattle.std.specs.List.{AllByRecursion}
use Rattle.policy_set.specs.Data.{PolicyData}
use Rattle.policy_set.specs.PolicySet.{PolicySetData, IsPolicySet, policy_at}
use Rattle.schema_core.specs.EnvData.{EnvData}
use Rattle.schema_core.specs.Schema.{SchemaData}
use Rattle.link_spec.specs.Accepted.{IsTyped}
use Rattle.policy_validate.specs.Accepted.{IsAccepted}
use Rattle.policy_validate.specs.Typed.{typed_conditions}
use Rattle.policy_validate.specs.Found.{found_conditions}

-- of accepted policies, where each has a type in the environment, the conditions that checks leave are those
-- that typing gives
abbrev pub FoundAreTyped : Type 0
FoundAreTyped =
    (schema : SchemaData) (s : PolicySetData) → IsPolicySet s → IsAccepted schema s →
    (env : EnvData) → AllByRecursion (λ p. IsTyped schema p.condition env) s.policies →
    found_conditions schema env s.policies ≡ typed_conditions schema env s.policies

-- so is the condition that a check leaves of one of them
abbrev pub EachFoundIsTyped : Type 0
EachFoundIsTyped =
    (schema : SchemaData) (s : PolicySetData) → IsPolicySet s → IsAccepted schema s →
    (id : List ℕ) (p : PolicyData) → policy_at s id ≡ Some p →
    (env : EnvData) → AllByRecursion (λ q. IsTyped schema q.condition env) s.policies →
    found_conditions schema env (p ∷ []) ≡ typed_conditions schema env (p ∷ [])
