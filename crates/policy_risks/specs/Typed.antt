-- Conditions that have a type, and what is assumed to be stored.
use Rattle.std.specs.Prelude.{◌≡◌, List, [], ◌∷◌, IsSomeAnd, IsTrue}
use Rattle.schema_core.specs.EnvData.{EnvData}
use Rattle.schema_core.specs.Schema.{SchemaData}
use Rattle.policy_expressions.specs.Plain.{Plain}
use Rattle.typing_spec.specs.Operands.{is_boolean}
use Rattle.typing_spec.specs.Typing.{Typed, types}
use Rattle.policy_risks.specs.declared.endings.Assumed.{Assumed}
use Rattle.policy_risks.specs.declared.endings.Assumed.TheVariants.{Nothing, PrincipalAndResource}

-- the condition is a boolean in the environment, and this is what it is typed as
abbrev pub IsTypedAs : SchemaData → EnvData → Plain → Typed → Type 0
IsTypedAs schema env e t =
    IsSomeAnd (types schema env [] e) (λ x. IsTrue (is_boolean x.type) × (x.tree ≡ t))

-- the expressions whose entities are assumed to be stored, of the principal and the resource
abbrev pub stored_by : Assumed → Typed → Typed → List Typed
stored_by Nothing p r = []
stored_by PrincipalAndResource p r = p ∷ r ∷ []
