-- What the checks of conditions answer in code, as the definitions' answers.
use Rattle.std.specs.Prelude.{◌≡◌, ℕ, List, [], ◌∷◌, None, map}
use Rattle.schema_core.specs.Schema.{SchemaData}
use Rattle.schema_core.specs.RequestEnvs.{env_data_of}
use Rattle.schema_core.specs.declared.request_env.RequestEnv.{RequestEnv}
use Rattle.policy_expressions.specs.Plain.{Plain}
use Rattle.findings.specs.Seen.{error_of}
use Rattle.findings.specs.declared.error.ValidationError.{ValidationError}
use Rattle.findings.specs.declared.error.ValidationError.TheVariants as error
use Rattle.typecheck_rules.specs.Check.{Check, checked}
use Rattle.typecheck_rules.specs.Check as definition
use Rattle.typecheck_walk.specs.declared.policy_check.PolicyCheck.{PolicyCheck}
use Rattle.typecheck_walk.specs.declared.policy_check.PolicyCheck.TheVariants.{Success, Irrelevant, Fail}

-- that the condition of the policy is too deep
abbrev pub too_deep : List ℕ → ValidationError
too_deep id = error.TooDeep (record { source_loc = None; policy_id = id })

-- the errors of the policy that a check says
abbrev pub errors_of : List ℕ → Check → List ValidationError
errors_of id (definition.Success t) = []
errors_of id (definition.Irrelevant t) = []
errors_of id (definition.Fail fs) = map (error_of id) fs
errors_of id definition.TooDeep = too_deep id ∷ []

-- the answer for the policy is the definitions' answer
abbrev pub Reports : List ℕ → Check → PolicyCheck → Type 0
Reports id (definition.Success t) (Success u) = u ≡ t
Reports id (definition.Irrelevant t) (Irrelevant u) = u ≡ t
Reports id (definition.Fail fs) (Fail es) = es.items ≡ errors_of id (definition.Fail fs)
Reports id definition.TooDeep (Fail es) = es.items ≡ errors_of id definition.TooDeep
Reports id c r = ⊥

-- in the environment beside it
abbrev pub SaysIn : SchemaData → List ℕ → Plain → RequestEnv × PolicyCheck → Type 0
SaysIn schema id x r = Reports id (checked schema (env_data_of r.0) x) r.1
