-- What checks say, one after another.
use Rattle.std.specs.Prelude.{ℕ, ◌&&◌, List, fold}
use Rattle.schema_core.specs.EnvData.{EnvData}
use Rattle.schema_core.specs.Schema.{SchemaData}
use Rattle.policy_set.specs.Data.{TemplateData}
use Rattle.policy_set.specs.Condition.{condition_of}
use Rattle.findings.specs.declared.error.ValidationError.{ValidationError}
use Rattle.typecheck_rules.specs.Check.{Check, checked}
use Rattle.policy_typecheck.specs.declared.policies.Summary.{Summary}
use Rattle.policy_typecheck.specs.Added.{all_added, same_error}
use Rattle.typecheck_walk.specs.Answer.{errors_of}
use Rattle.typecheck_walk.specs.declared.policy_check.PolicyCheck.{PolicyCheck}
use Rattle.policy_typecheck.specs.Checks.{has_passed, is_false, errors_in}
use Rattle.policy_typecheck.specs.Policies.{passes, is_irrelevant}

-- what the checks so far come to, and the errors so far
abbrev pub Reported : Type 0
Reported = Summary × List ValidationError

-- one check more, in code and by the definitions
abbrev pub reported_by : PolicyCheck → Reported → Reported
reported_by r s = (
  record { accepted = has_passed r && s.0.accepted; impossible = is_false r && s.0.impossible },
  all_added same_error s.1 (errors_in r),
)

abbrev pub reported : List ℕ → Check → Reported → Reported
reported id c s = (
  record { accepted = passes c && s.0.accepted; impossible = is_irrelevant c && s.0.impossible },
  all_added same_error s.1 (errors_of id c),
)

-- the checks in environments, one after another
abbrev pub all_reported : List ℕ → (EnvData → Check) → Reported → List EnvData → Reported
all_reported id check s envs = fold (λ s env. reported id (check env) s) s envs

-- the check of a template's condition
abbrev pub condition_check : SchemaData → TemplateData → EnvData → Check
condition_check schema t env = checked schema env (condition_of t)
