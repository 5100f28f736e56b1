-- Checks in code.
use Rattle.std.specs.Prelude.{Bool, true, false, List, []}
use Rattle.findings.specs.declared.error.ValidationError.{ValidationError}
use Rattle.typecheck_walk.specs.declared.policy_check.PolicyCheck.{PolicyCheck}
use Rattle.typecheck_walk.specs.declared.policy_check.PolicyCheck.TheVariants.{Irrelevant, Fail}
use Rattle.policy_typecheck.specs.declared.verdict.Verdict.{Verdict}
use Rattle.policy_typecheck.specs.declared.verdict.Verdict.TheVariants.{Never, May}

abbrev pub has_passed : PolicyCheck → Bool
has_passed (Fail es) = false
has_passed r = true

abbrev pub is_false : PolicyCheck → Bool
is_false (Irrelevant t) = true
is_false r = false

abbrev pub errors_in : PolicyCheck → List ValidationError
errors_in (Fail es) = es.items
errors_in r = []

abbrev pub verdict_reported : PolicyCheck → Verdict
verdict_reported (Irrelevant t) = Never
verdict_reported r = May
