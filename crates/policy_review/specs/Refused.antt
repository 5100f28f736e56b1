-- Why there is no review.
use Rattle.std.specs.Prelude.{◌≡◌, ⊤}
use Rattle.schema_core.specs.Schema.{SchemaData}
use Rattle.policy_set.specs.PolicySet.{PolicySetData}
use Rattle.policy_validate.specs.Accepted.{findings_of, IsAccepted}
use Rattle.policy_review.specs.declared.error.ReviewError.{ReviewError}
use Rattle.policy_review.specs.declared.error.ReviewError.TheVariants.{Validation, OutOfMemory}

-- the policies are not accepted, for what was found; or there is no memory
abbrev pub WhyNone : SchemaData → PolicySetData → ReviewError → Type 0
WhyNone schema s (Validation found) = (found ≡ findings_of schema s) × ¬ IsAccepted schema s
WhyNone schema s OutOfMemory = ⊤
