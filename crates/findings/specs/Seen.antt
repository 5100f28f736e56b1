-- Findings on expressions as errors of a policy, and back.
use Rattle.std.specs.Prelude.{ℕ, List, Option}
use Rattle.policy_expressions.specs.declared.kinds.Loc.{Loc}
use Rattle.findings.specs.Finding as plain
use Rattle.findings.specs.Finding.{Kind, Finding}
use Rattle.findings.specs.declared.typing.UnexpectedType.{UnexpectedType}
use Rattle.findings.specs.declared.typing.IncompatibleTypes.{IncompatibleTypes}
use Rattle.findings.specs.declared.typing.UnsafeAttributeAccess.{UnsafeAttributeAccess}
use Rattle.findings.specs.declared.typing.UnsafeOptionalAttributeAccess.{UnsafeOptionalAttributeAccess}
use Rattle.findings.specs.declared.typing.UnsafeTagAccess.{UnsafeTagAccess}
use Rattle.findings.specs.declared.typing.NoTagsAllowed.{NoTagsAllowed}
use Rattle.findings.specs.declared.typing.UndefinedFunction.{UndefinedFunction}
use Rattle.findings.specs.declared.typing.WrongNumberArguments.{WrongNumberArguments}
use Rattle.findings.specs.declared.typing.FunctionArgumentValidation.{FunctionArgumentValidation}
use Rattle.findings.specs.declared.error.ValidationError.{ValidationError}
use Rattle.findings.specs.declared.error.ValidationError.TheVariants as error

-- what each error says
abbrev pub unexpected_type : UnexpectedType → Kind
unexpected_type e = plain.UnexpectedType e.expected e.actual e.help

abbrev pub incompatible_types : IncompatibleTypes → Kind
incompatible_types e = plain.IncompatibleTypes e.types e.hint e.context

abbrev pub unsafe_attribute_access : UnsafeAttributeAccess → Kind
unsafe_attribute_access e = plain.UnsafeAttributeAccess e.attribute_access e.may_exist

abbrev pub unsafe_optional_attribute_access : UnsafeOptionalAttributeAccess → Kind
unsafe_optional_attribute_access e = plain.UnsafeOptionalAttributeAccess e.attribute_access

abbrev pub unsafe_tag_access : UnsafeTagAccess → Kind
unsafe_tag_access e = plain.UnsafeTagAccess e.entity_ty e.tag

abbrev pub no_tags_allowed : NoTagsAllowed → Kind
no_tags_allowed e = plain.NoTagsAllowed e.entity_ty

abbrev pub undefined_function : UndefinedFunction → Kind
undefined_function e = plain.UndefinedFunction e.name

abbrev pub wrong_number_arguments : WrongNumberArguments → Kind
wrong_number_arguments e = plain.WrongNumberArguments e.expected e.actual

abbrev pub function_argument_validation : FunctionArgumentValidation → Kind
function_argument_validation e = plain.FunctionArgumentValidation e.msg

-- the error of a policy at a place that says this
abbrev pub error_at : List ℕ → Option Loc → Kind → ValidationError
error_at policy loc (plain.UnexpectedType expected actual help) = error.UnexpectedType
    (record { source_loc = loc; policy_id = policy; expected = expected; actual = actual; help = help })
error_at policy loc (plain.IncompatibleTypes types hint context) = error.IncompatibleTypes
    (record { source_loc = loc; policy_id = policy; types = types; hint = hint; context = context })
error_at policy loc (plain.UnsafeAttributeAccess reached may_exist) = error.UnsafeAttributeAccess
    (record { source_loc = loc; policy_id = policy; attribute_access = reached; may_exist = may_exist })
error_at policy loc (plain.UnsafeOptionalAttributeAccess reached) = error.UnsafeOptionalAttributeAccess
    (record { source_loc = loc; policy_id = policy; attribute_access = reached })
error_at policy loc (plain.UnsafeTagAccess types tag) =
    error.UnsafeTagAccess (record { source_loc = loc; policy_id = policy; entity_ty = types; tag = tag })
error_at policy loc (plain.NoTagsAllowed type) =
    error.NoTagsAllowed (record { source_loc = loc; policy_id = policy; entity_ty = type })
error_at policy loc (plain.UndefinedFunction name) =
    error.UndefinedFunction (record { source_loc = loc; policy_id = policy; name = name })
error_at policy loc (plain.WrongNumberArguments expected actual) = error.WrongNumberArguments
    (record { source_loc = loc; policy_id = policy; expected = expected; actual = actual })
error_at policy loc (plain.FunctionArgumentValidation text) =
    error.FunctionArgumentValidation (record { source_loc = loc; policy_id = policy; msg = text })
error_at policy loc plain.EmptySetForbidden =
    error.EmptySetForbidden (record { source_loc = loc; policy_id = policy })
error_at policy loc plain.NonLitExtConstructor =
    error.NonLitExtConstructor (record { source_loc = loc; policy_id = policy })

-- the finding as an error of the policy
abbrev pub error_of : List ℕ → Finding → ValidationError
error_of policy found = error_at policy found.loc found.kind
