-- Errors and warnings: of which policy, of which kind, where, and what each says.
use Rattle.std.specs.Prelude.{ℕ, List, Option, Some, None, option_map, codes}
use Rattle.policy_expressions.specs.declared.kinds.Loc.{Loc}
use Rattle.findings.specs.Finding as plain
use Rattle.findings.specs.Texts.{message, help, kind_text, entity_type_message, action_id_message, action_hint_text, enum_message, enum_help, application_message, in_help, violation_message, too_deep_message, impossible_message}
use Rattle.findings.specs.Seen.{unexpected_type, incompatible_types, unsafe_attribute_access, unsafe_optional_attribute_access, unsafe_tag_access, no_tags_allowed, undefined_function, wrong_number_arguments, function_argument_validation}
use Rattle.findings.specs.declared.rules.UnrecognizedActionIdHelp.{UnrecognizedActionIdHelp}
use Rattle.findings.specs.declared.rules.UnrecognizedActionIdHelp.TheVariants.{AvoidActionTypeInActionId}
use Rattle.findings.specs.declared.error.ValidationError.{ValidationError}
use Rattle.findings.specs.declared.error.ValidationError.TheVariants as error
use Rattle.findings.specs.declared.error.ValidationWarning.{ValidationWarning}
use Rattle.findings.specs.declared.error.ValidationWarning.TheVariants as warning

abbrev pub hint_text : UnrecognizedActionIdHelp → List ℕ
hint_text (AvoidActionTypeInActionId uid) = action_hint_text uid

abbrev pub error_message : ValidationError → List ℕ
error_message (error.UnrecognizedEntityType e) = entity_type_message e.policy_id e.actual_entity_type
error_message (error.UnrecognizedActionId e) = action_id_message e.policy_id e.actual_action_id
error_message (error.InvalidEnumEntity e) = enum_message e.policy_id e.err.uid
error_message (error.InvalidActionApplication e) = application_message e.policy_id
error_message (error.UnexpectedType e) = message e.policy_id (unexpected_type e)
error_message (error.IncompatibleTypes e) = message e.policy_id (incompatible_types e)
error_message (error.UnsafeAttributeAccess e) = message e.policy_id (unsafe_attribute_access e)
error_message (error.UnsafeOptionalAttributeAccess e) =
    message e.policy_id (unsafe_optional_attribute_access e)
error_message (error.UnsafeTagAccess e) = message e.policy_id (unsafe_tag_access e)
error_message (error.NoTagsAllowed e) = message e.policy_id (no_tags_allowed e)
error_message (error.UndefinedFunction e) = message e.policy_id (undefined_function e)
error_message (error.WrongNumberArguments e) = message e.policy_id (wrong_number_arguments e)
error_message (error.FunctionArgumentValidation e) = message e.policy_id (function_argument_validation e)
error_message (error.EntityDerefLevelViolation e) = violation_message e.policy_id e.violation_kind
error_message (error.EmptySetForbidden e) = message e.policy_id plain.EmptySetForbidden
error_message (error.NonLitExtConstructor e) = message e.policy_id plain.NonLitExtConstructor
error_message (error.TooDeep e) = too_deep_message e.policy_id

abbrev pub error_help : ValidationError → Option (List ℕ)
error_help (error.UnrecognizedEntityType e) = None
error_help (error.UnrecognizedActionId e) = option_map hint_text e.hint
error_help (error.InvalidEnumEntity e) = Some (enum_help e.err.choices)
error_help (error.InvalidActionApplication e) = in_help e.would_in_fix_principal e.would_in_fix_resource
error_help (error.UnexpectedType e) = help e.policy_id (unexpected_type e)
error_help (error.IncompatibleTypes e) = help e.policy_id (incompatible_types e)
error_help (error.UnsafeAttributeAccess e) = help e.policy_id (unsafe_attribute_access e)
error_help (error.UnsafeOptionalAttributeAccess e) = help e.policy_id (unsafe_optional_attribute_access e)
error_help (error.UnsafeTagAccess e) = help e.policy_id (unsafe_tag_access e)
error_help (error.NoTagsAllowed e) = None
error_help (error.UndefinedFunction e) = None
error_help (error.WrongNumberArguments e) = None
error_help (error.FunctionArgumentValidation e) = None
error_help (error.EntityDerefLevelViolation e) = None
error_help (error.EmptySetForbidden e) = None
error_help (error.NonLitExtConstructor e) = help e.policy_id plain.NonLitExtConstructor
error_help (error.TooDeep e) = None

abbrev pub error_place : ValidationError → Option Loc
error_place (error.UnrecognizedEntityType e) = e.source_loc
error_place (error.UnrecognizedActionId e) = e.source_loc
error_place (error.InvalidEnumEntity e) = e.source_loc
error_place (error.InvalidActionApplication e) = e.source_loc
error_place (error.UnexpectedType e) = e.source_loc
error_place (error.IncompatibleTypes e) = e.source_loc
error_place (error.UnsafeAttributeAccess e) = e.source_loc
error_place (error.UnsafeOptionalAttributeAccess e) = e.source_loc
error_place (error.UnsafeTagAccess e) = e.source_loc
error_place (error.NoTagsAllowed e) = e.source_loc
error_place (error.UndefinedFunction e) = e.source_loc
error_place (error.WrongNumberArguments e) = e.source_loc
error_place (error.FunctionArgumentValidation e) = e.source_loc
error_place (error.EntityDerefLevelViolation e) = e.source_loc
error_place (error.EmptySetForbidden e) = e.source_loc
error_place (error.NonLitExtConstructor e) = e.source_loc
error_place (error.TooDeep e) = e.source_loc

-- what kind of error it is
abbrev pub error_kind : ValidationError → List ℕ
error_kind (error.UnrecognizedEntityType e) = codes "UnrecognizedEntityType"
error_kind (error.UnrecognizedActionId e) = codes "UnrecognizedActionId"
error_kind (error.InvalidEnumEntity e) = codes "InvalidEnumEntity"
error_kind (error.InvalidActionApplication e) = codes "InvalidActionApplication"
error_kind (error.UnexpectedType e) = kind_text (unexpected_type e)
error_kind (error.IncompatibleTypes e) = kind_text (incompatible_types e)
error_kind (error.UnsafeAttributeAccess e) = kind_text (unsafe_attribute_access e)
error_kind (error.UnsafeOptionalAttributeAccess e) = kind_text (unsafe_optional_attribute_access e)
error_kind (error.UnsafeTagAccess e) = kind_text (unsafe_tag_access e)
error_kind (error.NoTagsAllowed e) = kind_text (no_tags_allowed e)
error_kind (error.UndefinedFunction e) = kind_text (undefined_function e)
error_kind (error.WrongNumberArguments e) = kind_text (wrong_number_arguments e)
error_kind (error.FunctionArgumentValidation e) = kind_text (function_argument_validation e)
error_kind (error.EntityDerefLevelViolation e) = codes "EntityDerefLevelViolation"
error_kind (error.EmptySetForbidden e) = kind_text plain.EmptySetForbidden
error_kind (error.NonLitExtConstructor e) = kind_text plain.NonLitExtConstructor
error_kind (error.TooDeep e) = codes "TooDeep"

abbrev pub warning_message : ValidationWarning → List ℕ
warning_message (warning.ImpossiblePolicy w) = impossible_message w.policy_id

abbrev pub warning_place : ValidationWarning → Option Loc
warning_place (warning.ImpossiblePolicy w) = w.source_loc

-- what kind of warning it is
abbrev pub warning_kind : ValidationWarning → List ℕ
warning_kind (warning.ImpossiblePolicy w) = codes "ImpossiblePolicy"
