-- How it is written that a request or a store does not conform.
use Rattle.std.specs.Prelude.{ℕ, List, [], ◌∷◌, ◌++◌, Option, Some, None, codes}
use Rattle.policy_values.specs.declared.entity_uid.EntityUID.{EntityUID}
use Rattle.policy_values.specs.Show.{uid_text}
use Rattle.policy_values.specs.Value.{rec}
use Rattle.findings.specs.Texts.{enum_entity_text, enum_help}
use Rattle.finding_messages.specs.Written.{help_line}
use Rattle.conformance.specs.ValueText.{value_text}
use Rattle.conformance.specs.RuleText.{rule_text}
use Rattle.conformance.specs.declared.store_rule.EntityDoesNotConform.{EntityDoesNotConform}
use Rattle.conformance.specs.declared.request_error.RequestValidationError.{RequestValidationError}
use Rattle.conformance.specs.declared.request_error.RequestValidationError.TheVariants.{UndeclaredAction, UndeclaredPrincipalType, UndeclaredResourceType, InvalidPrincipalType, InvalidResourceType, InvalidEnumEntity, InvalidContext, TypeOfContext, OutOfMemory}

abbrev pub id_text : EntityUID → List ℕ
id_text uid = uid_text uid.entity_type uid.eid

-- which rule the request breaks
abbrev pub request_message : RequestValidationError → List ℕ
request_message (UndeclaredAction e) =
    codes "request's action `" ++ (id_text e.action ++ codes "` is not declared in the schema")
request_message (UndeclaredPrincipalType e) =
    codes "principal type `" ++ (e.principal_ty ++ codes "` is not declared in the schema")
request_message (UndeclaredResourceType e) =
    codes "resource type `" ++ (e.resource_ty ++ codes "` is not declared in the schema")
request_message (InvalidPrincipalType e) = codes "principal type `" ++ (e.principal_ty ++
    (codes "` is not valid for `" ++ (id_text e.action ++ codes "`")))
request_message (InvalidResourceType e) = codes "resource type `" ++ (e.resource_ty ++
    (codes "` is not valid for `" ++ (id_text e.action ++ codes "`")))
request_message (InvalidEnumEntity e) = enum_entity_text e.uid
request_message (InvalidContext e) = codes "context `" ++ (value_text (rec e.context) ++
    (codes "` is not valid for `" ++ (id_text e.action ++ codes "`")))
request_message (TypeOfContext function) =
    codes "context is not valid: extension function `" ++ (function ++ codes "` does not exist")
request_message OutOfMemory = codes "out of memory"

-- the types behind the first, each in backticks behind a comma
abbrev pub further_types : List (List ℕ) → List ℕ
further_types [] = []
further_types (ty ∷ types) = codes ", `" ++ (ty ++ (codes "`" ++ further_types types))

-- the types of principals, or of resources, to which the action applies
abbrev pub valid_types : List ℕ → EntityUID → List (List ℕ) → List ℕ
valid_types side action [] =
    codes "no " ++ (side ++ (codes " types are valid for `" ++ (id_text action ++ codes "`")))
valid_types side action (ty ∷ types) = codes "valid " ++
    (side ++ (codes " types for `" ++ (id_text action ++ (codes "`: `" ++ (ty ++ codes "`"))))) ++
    further_types types

abbrev pub request_help : RequestValidationError → Option (List ℕ)
request_help (InvalidPrincipalType e) = Some (valid_types (codes "principal") e.action e.valid_principal_tys)
request_help (InvalidResourceType e) = Some (valid_types (codes "resource") e.action e.valid_resource_tys)
request_help (InvalidEnumEntity e) = Some (enum_help e.choices)
request_help e = None

-- the rule that the request breaks, and what may help
abbrev pub request_text : RequestValidationError → List ℕ
request_text e = codes "request: " ++ (request_message e ++ (codes "\n" ++ help_line (request_help e)))

-- the entity, and the rule that it breaks
abbrev pub entity_text : EntityDoesNotConform → List ℕ
entity_text e = codes "entity: " ++ (id_text e.uid ++ (codes ": " ++ (rule_text e.rule ++ codes "\n")))
