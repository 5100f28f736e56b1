-- The rules of requests, and the first that a request breaks.
use Rattle.std.specs.Prelude.{◌≡◌, ℕ, Bool, true, false, List, Option, Some, None, is_some, IsSome, Result, MatchResult, option_map}
use Rattle.std.specs.Option.{option_or, option_and_then, option_map_or}
use Rattle.policy_values.specs.Reaches.{has}
use Rattle.policy_values.specs.declared.entity_uid.EntityUID.{EntityUID}
use Rattle.policy_values.specs.Uid.{text_cmp}
use Rattle.policy_values.specs.Value.{Fields, rec}
use Rattle.entity_store.specs.declared.request.Request.{Request}
use Rattle.schema_types.specs.declared.kinds.OpenTag.TheVariants.{ClosedAttributes}
use Rattle.schema_types.specs.Ty.{record_of}
use Rattle.schema_core.specs.Schema.{SchemaData, ActionData, type_at, action_at}
use Rattle.policy_scope.specs.Names.{choices_without}
use Rattle.conformance.specs.Ids.{unlisted_in_fields}
use Rattle.conformance.specs.Misfits.{name_of, misfit}
use Rattle.conformance.specs.declared.misfits.Constructor.{Constructor}
use Rattle.conformance.specs.declared.misfits.Misfit.{Misfit}
use Rattle.conformance.specs.declared.misfits.Misfit.TheVariants.{Lacks, Other}
use Rattle.conformance.specs.declared.request_error.RequestValidationError.{RequestValidationError}
use Rattle.conformance.specs.declared.request_error.RequestValidationError.TheVariants.{UndeclaredAction, UndeclaredPrincipalType, UndeclaredResourceType, InvalidPrincipalType, InvalidResourceType, InvalidEnumEntity, InvalidContext, TypeOfContext, OutOfMemory}

-- the fault, unless the rule is kept
abbrev pub unless : {F : Type 0} → Bool → F → Option F
unless true fault = None
unless false fault = Some fault

-- what is wrong with the context as a whole: it is not of the action's; or it holds a value whose function is
-- not there
abbrev pub context_error : ActionData → Fields → Misfit → RequestValidationError
context_error a fs (Lacks c) = TypeOfContext (name_of c)
context_error a fs Other = InvalidContext (record { context = fs; action = a.name })

module _ (schema : SchemaData) where
  -- an id of an enumerated type is listed
  abbrev pub listed_fault : EntityUID → Option RequestValidationError
  listed_fault u = option_map (λ choices. InvalidEnumEntity (record { uid = u; choices = choices }))
      (choices_without schema u)

  -- the principal's type is declared, and lists it
  abbrev pub principal_fault : EntityUID → Option RequestValidationError
  principal_fault p = option_or
      (unless (is_some (type_at schema p.entity_type))
      (UndeclaredPrincipalType (record { principal_ty = p.entity_type })))
      (listed_fault p)

  -- the resource's type is declared, and lists it
  abbrev pub resource_fault : EntityUID → Option RequestValidationError
  resource_fault r = option_or
      (unless (is_some (type_at schema r.entity_type))
      (UndeclaredResourceType (record { resource_ty = r.entity_type })))
      (listed_fault r)

-- the action applies to the principal's type
abbrev pub principal_type_fault : ActionData → EntityUID → Option RequestValidationError
principal_type_fault a p = unless (has text_cmp a.principals p.entity_type) (InvalidPrincipalType
    (record { principal_ty = p.entity_type; action = a.name; valid_principal_tys = a.principals }))

-- the action applies to the resource's type
abbrev pub resource_type_fault : ActionData → EntityUID → Option RequestValidationError
resource_type_fault a r = unless (has text_cmp a.resources r.entity_type) (InvalidResourceType
    (record { resource_ty = r.entity_type; action = a.name; valid_resource_tys = a.resources }))

module _ (schema : SchemaData) (is_there : Constructor → Bool) where
  -- the ids in the context are listed, and the context is of the action's
  abbrev pub context_fault : ActionData → Fields → Option RequestValidationError
  context_fault a fs = option_or (option_and_then (listed_fault schema) (unlisted_in_fields schema fs))
      (option_map (context_error a fs) (misfit is_there (record_of a.context ClosedAttributes) (rec fs)))

  -- the first rule that the request breaks with a declared action: of the principal, the resource,
  -- the context
  abbrev pub applied_fault : Request → ActionData → Option RequestValidationError
  applied_fault q a =
      option_or (option_and_then (principal_type_fault a) q.principal)
      (option_or (option_and_then (resource_type_fault a) q.resource)
      (option_and_then (context_fault a) q.context))

  -- the first rule that the request breaks with its action: it is declared, and applies
  abbrev pub action_fault : Request → EntityUID → Option RequestValidationError
  action_fault q uid = option_map_or (applied_fault q) (action_at schema uid)
      (Some (UndeclaredAction (record { action = uid })))

  -- the first rule that the request breaks. Entries that are not known break none
  abbrev pub first_request_fault : Request → Option RequestValidationError
  first_request_fault q =
      option_or (option_and_then (principal_fault schema) q.principal)
      (option_or (option_and_then (resource_fault schema) q.resource)
      (option_and_then (action_fault q) q.action))

-- the error is this fault. Memory is wanted only where there is a fault
abbrev pub IsRequestFault : Option RequestValidationError → RequestValidationError → Type 0
IsRequestFault fault OutOfMemory = IsSome fault
IsRequestFault fault error = fault ≡ Some error

-- what a test of the rules answers that finds this fault, or none
abbrev pub IsRequestAnswer : Option RequestValidationError → Result (Unit {0}) RequestValidationError → Type 0
IsRequestAnswer fault result = MatchResult result (λ _. fault ≡ None) (IsRequestFault fault)
