-- A request breaks no rule exactly where it conforms.
use Rattle.std.proofs.Common.{◌≡◌, ℕ, Bool, true, false, List, Option, Some, None, is_some, IsSome, IsSomeAnd, IsTrue, refl, sym, ap, ◌∙◌}
use Rattle.std.specs.Option.{option_or, option_map, option_map_or, option_and_then}
use Rattle.policy_values.specs.Reaches.{has}
use Rattle.policy_values.specs.declared.entity_uid.EntityUID.{EntityUID}
use Rattle.policy_values.specs.Uid.{text_cmp}
use Rattle.policy_values.specs.Value.{Fields, rec}
use Rattle.entity_store.specs.declared.request.Request.{Request}
use Rattle.entity_store.specs.Request.{IsWhole, known, principal_of, action_of, resource_of}
use Rattle.policy_core.specs.Eval.{known_fields}
use Rattle.schema_types.specs.declared.kinds.OpenTag.TheVariants.{ClosedAttributes}
use Rattle.schema_types.specs.Ty.{record_of}
use Rattle.schema_core.specs.Schema.{SchemaData, TypeData, ActionData, type_at, action_at}
use Rattle.policy_scope.specs.Names.{choices_in, others_listed}
use Rattle.typing_spec.specs.Conforms.{is_listed_in, lists_fields, HasAttributes, IdConforms, Applies, RequestConforms}
use Rattle.conformance.specs.Misfits.{misfit}
use Rattle.conformance.specs.RequestRules.{unless, context_error, listed_fault, principal_fault, resource_fault, principal_type_fault, resource_type_fault, context_fault, applied_fault, action_fault, first_request_fault}
use Rattle.conformance.specs.declared.request_error.RequestValidationError.{RequestValidationError}
use Rattle.conformance.specs.declared.request_error.RequestValidationError.TheVariants.{UndeclaredAction, InvalidEnumEntity}
use Rattle.conformance.specs.Ids.{unlisted_in_fields}
use Rattle.conformance.specs.Laws.{RequestRulesAreExact}
use Rattle.conformance.proofs.Options.{none_first, none_rest, neither, kept, keeps, none_inside}
use Rattle.conformance.proofs.Listed.{kind_lists, lists_kind, fields_listed, none_unlisted_fields, no_unlisted}
use Rattle.conformance.proofs.Members.{all_there, member_of, of_member}

-- an entry that is there
module _ {X : Type 0} (f : EntityUID → Option X) where
  of_known : (o : Option EntityUID) → IsSome o → option_and_then f o ≡ None → f (known o) ≡ None
  of_known None some h = absurd (cc some)
  of_known (Some u) some h = h

  known_of : (o : Option EntityUID) → IsSome o → f (known o) ≡ None → option_and_then f o ≡ None
  known_of None some h = absurd (cc some)
  known_of (Some u) some h = h

abbrev unlisted : EntityUID → List (List ℕ) → RequestValidationError
unlisted u choices = InvalidEnumEntity (record { uid = u; choices = choices })

module _ (schema : SchemaData) where
  -- an id is of a declared type that lists it
  module _ (u : EntityUID) (f : RequestValidationError) where
    id_conforms : option_or (unless (is_some (type_at schema u.entity_type)) f) (listed_fault schema u) ≡ None → IdConforms schema u
    id_conforms h = by (type_at schema u.entity_type) h
      where
        by : (o : Option TypeData) → option_or (unless (is_some o) f) (option_map (unlisted u) (option_and_then (others_listed u) (option_and_then (λ t. choices_in t.kind) o))) ≡ None → IsSomeAnd o (λ t. IsTrue (is_listed_in t.kind u.eid))
        by None e = absurd (cc e)
        by (Some t) e = kind_lists u (unlisted u) t.kind e

    conforms_id : IdConforms schema u → option_or (unless (is_some (type_at schema u.entity_type)) f) (listed_fault schema u) ≡ None
    conforms_id h = by (type_at schema u.entity_type) h
      where
        by : (o : Option TypeData) → IsSomeAnd o (λ t. IsTrue (is_listed_in t.kind u.eid)) → option_or (unless (is_some o) f) (option_map (unlisted u) (option_and_then (others_listed u) (option_and_then (λ t. choices_in t.kind) o))) ≡ None
        by None e = absurd e
        by (Some t) e = lists_kind u (unlisted u) t.kind e

  -- the context
  module _ (a : ActionData) (fs : Fields) where
    context_conforms : context_fault schema all_there a fs ≡ None → HasAttributes a.context fs × IsTrue (lists_fields schema fs)
    context_conforms h =
        let none = no_unlisted schema fs (none_first (option_and_then (listed_fault schema) (unlisted_in_fields schema fs)) _ h) in
        (member_of (record_of a.context ClosedAttributes) (rec fs) (none_inside (context_error a fs) _ (none_rest (option_and_then (listed_fault schema) (unlisted_in_fields schema fs)) _ h)), fields_listed schema fs none)

    conforms_context : HasAttributes a.context fs → IsTrue (lists_fields schema fs) → context_fault schema all_there a fs ≡ None
    conforms_context typed ids =
        neither _ _ (ap (option_and_then (listed_fault schema)) (none_unlisted_fields schema fs ids)) (ap (option_map (context_error a fs)) (of_member (record_of a.context ClosedAttributes) (rec fs) typed))

  of_context : (a : ActionData) (o : Option Fields) → IsSome o → option_and_then (context_fault schema all_there a) o ≡ None → HasAttributes a.context (known_fields o) × IsTrue (lists_fields schema (known_fields o))
  of_context a None some h = absurd (cc some)
  of_context a (Some fs) some h = context_conforms a fs h

  context_of : (a : ActionData) (o : Option Fields) → HasAttributes a.context (known_fields o) → IsTrue (lists_fields schema (known_fields o)) → option_and_then (context_fault schema all_there a) o ≡ None
  context_of a None typed ids = refl
  context_of a (Some fs) typed ids = conforms_context a fs typed ids

  module _ (q : Request) (whole : IsWhole q) where
    applies : (a : ActionData) → applied_fault schema all_there q a ≡ None → Applies schema q a
    applies a h =
        let later = none_rest (option_and_then (principal_type_fault a) q.principal) _ h in
        let context = of_context a q.context whole.context (none_rest (option_and_then (resource_type_fault a) q.resource) _ later) in
        record {
          principal = kept (has text_cmp a.principals (principal_of q).entity_type) _ (of_known (principal_type_fault a) q.principal whole.principal (none_first _ _ h));
          resource = kept (has text_cmp a.resources (resource_of q).entity_type) _ (of_known (resource_type_fault a) q.resource whole.resource (none_first _ _ later));
          context = context.0;
          context_ids = context.1;
        }

    applied : (a : ActionData) → Applies schema q a → applied_fault schema all_there q a ≡ None
    applied a h =
        neither _ _ (known_of (principal_type_fault a) q.principal whole.principal (keeps (has text_cmp a.principals (principal_of q).entity_type) _ h.principal))
        (neither _ _ (known_of (resource_type_fault a) q.resource whole.resource (keeps (has text_cmp a.resources (resource_of q).entity_type) _ h.resource))
        (context_of a q.context h.context h.context_ids))

    action_applies : (u : EntityUID) → action_fault schema all_there q u ≡ None → IsSomeAnd (action_at schema u) (Applies schema q)
    action_applies u h = by (action_at schema u) h
      where
        by : (o : Option ActionData) → option_map_or (applied_fault schema all_there q) o (Some (UndeclaredAction (record { action = u }))) ≡ None → IsSomeAnd o (Applies schema q)
        by None e = absurd (cc e)
        by (Some a) e = applies a e

    applies_action : (u : EntityUID) → IsSomeAnd (action_at schema u) (Applies schema q) → action_fault schema all_there q u ≡ None
    applies_action u h = by (action_at schema u) h
      where
        by : (o : Option ActionData) → IsSomeAnd o (Applies schema q) → option_map_or (applied_fault schema all_there q) o (Some (UndeclaredAction (record { action = u }))) ≡ None
        by None e = absurd e
        by (Some a) e = applied a e

    conforms : first_request_fault schema all_there q ≡ None → RequestConforms schema q
    conforms h =
        let later = none_rest (option_and_then (principal_fault schema) q.principal) _ h in
        record {
          principal = id_conforms (principal_of q) _ (of_known (principal_fault schema) q.principal whole.principal (none_first _ _ h));
          resource = id_conforms (resource_of q) _ (of_known (resource_fault schema) q.resource whole.resource (none_first _ _ later));
          action = action_applies (action_of q) (of_known (action_fault schema all_there q) q.action whole.action (none_rest (option_and_then (resource_fault schema) q.resource) _ later));
        }

    breaks_none : RequestConforms schema q → first_request_fault schema all_there q ≡ None
    breaks_none h =
        neither _ _ (known_of (principal_fault schema) q.principal whole.principal (conforms_id (principal_of q) _ h.principal))
        (neither _ _ (known_of (resource_fault schema) q.resource whole.resource (conforms_id (resource_of q) _ h.resource))
        (known_of (action_fault schema all_there q) q.action whole.action (applies_action (action_of q) h.action)))

pub requests_exact : RequestRulesAreExact
requests_exact schema ok q whole = (conforms schema q whole, breaks_none schema q whole)
