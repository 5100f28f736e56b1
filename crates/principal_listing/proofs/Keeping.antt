-- The request of each principal of a store that conforms keeps the rules.
use Rattle.std.proofs.Common.{◌≡◌, true, false, List, [], ◌∷◌, Option, Some, None, IsSomeAnd, refl, ap, ◌∙◌, subst, inl, inr}
use Rattle.std.specs.Prelude.{ℕ, is_some, IsSome, if◌then◌else◌}
use Rattle.std.specs.List.{AllByRecursion}
use Rattle.std.specs.Option.{option_map, option_map_or, option_or, option_and_then}
use Rattle.policy_values.specs.Reaches.{has}
use Rattle.policy_values.specs.declared.entity_uid.EntityUID.{EntityUID}
use Rattle.policy_values.specs.Uid.{text_cmp}
use Rattle.policy_values.specs.Basename.{is_action_type}
use Rattle.entity_store.specs.declared.request.Request.{Request}
use Rattle.entity_store.specs.Request.{IsWhole, action_of}
use Rattle.entity_store.specs.Store.{StoredEntity}
use Rattle.schema_core.specs.Faults.{IsSchema}
use Rattle.schema_core.specs.Kinds.{Kind, standard, enumerated}
use Rattle.schema_core.specs.Schema.{SchemaData, TypeData, ActionData, type_at, action_at}
use Rattle.typing_spec.specs.Conforms.{is_listed, is_listed_in, EntityConforms, ConformsAs, TypedConforms}
use Rattle.policy_scope.specs.Names.{choices_in, others_listed}
use Rattle.reads_spec.specs.Among.{IsIn}
use Rattle.conformance.specs.Laws.{RequestRulesAreExact}
use Rattle.conformance.specs.RequestRules.{unless, listed_fault, principal_fault, resource_fault, applied_fault, action_fault, first_request_fault, principal_type_fault}
use Rattle.conformance.specs.declared.request_error.RequestValidationError.TheVariants as error
use Rattle.principal_listing.specs.Allowed.{asked_by, passed_over, applies_to}
use Rattle.principal_listing.specs.Laws.{CandidatesKeepRules}

at_each : {X : Type 0} (P : X → Type 0) (xs : List X) → AllByRecursion P xs → (x : X) → IsIn x xs → P x
at_each P [] h x i = absurd i
at_each P (y ∷ ys) h x (inl e) = subst P e h.0
at_each P (y ∷ ys) h x (inr i) = at_each P ys h.1 x i

or_none : {X : Type 0} (a b : Option X) → option_or a b ≡ None → (a ≡ None) × (b ≡ None)
or_none None b h = (refl, h)
or_none (Some x) b h = absurd (cc)

none_or : {X : Type 0} (a b : Option X) → a ≡ None → b ≡ None → option_or a b ≡ None
none_or a b h k = ap (λ o. option_or o b) h ∙ k

-- ---- a listed id of a declared type

kind_listed : {X : Type 0} (u : EntityUID) (f : List (List ℕ) → X) (k : Kind) → is_listed_in k u.eid ≡ true → option_map f (option_and_then (others_listed u) (choices_in k)) ≡ None
kind_listed u f (standard xs t) h = refl
kind_listed u f (enumerated ids) h = ap (λ b. option_map f (if b then None else Some ids)) h

listed : {X : Type 0} (u : EntityUID) (f : List (List ℕ) → X) (o : Option TypeData) → option_map_or (λ t. is_listed_in t.kind u.eid) o true ≡ true → option_map f (option_and_then (others_listed u) (option_and_then (λ t. choices_in t.kind) o)) ≡ None
listed u f None h = refl
listed u f (Some t) h = kind_listed u f t.kind h

module _ (schema : SchemaData) (valid : IsSchema schema) where
  some_action : (a : ActionData) (u : EntityUID) → action_at schema u ≡ Some a → (n : List ℕ) → has text_cmp a.principals n ≡ true → is_some (type_at schema n) ≡ true
  some_action a u e n h = valid.names.named_types n (inl (inr (inl (u, ap (λ o. option_map_or (λ x. has text_cmp x.principals n) o false) e ∙ h))))

  applied : (q : Request) (n : List ℕ) → applies_to schema q n ≡ true → is_some (type_at schema n) ≡ true
  applied q n h = by (action_at schema (action_of q)) refl h
    where
      by : (o : Option ActionData) → action_at schema (action_of q) ≡ o → option_map_or (λ a. has text_cmp a.principals n) o false ≡ true → is_some (type_at schema n) ≡ true
      by None e k = absurd (cc)
      by (Some a) e k = some_action a (action_of q) e n k

  module _ (e : StoredEntity) (conforms : EntityConforms schema e) (declared : is_some (type_at schema e.uid.entity_type) ≡ true) where
    no_action : is_action_type e.uid.entity_type ≡ false
    no_action = valid.names.types e.uid.entity_type declared

    as_type : ConformsAs schema false e
    as_type = subst (λ b. ConformsAs schema b e) no_action conforms

    is_listed_id : is_listed schema e.uid ≡ true
    is_listed_id = by (type_at schema e.uid.entity_type) refl as_type
      where
        by : (o : Option TypeData) → type_at schema e.uid.entity_type ≡ o → IsSomeAnd o (TypedConforms schema e) → is_listed schema e.uid ≡ true
        by None i k = absurd k
        by (Some t) i k = k.listed

    no_principal_fault : principal_fault schema e.uid ≡ None
    no_principal_fault =
        none_or (unless (is_some (type_at schema e.uid.entity_type)) (error.UndeclaredPrincipalType (record { principal_ty = e.uid.entity_type }))) (listed_fault schema e.uid)
        (ap (λ b. unless b (error.UndeclaredPrincipalType (record { principal_ty = e.uid.entity_type }))) declared)
        (listed e.uid (λ choices. error.InvalidEnumEntity (record { uid = e.uid; choices = choices })) (type_at schema e.uid.entity_type) is_listed_id)

module _ (schema : SchemaData) (q : Request) (p : EntityUID) (applies : applies_to schema q p.entity_type ≡ true) where
  -- an action that applies without the principal applies with it
  for_action : (u : EntityUID) → applies_to schema (record q { action = Some u }) p.entity_type ≡ true → action_fault schema (λ _. true) (passed_over q) u ≡ None → action_fault schema (λ _. true) (asked_by q p) u ≡ None
  for_action u k h = by (action_at schema u) k h
    where
      by : (o : Option ActionData) → option_map_or (λ a. has text_cmp a.principals p.entity_type) o false ≡ true → option_map_or (applied_fault schema (λ _. true) (passed_over q)) o (Some (error.UndeclaredAction (record { action = u }))) ≡ None → option_map_or (applied_fault schema (λ _. true) (asked_by q p)) o (Some (error.UndeclaredAction (record { action = u }))) ≡ None
      by None k h = absurd (cc)
      by (Some a) k h =
          none_or (principal_type_fault a p) (applied_fault schema (λ _. true) (passed_over q) a)
          (ap (λ b. unless b (error.InvalidPrincipalType (record { principal_ty = p.entity_type; action = a.name; valid_principal_tys = a.principals }))) k) h

  for_known : (o : Option EntityUID) → IsSome o → applies_to schema (record q { action = o }) p.entity_type ≡ true → option_and_then (action_fault schema (λ _. true) (passed_over q)) o ≡ None → option_and_then (action_fault schema (λ _. true) (asked_by q p)) o ≡ None
  for_known None i k h = absurd (cc)
  for_known (Some u) i k h = for_action u k h

  no_fault : IsSome q.action → principal_fault schema p ≡ None → first_request_fault schema (λ _. true) (passed_over q) ≡ None → first_request_fault schema (λ _. true) (asked_by q p) ≡ None
  no_fault there fine h =
      let k = or_none (option_and_then (resource_fault schema) q.resource) (option_and_then (action_fault schema (λ _. true) (passed_over q)) q.action) h in
      none_or (principal_fault schema p) (option_or (option_and_then (resource_fault schema) q.resource) (option_and_then (action_fault schema (λ _. true) (asked_by q p)) q.action)) fine
      (none_or (option_and_then (resource_fault schema) q.resource) (option_and_then (action_fault schema (λ _. true) (asked_by q p)) q.action) k.0 (for_known q.action there applies k.1))

pub keep_rules : RequestRulesAreExact → CandidatesKeepRules
keep_rules exact schema valid policies q s others e among applies =
    let declared = applied schema valid q e.uid.entity_type applies in
    let fine = no_principal_fault schema valid e (at_each (EntityConforms schema) s others.store e among) declared in
    record {
      whole = there;
      request = (exact schema valid (asked_by q e.uid) there).0 (no_fault schema q e.uid applies others.whole.action fine others.request);
      store = others.store;
      policies = others.policies;
    }
  where
    there : IsWhole (asked_by q e.uid)
    there = record { principal = refl; action = others.whole.action; resource = others.whole.resource; context = others.whole.context }
