-- A set has no errors exactly where it is accepted.
use Rattle.std.proofs.Common.{◌≡◌, ℕ, Bool, true, false, List, [], ◌∷◌, ◌++◌, map, Option, Some, None, IfSome, IsTrue, refl, ap, if◌then◌else◌}
use Rattle.std.specs.Prelude.{option_to_list}
use Rattle.std.specs.List.{AllByRecursion, flat_map}
use Rattle.policy_values.specs.Reaches.{has}
use Rattle.findings.specs.declared.error.ValidationError.TheVariants.{UnrecognizedEntityType, InvalidEnumEntity, UnrecognizedActionId, InvalidActionApplication}
use Rattle.policy_values.specs.declared.entity_uid.EntityUID.{EntityUID}
use Rattle.schema_core.specs.Schema.{SchemaData}
use Rattle.policy_set.specs.Data.{TemplateData, PolicyData, LinkData}
use Rattle.policy_set.specs.Condition.{condition_of, written_of}
use Rattle.policy_set.specs.PolicySet.{PolicySetData, written, links}
use Rattle.findings.specs.Mentioned.{an_id, is_known_type}
use Rattle.policy_scope.specs.Names.{distinct, entity_type_cmp, entity_type_finding, entity_type_findings, enum_findings, action_id_findings, ids_given, slot_type_findings}
use Rattle.policy_scope.specs.Scope.{application_finding, application_findings, is_applicable}
use Rattle.typecheck_rules.specs.Check.{CheckIsExact}
use Rattle.link_spec.specs.Accepted.{IsAcceptedTemplate, HasKnownType}
use Rattle.link_spec.specs.Laws.{RefusalsAreReported}
use Rattle.policy_validate.specs.Accepted.{typing_errors, errors_of_written, errors_of_link, findings_of, KeepsLinkRules, IsAccepted}
use Rattle.policy_validate.specs.Laws.{NoErrorsWhereAccepted}
use Rattle.policy_validate.proofs.Empty.{parts_empty, empty_parts, none_grown, none_mapped, none_kept, kept_none, all_more, none_in_each, each_none}
use Rattle.policy_validate.proofs.KnownNames.{found_none, none_found, names_known, types_known, ids_listed, actions_known}
use Rattle.policy_validate.proofs.TypedConditions.{is_typed, typed_is}

module _ (schema : SchemaData) where
  -- the scope
  applicable : (t : TemplateData) → application_findings schema t ≡ [] → is_applicable schema t ≡ true
  applicable t h = by (is_applicable schema t) h
    where
      by : (b : Bool) → (if b then [] else application_finding schema t.id t.principal t.action t.resource ∷ []) ≡ [] → b ≡ true
      by true e = refl
      by false e = absurd (cc e)

  none_applied : (t : TemplateData) → is_applicable schema t ≡ true → application_findings schema t ≡ []
  none_applied t h = ap (λ b. if b then [] else application_finding schema t.id t.principal t.action t.resource ∷ []) h

  -- what is written
  module _ (exact : CheckIsExact) (reported : RefusalsAreReported) where
    pub template_accepted : (t : TemplateData) → errors_of_written schema t ≡ [] → IsAcceptedTemplate schema t
    template_accepted t h =
        let types = parts_empty (map UnrecognizedEntityType (entity_type_findings schema t.id (condition_of t))) _ h in
        let ids = parts_empty (map InvalidEnumEntity (enum_findings schema t.id (condition_of t))) _ types.1 in
        let actions = parts_empty (map UnrecognizedActionId (action_id_findings schema t.id (condition_of t))) _ ids.1 in
        let scope = parts_empty (map InvalidActionApplication (application_findings schema t)) (typing_errors schema t) actions.1 in
        let known = names_known schema t.id (condition_of t) (none_mapped UnrecognizedEntityType _ types.0) (none_mapped InvalidEnumEntity _ ids.0) (none_mapped UnrecognizedActionId _ actions.0) in
        let typed = is_typed exact schema t (reported schema t known) scope.1 in
        record {
          names = known;
          scope = applicable t (none_mapped InvalidActionApplication _ scope.0);
          depth = typed.0;
          typed = typed.1;
        }

    no_template_errors : (t : TemplateData) → IsAcceptedTemplate schema t → errors_of_written schema t ≡ []
    no_template_errors t a =
        empty_parts _ _ (ap (map UnrecognizedEntityType) (types_known schema t.id (condition_of t) a.names))
        (empty_parts _ _ (ap (map InvalidEnumEntity) (ids_listed schema t.id (condition_of t) a.names))
        (empty_parts _ _ (ap (map UnrecognizedActionId) (actions_known schema t.id (condition_of t) a.names))
        (empty_parts _ _ (ap (map InvalidActionApplication) (none_applied t a.scope)) (typed_is exact schema t a.depth a.typed))))

  -- links
  abbrev AreKnown : LinkData → Type 0
  AreKnown l = HasKnownType schema l.values.principal × HasKnownType schema l.values.resource

  abbrev NotFound : List ℕ → List EntityUID → Type 0
  NotFound id us = AllByRecursion (λ m. entity_type_finding schema id m ≡ None) (map (λ u. (an_id u, None)) us)

  ids_known : (id : List ℕ) (o : Option LinkData) → NotFound id (ids_given o) → IfSome o AreKnown
  ids_known id None h = tt
  ids_known id (Some l) h = by l.values.principal l.values.resource h
    where
      by : (p r : Option EntityUID) → NotFound id (option_to_list p ++ option_to_list r) → HasKnownType schema p × HasKnownType schema r
      by None None h = (tt, tt)
      by None (Some v) h = (tt, found_none (is_known_type schema v.entity_type) _ h.0)
      by (Some u) None h = (found_none (is_known_type schema u.entity_type) _ h.0, tt)
      by (Some u) (Some v) h = (found_none (is_known_type schema u.entity_type) _ h.0, found_none (is_known_type schema v.entity_type) _ h.1.0)

  known_ids : (id : List ℕ) (o : Option LinkData) → IfSome o AreKnown → NotFound id (ids_given o)
  known_ids id None h = tt
  known_ids id (Some l) h = by l.values.principal l.values.resource h.0 h.1
    where
      by : (p r : Option EntityUID) → HasKnownType schema p → HasKnownType schema r → NotFound id (option_to_list p ++ option_to_list r)
      by None None h k = tt
      by None (Some v) h k = (none_found (is_known_type schema v.entity_type) _ k, tt)
      by (Some u) None h k = (none_found (is_known_type schema u.entity_type) _ h, tt)
      by (Some u) (Some v) h k = (none_found (is_known_type schema u.entity_type) _ h, (none_found (is_known_type schema v.entity_type) _ k, tt))

  slots_known : (p : PolicyData) → slot_type_findings schema p ≡ [] → IfSome p.link AreKnown
  slots_known p h = ids_known p.id p.link (none_kept (entity_type_finding schema p.id) (map (λ u. (an_id u, None)) (ids_given p.link)) (none_grown (has entity_type_cmp) (λ x. refl) _ h))

  known_slots : (p : PolicyData) → IfSome p.link AreKnown → slot_type_findings schema p ≡ []
  known_slots p h = ap (distinct entity_type_cmp) (kept_none (entity_type_finding schema p.id) (map (λ u. (an_id u, None)) (ids_given p.link)) (known_ids p.id p.link h))

  pub link_kept : (p : PolicyData) → errors_of_link schema p ≡ [] → KeepsLinkRules schema p
  link_kept p h =
      let e = parts_empty (map UnrecognizedEntityType (slot_type_findings schema p)) (map InvalidActionApplication (application_findings schema (written_of p))) h in
      record {
        slots = slots_known p (none_mapped UnrecognizedEntityType _ e.0);
        scope = applicable (written_of p) (none_mapped InvalidActionApplication _ e.1);
      }

  no_link_errors : (p : PolicyData) → KeepsLinkRules schema p → errors_of_link schema p ≡ []
  no_link_errors p k = empty_parts _ _ (ap (map UnrecognizedEntityType) (known_slots p k.slots)) (ap (map InvalidActionApplication) (none_applied (written_of p) k.scope))

pub no_errors : CheckIsExact → RefusalsAreReported → NoErrorsWhereAccepted
no_errors exact reported schema s = (accepted, none)
  where
    accepted : (findings_of schema s).errors ≡ [] → IsAccepted schema s
    accepted h =
        let e = parts_empty (flat_map (errors_of_written schema) (written s)) (flat_map (errors_of_link schema) (links s)) h in
        record {
          as_written = all_more (λ t. errors_of_written schema t ≡ []) (IsAcceptedTemplate schema) (template_accepted schema exact reported) (written s) (none_in_each (errors_of_written schema) (written s) e.0);
          as_linked = all_more (λ p. errors_of_link schema p ≡ []) (KeepsLinkRules schema) (link_kept schema) (links s) (none_in_each (errors_of_link schema) (links s) e.1);
        }

    none : IsAccepted schema s → (findings_of schema s).errors ≡ []
    none a =
        empty_parts _ _
        (each_none (errors_of_written schema) (written s) (all_more (IsAcceptedTemplate schema) (λ t. errors_of_written schema t ≡ []) (no_template_errors schema exact reported) (written s) a.as_written))
        (each_none (errors_of_link schema) (links s) (all_more (KeepsLinkRules schema) (λ p. errors_of_link schema p ≡ []) (no_link_errors schema) (links s) a.as_linked))
