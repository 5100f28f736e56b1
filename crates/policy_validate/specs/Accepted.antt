-- The findings on a set of policies, and the sets that are accepted.
use Rattle.std.specs.Prelude.{List, [], ◌++◌, map, flat_map, IfSome, IsTrue}
use Rattle.std.specs.List.{AllByRecursion}
use Rattle.policy_set.specs.Data.{TemplateData, PolicyData}
use Rattle.policy_set.specs.Condition.{condition_of, written_of}
use Rattle.policy_set.specs.PolicySet.{PolicySetData, written, links}
use Rattle.schema_core.specs.Schema.{SchemaData}
use Rattle.findings.specs.declared.error.ValidationError.{ValidationError}
use Rattle.findings.specs.declared.error.ValidationError.TheVariants.{UnrecognizedEntityType, InvalidEnumEntity, UnrecognizedActionId, InvalidActionApplication}
use Rattle.findings.specs.declared.error.ValidationWarning.{ValidationWarning}
use Rattle.finding_messages.specs.Findings.{Findings}
use Rattle.policy_scope.specs.Names.{entity_type_findings, enum_findings, action_id_findings, slot_type_findings}
use Rattle.policy_scope.specs.Scope.{application_findings, is_applicable}
use Rattle.policy_typecheck.specs.Added.{all_added, same_error}
use Rattle.policy_typecheck.specs.Policies.{refusals, warned}
use Rattle.link_spec.specs.Accepted.{IsAcceptedTemplate, HasKnownType}

module _ (schema : SchemaData) where
  -- what typing finds of a condition, each finding once
  abbrev pub typing_errors : TemplateData → List ValidationError
  typing_errors t = all_added same_error [] (refusals schema t)

  -- the errors of a template or a static policy: the types, the ids of enumerated types and the actions that
  -- its condition names, its scope, and what typing finds
  abbrev pub errors_of_written : TemplateData → List ValidationError
  errors_of_written t =
      map UnrecognizedEntityType (entity_type_findings schema t.id (condition_of t))
      ++ (map InvalidEnumEntity (enum_findings schema t.id (condition_of t))
      ++ (map UnrecognizedActionId (action_id_findings schema t.id (condition_of t))
      ++ (map InvalidActionApplication (application_findings schema t)
      ++ typing_errors t)))

  -- those of a link: the types of the ids that it gives for slots, and its own scope
  abbrev pub errors_of_link : PolicyData → List ValidationError
  errors_of_link p = map UnrecognizedEntityType (slot_type_findings schema p)
      ++ map InvalidActionApplication (application_findings schema (written_of p))

  -- the warning on a template or a static policy that is impossible
  abbrev pub warnings_of : TemplateData → List ValidationWarning
  warnings_of t = warned schema t []

  -- those of a set, in the order of the ids: of all that is written, and then of all links
  abbrev pub findings_of : PolicySetData → Findings
  findings_of s = record {
    errors = flat_map errors_of_written (written s) ++ flat_map errors_of_link (links s);
    warnings = flat_map warnings_of (written s);
  }

  -- a link keeps the rules for links: what it gives for slots is of known types, and some action meets its
  -- own scope
  pub record KeepsLinkRules (p : PolicyData) : Type 0 where
    pub slots :
        IfSome p.link (λ l. HasKnownType schema l.values.principal × HasKnownType schema l.values.resource)
    pub scope : IsTrue (is_applicable schema (written_of p))

  -- each template and static policy is accepted, and each link keeps the rules for links; warnings do not
  -- matter
  pub record IsAccepted (s : PolicySetData) : Type 0 where
    pub as_written : AllByRecursion (IsAcceptedTemplate schema) (written s)
    pub as_linked : AllByRecursion KeepsLinkRules (links s)
