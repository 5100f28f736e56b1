-- What typing leaves of a template or a static policy that is checked for a level.
use Rattle.std.specs.Prelude.{◌≡◌, ℕ, Bool, true, false, List, [], ◌∷◌, ◌++◌, map}
use Rattle.std.specs.List.{flat_map}
use Rattle.std.specs.Option.{option_map_or}
use Rattle.schema_core.specs.EnvData.{EnvData}
use Rattle.schema_core.specs.Schema.{SchemaData}
use Rattle.findings.specs.declared.error.ValidationError.{ValidationError}
use Rattle.findings.specs.declared.error.ValidationError.TheVariants.{UnrecognizedEntityType, InvalidEnumEntity, UnrecognizedActionId, InvalidActionApplication}
use Rattle.policy_set.specs.Data.{TemplateData}
use Rattle.policy_set.specs.Condition.{condition_of}
use Rattle.policy_scope.specs.Names.{distinct, entity_type_findings, enum_findings, action_id_findings}
use Rattle.policy_scope.specs.Scope.{application_findings}
use Rattle.level_spec.specs.Findings.{LevelFault}
use Rattle.level_validate.specs.Errors.{faults_in}
use Rattle.level_validate.specs.Faults.{fault_cmp}
use Rattle.policy_typecheck.specs.Policies.{is_impossible}
use Rattle.policy_typecheck.specs.declared.PolicyCheck.{PolicyCheck}
use Rattle.policy_validate.specs.Accepted.{typing_errors}
use Rattle.policy_validate.specs.Levels.{conditions_of}
use Rattle.policy_validate.specs.Reported.{reported_by}
use Rattle.policy_validate.specs.declared.levels.TypedAt.{TypedAt}

abbrev pub has_any : {X : Type 0} → List X → Bool
has_any [] = false
has_any (x ∷ xs) = true

-- what is found in what a check leaves
abbrev pub faults_reported : ℕ → EnvData → PolicyCheck → List LevelFault
faults_reported n env r = option_map_or (faults_in n) (reported_by env r) []

module _ (schema : SchemaData) where
  -- what is found of names and of the scope
  abbrev pub untyped_errors : TemplateData → List ValidationError
  untyped_errors t =
      map UnrecognizedEntityType (entity_type_findings schema t.id (condition_of t))
      ++ (map InvalidEnumEntity (enum_findings schema t.id (condition_of t))
      ++ (map UnrecognizedActionId (action_id_findings schema t.id (condition_of t))
      ++ map InvalidActionApplication (application_findings schema t)))

  -- typing finds no error, and this is what it leaves
  pub record IsTypedAtLevel (n : ℕ) (t : TemplateData) (a : TypedAt) : Type 0 where
    pub errors : typing_errors schema t ≡ []
    pub impossible : a.impossible ≡ is_impossible schema t
    pub faults : a.faults ≡ distinct fault_cmp (flat_map (faults_in n) (conditions_of schema t))
