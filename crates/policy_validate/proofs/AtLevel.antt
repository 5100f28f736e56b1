-- A condition is typed once, in its environments one after another, for errors and for a level.
use Rattle.std.proofs.Common.{◌≡◌, ℕ, Bool, true, false, not, ◌&&◌, List, [], ◌∷◌, ◌++◌, map, fold, append_assoc, Option, Some, None, refl, sym, ap, ◌∙◌, if◌then◌else◌}
use Rattle.std.specs.List.{flat_map, filter_map, cons_option, list_all}
use Rattle.std.specs.Option.{option_map_or}
use Rattle.std.proofs.lemmas.List.Sums.{fold-append}
use Rattle.schema_core.specs.EnvData.{EnvData}
use Rattle.schema_core.specs.Schema.{SchemaData}
use Rattle.findings.specs.declared.error.ValidationError.{ValidationError}
use Rattle.findings.specs.declared.error.ValidationError.TheVariants.{UnrecognizedEntityType, InvalidEnumEntity, UnrecognizedActionId, InvalidActionApplication}
use Rattle.policy_set.specs.Data.{TemplateData}
use Rattle.policy_set.specs.Condition.{condition_of}
use Rattle.policy_scope.specs.Names.{distinct, with_new, entity_type_findings, enum_findings, action_id_findings}
use Rattle.policy_scope.specs.Scope.{application_findings}
use Rattle.link_spec.specs.Linked.{linked_envs}
use Rattle.level_spec.specs.Findings.{LevelFault}
use Rattle.level_validate.specs.Errors.{Condition, faults_in, level_error}
use Rattle.level_validate.specs.Faults.{fault_cmp}
use Rattle.typecheck_rules.specs.Check.{Check, checked}
use Rattle.typecheck_rules.specs.Check as check
use Rattle.policy_typecheck.specs.Answer.{Reports, errors_of, too_deep}
use Rattle.policy_typecheck.specs.Checks.{errors_in, is_false}
use Rattle.policy_typecheck.specs.Policies.{checks_of, impossible, is_irrelevant, is_too_deep, refusals}
use Rattle.policy_typecheck.specs.Added.{all_added, same_error}
use Rattle.policy_typecheck.specs.declared.PolicyCheck.{PolicyCheck}
use Rattle.policy_typecheck.specs.declared.PolicyCheck.TheVariants.{Success, Irrelevant, Fail}
use Rattle.policy_validate.specs.Accepted.{typing_errors, errors_of_written, warnings_of}
use Rattle.policy_validate.specs.AtLevel.{faults_reported, has_any, untyped_errors, IsTypedAtLevel}
use Rattle.policy_validate.specs.Levels.{or_else, condition_at, conditions_of, level_errors_of}
use Rattle.policy_validate.specs.declared.levels.TypedAt.{TypedAt}
use Rattle.policy_validate.proofs.Empty.{parts_empty, none_grown}
use Rattle.policy_validate.proofs.LevelErrors.{says_same}

-- ---- a check in code says what the check says

errors_same : (id : List ℕ) (c : Check) (r : PolicyCheck) → Reports id c r → errors_in r ≡ errors_of id c
errors_same id (check.Success t) (Success u) h = refl
errors_same id (check.Irrelevant t) (Irrelevant u) h = refl
errors_same id (check.Fail fs) (Fail es) h = h
errors_same id check.TooDeep (Fail es) h = h
errors_same id c r h = absurd h

false_same : (id : List ℕ) (c : Check) (r : PolicyCheck) → Reports id c r → is_false r ≡ is_irrelevant c
false_same id (check.Success t) (Success u) h = refl
false_same id (check.Irrelevant t) (Irrelevant u) h = refl
false_same id (check.Fail fs) (Fail es) h = refl
false_same id check.TooDeep (Fail es) h = refl
false_same id c r h = absurd h

pub none_there : {X : Type 0} (xs : List X) → has_any xs ≡ false → xs ≡ []
none_there [] h = refl
none_there (x ∷ xs) h = absurd (cc h)

pub some_there : {X : Type 0} (xs : List X) → has_any xs ≡ true → xs ≡ [] → ⊥
some_there [] h = absurd (cc h)
some_there (x ∷ xs) h = λ e. absurd (cc e)

-- ---- environments, one after another

exchanged : (a b c : Bool) → ((a && b) && c) ≡ (b && (a && c))
exchanged true b c = refl
exchanged false true c = refl
exchanged false false c = refl

and_true : (b : Bool) → (b && true) ≡ b
and_true true = refl
and_true false = refl

faults_more : (n : ℕ) (o : Option Condition) (cs : List Condition) → option_map_or (faults_in n) o [] ++ flat_map (faults_in n) cs ≡ flat_map (faults_in n) (cons_option o cs)
faults_more n None cs = refl
faults_more n (Some c) cs = refl

module _ (schema : SchemaData) (n : ℕ) (t : TemplateData) where
  abbrev check_at : EnvData → Check
  check_at env = checked schema env (condition_of t)

  abbrev errors_at : List EnvData → List ValidationError
  errors_at envs = flat_map (errors_of t.id) (map check_at envs)

  abbrev conditions_at : List EnvData → List Condition
  conditions_at envs = filter_map (condition_at schema (condition_of t)) envs

  -- no error so far, and what is left makes the whole
  pub record IsTypedSoFar (every : Bool) (found : List LevelFault) (left : List EnvData) : Type 0 where
    pub errors : errors_at left ≡ errors_at (linked_envs schema t)
    pub impossible : (every && list_all is_irrelevant (map check_at left)) ≡ list_all is_irrelevant (checks_of schema t)
    pub faults : fold (with_new fault_cmp) found (flat_map (faults_in n) (conditions_at left)) ≡ distinct fault_cmp (flat_map (faults_in n) (conditions_of schema t))

  pub begun : (left : List EnvData) → left ≡ linked_envs schema t → IsTypedSoFar true [] left
  begun left all = record {
    errors = ap errors_at all;
    impossible = ap (λ envs. list_all is_irrelevant (map check_at envs)) all;
    faults = ap (λ envs. fold (with_new fault_cmp) [] (flat_map (faults_in n) (conditions_at envs))) all;
  }

  module _ (every : Bool) (found : List LevelFault) (left rest : List EnvData) (env : EnvData) (is : left ≡ env ∷ rest) (so_far : IsTypedSoFar every found left)
      (r : PolicyCheck) (tells : Reports t.id (check_at env) r) where
    pub gone_on : errors_in r ≡ [] → (every2 : Bool) → every2 ≡ (is_false r && every) → (found2 : List LevelFault) → found2 ≡ fold (with_new fault_cmp) found (faults_reported n env r) →
        IsTypedSoFar every2 found2 rest
    gone_on none every2 both found2 more = record {
      errors = ap (λ es. es ++ errors_at rest) (sym none ∙ errors_same t.id (check_at env) r tells) ∙ ap errors_at (sym is) ∙ so_far.errors;
      impossible =
          ap (λ b. b && list_all is_irrelevant (map check_at rest)) (both ∙ ap (λ b. b && every) (false_same t.id (check_at env) r tells))
          ∙ exchanged (is_irrelevant (check_at env)) every (list_all is_irrelevant (map check_at rest))
          ∙ ap (λ envs. every && list_all is_irrelevant (map check_at envs)) (sym is) ∙ so_far.impossible;
      faults =
          ap (λ fs. fold (with_new fault_cmp) fs (flat_map (faults_in n) (conditions_at rest))) more
          ∙ sym (fold-append (with_new fault_cmp) found (faults_reported n env r) (flat_map (faults_in n) (conditions_at rest)))
          ∙ ap (fold (with_new fault_cmp) found)
          (ap (λ o. option_map_or (faults_in n) o [] ++ flat_map (faults_in n) (conditions_at rest)) (says_same t.id env (check_at env) r tells)
          ∙ faults_more n (condition_at schema (condition_of t) env) (conditions_at rest))
          ∙ ap (λ envs. fold (with_new fault_cmp) found (flat_map (faults_in n) (conditions_at envs))) (sym is) ∙ so_far.faults;
    }

    -- an error is an error of the policy
    pub stopped : is_too_deep schema t ≡ false → (errors_in r ≡ [] → ⊥) → typing_errors schema t ≡ [] → ⊥
    stopped flat some h =
        let none = none_grown _ (λ x. refl) (refusals schema t) h in
        let all : errors_at (linked_envs schema t) ≡ [] = sym (ap (λ b. if b then too_deep t.id ∷ [] else errors_at (linked_envs schema t)) flat) ∙ none in
        let here = parts_empty (errors_of t.id (check_at env)) (errors_at rest) (ap errors_at (sym is) ∙ so_far.errors ∙ all) in
        some (errors_same t.id (check_at env) r tells ∙ here.0)

  -- what is too deep is refused
  pub deep_refused : is_too_deep schema t ≡ true → typing_errors schema t ≡ [] → ⊥
  deep_refused deep h =
      let none = none_grown _ (λ x. refl) (refusals schema t) h in
      absurd (cc (sym (ap (λ b. if b then too_deep t.id ∷ [] else errors_at (linked_envs schema t)) deep) ∙ none))

  pub ended : is_too_deep schema t ≡ false → (a : TypedAt) (left : List EnvData) → left ≡ [] → IsTypedSoFar a.impossible a.faults left → IsTypedAtLevel schema n t a
  ended flat a left none so_far = record {
    errors =
        ap (all_added same_error [])
        (ap (λ b. if b then too_deep t.id ∷ [] else errors_at (linked_envs schema t)) flat ∙ sym so_far.errors ∙ ap errors_at none);
    impossible =
        sym (and_true a.impossible) ∙ ap (λ envs. a.impossible && list_all is_irrelevant (map check_at envs)) (sym none) ∙ so_far.impossible
        ∙ sym (ap (λ b. not b && list_all is_irrelevant (checks_of schema t)) flat);
    faults = ap (λ envs. fold (with_new fault_cmp) a.faults (flat_map (faults_in n) (conditions_at envs))) (sym none) ∙ so_far.faults;
  }

  -- what is found then
  pub typed_errors : (a : TypedAt) → IsTypedAtLevel schema n t a → map (level_error t.id n) a.faults ≡ or_else (typing_errors schema t) (level_errors_of schema n t)
  typed_errors a h = ap (map (level_error t.id n)) h.faults ∙ sym (ap (λ es. or_else es (level_errors_of schema n t)) h.errors)

  pub typed_warnings : (a : TypedAt) → IsTypedAtLevel schema n t a → (if a.impossible then impossible t.id ∷ [] else []) ≡ warnings_of schema t
  typed_warnings a h = ap (λ b. if b then impossible t.id ∷ [] else []) h.impossible

-- ---- all errors

module _ (schema : SchemaData) (t : TemplateData) where
  pub written_errors : untyped_errors schema t ++ typing_errors schema t ≡ errors_of_written schema t
  written_errors =
      let types = map UnrecognizedEntityType (entity_type_findings schema t.id (condition_of t)) in
      let ids = map InvalidEnumEntity (enum_findings schema t.id (condition_of t)) in
      let actions = map UnrecognizedActionId (action_id_findings schema t.id (condition_of t)) in
      let scope = map InvalidActionApplication (application_findings schema t) in
      append_assoc types (ids ++ (actions ++ scope)) (typing_errors schema t)
      ∙ ap (λ es. types ++ es) (append_assoc ids (actions ++ scope) (typing_errors schema t) ∙ ap (λ es. ids ++ es) (append_assoc actions scope (typing_errors schema t)))

  -- errors on levels stand where there are no others
  pub others_first : (ls : List ValidationError) → (untyped_errors schema t ≡ [] → ⊥) → untyped_errors schema t ++ typing_errors schema t ≡ or_else (errors_of_written schema t) ls
  others_first ls some = first (untyped_errors schema t) (typing_errors schema t) ls some ∙ ap (λ es. or_else es ls) written_errors
    where
      first : (xs ys zs : List ValidationError) → (xs ≡ [] → ⊥) → xs ++ ys ≡ or_else (xs ++ ys) zs
      first [] ys zs h = absurd (h refl)
      first (x ∷ xs) ys zs h = refl

  pub without_others : (ls : List ValidationError) → untyped_errors schema t ≡ [] → or_else (typing_errors schema t) ls ≡ or_else (errors_of_written schema t) ls
  without_others ls none = ap (λ es. or_else es ls) (sym (ap (λ es. es ++ typing_errors schema t) none) ∙ written_errors)

pub some_else : {X : Type 0} (xs ys : List X) → (xs ≡ [] → ⊥) → xs ≡ or_else xs ys
some_else [] ys h = absurd (h refl)
some_else (x ∷ xs) ys h = refl
