-- What checks say, one after another.
use Rattle.std.proofs.Common.{◌≡◌, ℕ, Bool, true, false, not, ◌&&◌, List, [], ◌∷◌, map, Option, Some, None, refl, sym, ap, ◌∙◌, true≢false}
use Rattle.std.specs.Prelude.{flat_map, is_none, if◌then◌else◌}
use Rattle.std.specs.List.{list_all}
use Rattle.std.proofs.lemmas.List.Sums.{fold-append}
use Rattle.schema_types.specs.declared.kinds.Primitive.TheVariants.{Bool as BoolType}
use Rattle.schema_types.specs.Ty.{Ty, true_type, false_type, primitive}
use Rattle.schema_core.specs.EnvData.{EnvData, literal_type}
use Rattle.schema_core.specs.Faults.{IsSchema}
use Rattle.schema_core.specs.Schema.{SchemaData}
use Rattle.policy_expressions.specs.Slots.{has_slot}
use Rattle.policy_set.specs.Data.{TemplateData}
use Rattle.link_spec.specs.Linked.{linked_envs}
use Rattle.policy_set.specs.declared.constraint.ActionConstraint.{ActionConstraint}
use Rattle.policy_set.specs.declared.constraint.ActionConstraint.TheVariants.{Any, Eq}
use Rattle.plain_lemmas.proofs.Booleans.{and_parts_of}
use Rattle.policy_scope.specs.PlainScope.{is_plain_scope, is_plain_side}
use Rattle.findings.specs.declared.error.ValidationError.{ValidationError}
use Rattle.typecheck_rules.specs.Check.{Check, Success, Irrelevant, Fail, TooDeep, check_of, check_walked}
use Rattle.typecheck_rules.specs.Walked as walk
use Rattle.typecheck_rules.specs.Walked.{Walked, findings_of}
use Rattle.link_spec.specs.Met.{body_check, met_envs, refused_check}
use Rattle.link_spec.proofs.Steps.{IsStep, same_asked}
use Rattle.link_spec.proofs.Folds.{checks_follow}
use Rattle.link_spec.proofs.Undeclared.{refused_follow}
use Rattle.typecheck_walk.specs.declared.policy_check.PolicyCheck.{PolicyCheck}
use Rattle.typecheck_walk.specs.declared.policy_check.PolicyCheck.TheVariants as code
use Rattle.policy_typecheck.specs.Added.{added, all_added, same_error}
use Rattle.typecheck_walk.specs.Answer.{Reports, errors_of, too_deep}
use Rattle.policy_typecheck.specs.NoAction.{names_no_action}
use Rattle.policy_typecheck.specs.Policies.{passes, is_irrelevant, is_too_deep, checks_of, refusals, is_accepted, is_impossible}
use Rattle.policy_typecheck.specs.Reported.{Reported, reported_by, reported, all_reported, condition_check}
use Rattle.policy_typecheck.proofs.Same.{error_laws}
use Rattle.policy_typecheck.proofs.Lists.{once_added}

-- in code as by the definitions
pub same_reported : (id : List ℕ) (c : Check) (r : PolicyCheck) → Reports id c r → (s : Reported) → reported_by r s ≡ reported id c s
same_reported id (Success t) (code.Success u) h s = refl
same_reported id (Irrelevant t) (code.Irrelevant u) h s = refl
same_reported id (Fail fs) (code.Fail es) h s = ap (λ xs. (record { accepted = false; impossible = false }, all_added same_error s.1 xs)) h
same_reported id TooDeep (code.Fail es) h s = ap (λ xs. (record { accepted = false; impossible = false }, all_added same_error s.1 xs)) h
same_reported id c r h s = absurd h

and_again : (a b : Bool) → (a && (a && b)) ≡ (a && b)
and_again true b = refl
and_again false b = refl

reported_step : (id : List ℕ) → IsStep (reported id)
reported_step id = record {
  once = λ c s. λ j. (record { accepted = and_again (passes c) s.0.accepted j; impossible = and_again (is_irrelevant c) s.0.impossible j }, once_added same_error error_laws s.1 (errors_of id c) j);
  skips = λ x s. refl;
  same = λ p w s. same_asked (λ c. reported id c s) ((λ x y. refl), (λ x y. refl)) p w;
}

-- the bodies in the environments that meet the scope say what the conditions in all environments do
pub bodies_say : (schema : SchemaData) → IsSchema schema → (t : TemplateData) → is_plain_scope schema t.principal t.action t.resource ≡ true → has_slot t.body ≡ false → is_too_deep schema t ≡ false → (s : Reported) →
    all_reported t.id (body_check schema t) s (met_envs schema t) ≡ all_reported t.id (condition_check schema t) s (linked_envs schema t)
bodies_say schema ok t plain no_slot flat s = sym (checks_follow schema ok t plain no_slot flat (reported t.id) (reported_step t.id) s)

-- a body that has a type has no errors
body_errors : (id : List ℕ) (w : Walked) → errors_of id (check_walked w) ≡ errors_of id (Fail (findings_of w))
body_errors id (walk.Fail t fs) = refl
body_errors id (walk.Success a) = by a.type
  where
    by : (t : Ty) → errors_of id (check_of t a.tree []) ≡ []
    by true_type = refl
    by false_type = refl
    by (primitive BoolType) = refl
    by t = refl

pub refused_reported : (id : List ℕ) (w : Walked) (s : Reported) (found : List ValidationError) → found ≡ (reported id (check_walked w) s).1 → (record { accepted = false; impossible = false }, found) ≡ reported id (Fail (findings_of w)) s
refused_reported id w s found h = λ j. (record { accepted = false; impossible = false }, (h ∙ ap (all_added same_error s.1) (body_errors id w)) j)

-- where a scope names an action that is not declared, what is found of the body says what the conditions do
pub refused_say : (schema : SchemaData) → IsSchema schema → (t : TemplateData) → names_no_action schema t.principal t.action t.resource ≡ true → is_too_deep schema t ≡ false → (s : Reported) →
    all_reported t.id (refused_check schema t) s (linked_envs schema t) ≡ all_reported t.id (condition_check schema t) s (linked_envs schema t)
refused_say schema ok t names flat s = by t.action refl names
  where
    none : (o : Option Ty) → is_none o ≡ true → o ≡ None
    none None h = refl
    none (Some u) h = absurd (true≢false (sym h))

    by : (c : ActionConstraint) → t.action ≡ c → names_no_action schema t.principal c t.resource ≡ true → all_reported t.id (refused_check schema t) s (linked_envs schema t) ≡ all_reported t.id (condition_check schema t) s (linked_envs schema t)
    by (Eq u) e h =
        let parts = and_parts_of (is_none (literal_type schema u)) (is_plain_scope schema t.principal Any t.resource) h in
        let sides = and_parts_of (is_plain_side schema t.principal && true) (is_plain_side schema t.resource) parts.1 in
        let principal = and_parts_of (is_plain_side schema t.principal) true sides.0 in
        sym (refused_follow schema ok t u e (none (literal_type schema u) parts.0) principal.0 sides.1 flat (reported t.id) (λ x s. refl) s)
    by c e h = absurd (true≢false (sym h))

-- behind the environments each passes where each did before and each of these does
with_true : (a : Bool) → (a && true) ≡ a
with_true true = refl
with_true false = refl

exchanged : (a b c : Bool) → ((a && b) && c) ≡ (b && (a && c))
exchanged true b c = refl
exchanged false true c = refl
exchanged false false c = refl

module _ (id : List ℕ) (check : EnvData → Check) where
  accepted_reported : (s : Reported) (envs : List EnvData) → (all_reported id check s envs).0.accepted ≡ (s.0.accepted && list_all passes (map check envs))
  accepted_reported s [] = sym (with_true s.0.accepted)
  accepted_reported s (e ∷ envs) = accepted_reported (reported id (check e) s) envs ∙ exchanged (passes (check e)) s.0.accepted (list_all passes (map check envs))

  impossible_reported : (s : Reported) (envs : List EnvData) → (all_reported id check s envs).0.impossible ≡ (s.0.impossible && list_all is_irrelevant (map check envs))
  impossible_reported s [] = sym (with_true s.0.impossible)
  impossible_reported s (e ∷ envs) = impossible_reported (reported id (check e) s) envs ∙ exchanged (is_irrelevant (check e)) s.0.impossible (list_all is_irrelevant (map check envs))

  errors_reported : (s : Reported) (envs : List EnvData) → (all_reported id check s envs).1 ≡ all_added same_error s.1 (flat_map (errors_of id) (map check envs))
  errors_reported s [] = refl
  errors_reported s (e ∷ envs) = errors_reported (reported id (check e) s) envs ∙ sym (fold-append (added same_error) s.1 (errors_of id (check e)) (flat_map (errors_of id) (map check envs)))

-- a template whose condition is not too deep
module _ (schema : SchemaData) (t : TemplateData) (flat : is_too_deep schema t ≡ false) (es : List ValidationError) where
  abbrev pub whole_reported : Reported
  whole_reported = all_reported t.id (condition_check schema t) (record { accepted = true; impossible = true }, es) (linked_envs schema t)

  pub reported_accepted : whole_reported.0.accepted ≡ is_accepted schema t
  reported_accepted = accepted_reported t.id (condition_check schema t) (record { accepted = true; impossible = true }, es) (linked_envs schema t) ∙ sym (ap (λ b. not b && list_all passes (checks_of schema t)) flat)

  pub reported_impossible : whole_reported.0.impossible ≡ is_impossible schema t
  reported_impossible = impossible_reported t.id (condition_check schema t) (record { accepted = true; impossible = true }, es) (linked_envs schema t) ∙ sym (ap (λ b. not b && list_all is_irrelevant (checks_of schema t)) flat)

  pub reported_errors : whole_reported.1 ≡ all_added same_error es (refusals schema t)
  reported_errors =
      errors_reported t.id (condition_check schema t) (record { accepted = true; impossible = true }, es) (linked_envs schema t) ∙
      sym (ap (λ b. all_added same_error es (if b then too_deep t.id ∷ [] else flat_map (errors_of t.id) (checks_of schema t))) flat)
