-- What is impossible as it is written is never true.
use Rattle.std.proofs.Common.{◌≡◌, Bool, true, false, not, refl, List, [], ◌∷◌, Option, Some, None, map, nat_lt, sym, ap, ◌∙◌, subst, inl, inr, if◌then◌else◌}
use Rattle.std.specs.List.{list_all}
use Rattle.std.specs.Option.{option_map_or}
use Rattle.findings.specs.Finding.{Finding}
use Rattle.schema_types.specs.declared.kinds.Primitive.TheVariants as kind
use Rattle.schema_types.specs.Ty.{Ty, never, true_type, false_type, primitive, any_set, set_of, record_of, any_entity, entity, action, extension}
use Rattle.schema_core.specs.EnvData.{EnvData, unlinked_envs}
use Rattle.schema_core.specs.Schema.{SchemaData}
use Rattle.policy_expressions.specs.Plain.{Plain}
use Rattle.policy_expressions.specs.Tree.{depth_of}
use Rattle.policy_set.specs.Condition.{condition_of, written_of, IsPolicy}
use Rattle.typing_spec.specs.Typing.{Typed, Typing, types}
use Rattle.link_spec.specs.Laws.{StaticsAreUnlinked}
use Rattle.reads_spec.specs.Among.{IsIn}
use Rattle.typecheck_rules.specs.Check.{TooDeep, CheckIsExact, checked, check_by, check_of, condition_walked}
use Rattle.typecheck_rules.specs.Walked.{findings_of}
use Rattle.policy_typecheck.specs.Policies.{is_irrelevant, is_too_deep, checks_of}
use Rattle.policy_typecheck.specs.Verdict.{verdict_by, verdict_of}
use Rattle.policy_typecheck.specs.declared.verdict.Verdict.TheVariants.{Never, May}
use Rattle.policy_validate.proofs.OwnConditions.{without_slots}
use Rattle.manifest_computation.specs.Environments.{EnvironmentsAreThere}
use Rattle.policy_review.specs.Laws.{NeverIsNeverTrue, ImpossibleIsNeverTrue}
use Rattle.policy_review.proofs.Never.{at_each}
use Rattle.plain_lemmas.proofs.Booleans.{and_parts_of}

of_type : (t : Ty) (tree : Typed) (fs : List Finding) → is_irrelevant (check_of t tree fs) ≡ true → verdict_by t ≡ Never
of_type false_type tree fs h = refl
of_type never tree fs h = absurd (cc h)
of_type true_type tree fs h = absurd (cc h)
of_type (primitive kind.Bool) tree fs h = absurd (cc h)
of_type (primitive kind.Long) tree fs h = absurd (cc h)
of_type (primitive kind.String) tree fs h = absurd (cc h)
of_type any_set tree fs h = absurd (cc h)
of_type (set_of u) tree fs h = absurd (cc h)
of_type (record_of xs o) tree fs h = absurd (cc h)
of_type any_entity tree fs h = absurd (cc h)
of_type (entity ns) tree fs h = absurd (cc h)
of_type (action n xs) tree fs h = absurd (cc h)
of_type (extension n) tree fs h = absurd (cc h)

module _ (exact : CheckIsExact) (schema : SchemaData) (e : Plain) where
  typed_never : (env : EnvData) → is_irrelevant (checked schema env e) ≡ true → verdict_of schema e env ≡ Never
  typed_never env h = by (nat_lt 200 (depth_of e)) (types schema env [] e) (sym (ap is_irrelevant (exact schema env e)) ∙ h)
    where
      by : (deep : Bool) (o : Option Typing) →
          is_irrelevant (if deep then TooDeep else check_by o (findings_of (condition_walked schema env e))) ≡ true →
          option_map_or (λ x. verdict_by x.type) o May ≡ Never
      by true o k = absurd (cc k)
      by false None k = absurd (cc k)
      by false (Some a) k = of_type a.type a.tree (findings_of (condition_walked schema env e)) k

  never_in : (envs : List EnvData) → list_all is_irrelevant (map (λ env. checked schema env e) envs) ≡ true →
      (env : EnvData) → IsIn env envs → verdict_of schema e env ≡ Never
  never_in [] h env i = absurd i
  never_in (v ∷ vs) h env (inl same) =
      subst (λ v. verdict_of schema e v ≡ Never) same (typed_never v (and_parts_of (is_irrelevant (checked schema v e)) (list_all is_irrelevant (map (λ env. checked schema env e) vs)) h).0)
  never_in (v ∷ vs) h env (inr i) =
      never_in vs (and_parts_of (is_irrelevant (checked schema v e)) (list_all is_irrelevant (map (λ env. checked schema env e) vs)) h).1 env i

pub impossible_never_true : NeverIsNeverTrue → StaticsAreUnlinked → CheckIsExact → EnvironmentsAreThere → ImpossibleIsNeverTrue
impossible_never_true nevers unlinked exact there schema valid s set once accepted p i impossible q whole conforms store stored =
    let policy = at_each IsPolicy s.policies set.policies p i in
    let t = written_of p in
    let no = without_slots p policy in
    let has = there schema q whole conforms in
    let irrelevant : list_all is_irrelevant (checks_of schema t) ≡ true = (and_parts_of (not (is_too_deep schema t)) (list_all is_irrelevant (checks_of schema t)) impossible).1 in
    let each : list_all is_irrelevant (map (λ env. checked schema env (condition_of t)) (unlinked_envs schema)) ≡ true =
    subst (λ envs. list_all is_irrelevant (map (λ env. checked schema env (condition_of t)) envs) ≡ true) (unlinked schema t no.0 no.1) irrelevant in
    let says : verdict_of schema p.condition has.env ≡ Never =
    subst (λ c. verdict_of schema c has.env ≡ Never) (sym policy.condition) (never_in exact schema (condition_of t) (unlinked_envs schema) each has.env has.among) in
    nevers schema valid s set once accepted p i has.env has.among says q conforms has.type has.in_env has.of_request store stored
