-- What checks say is what typing says, where they pass; and they all pass exactly where the policies are accepted.
use Rattle.std.proofs.Common.{◌≡◌, ◌≤◌, ℕ, suc, Bool, true, false, ◌&&◌, List, [], ◌∷◌, map, length, nat_lt, Option, Some, None, is_some, IsTrue, IsSomeAnd, refl, sym, ap, ◌∙◌, if◌then◌else◌, arith}
use Rattle.std.proofs.lemmas.Bool.{le-ltb}
use Rattle.std.specs.Option.{option_map_or}
use Rattle.std.specs.List.{AllByRecursion, list_all, filter_map, cons_option}
use Rattle.policy_values.specs.declared.entity_uid.EntityUID.{EntityUID}
use Rattle.findings.specs.Finding.{Finding}
use Rattle.schema_types.specs.declared.kinds.Primitive.TheVariants.{Bool as BoolType}
use Rattle.schema_types.specs.Ty.{Ty, true_type, false_type, primitive}
use Rattle.schema_core.specs.EnvData.{EnvData, action_in}
use Rattle.schema_core.specs.Schema.{SchemaData}
use Rattle.policy_expressions.specs.Tree.{depth_of}
use Rattle.policy_expressions.specs.Plain.{Plain}
use Rattle.policy_set.specs.Data.{PolicyData, TemplateData}
use Rattle.policy_set.specs.Condition.{condition_of}
use Rattle.typing_spec.specs.Operands.{is_boolean}
use Rattle.typing_spec.specs.Typing.{Typed, Typing, types}
use Rattle.typecheck_rules.specs.Check.{Check, Success, Irrelevant, Fail, TooDeep, check_of, check_by, checked, condition_walked, CheckIsExact}
use Rattle.typecheck_rules.specs.Walked.{findings_of}
use Rattle.policy_typecheck.specs.Answer.{Reports}
use Rattle.policy_typecheck.specs.declared.PolicyCheck.{PolicyCheck}
use Rattle.policy_typecheck.specs.declared.PolicyCheck.TheVariants as reported
use Rattle.link_spec.specs.Accepted.{IsTypedIn, IsAcceptedTemplate}
use Rattle.link_spec.specs.Linked.{linked_envs}
use Rattle.level_spec.specs.Levels.{greater, least_level}
use Rattle.policy_typecheck.specs.Policies.{passes}
use Rattle.policy_typecheck.specs.Verdict.{verdict_by, verdict_of}
use Rattle.policy_typecheck.specs.declared.verdict.Verdict.{Verdict}
use Rattle.policy_typecheck.specs.declared.verdict.Verdict.TheVariants.{Never, May}
use Rattle.policy_validate.specs.AcceptanceLaws.{LeavesAll}
use Rattle.policy_validate.specs.Checks.{condition_in}
use Rattle.policy_validate.proofs.Empty.{all_more, all_both}
use Rattle.policy_review.specs.Levels.{greatest, least_level_in, least_level_of}
use Rattle.policy_review.specs.Found.{passed_verdict, level_reported, level_found_in, level_found}
use Rattle.plain_lemmas.proofs.Booleans.{and_parts_of}
use Rattle.plain_lemmas.proofs.Options.{some_injective}

-- ---- verdicts

-- by a check, where it passes
abbrev verdict_in : Check → Option Verdict
verdict_in (Success t) = Some May
verdict_in (Irrelevant t) = Some Never
verdict_in c = None

verdict_same : (id : List ℕ) (c : Check) (r : PolicyCheck) → Reports id c r → passed_verdict r ≡ verdict_in c
verdict_same id (Success t) (reported.Success u) h = refl
verdict_same id (Irrelevant t) (reported.Irrelevant u) h = refl
verdict_same id (Fail fs) (reported.Fail es) h = refl
verdict_same id TooDeep (reported.Fail es) h = refl
verdict_same id c r h = absurd h

verdict_passes : (c : Check) → is_some (verdict_in c) ≡ passes c
verdict_passes (Success t) = refl
verdict_passes (Irrelevant t) = refl
verdict_passes (Fail fs) = refl
verdict_passes TooDeep = refl

by_type : (u : Ty) (t : Typed) (fs : List Finding) (v : Verdict) → verdict_in (check_of u t fs) ≡ Some v → v ≡ verdict_by u
by_type true_type t fs v h = sym (some_injective h)
by_type false_type t fs v h = sym (some_injective h)
by_type (primitive BoolType) t fs v h = sym (some_injective h)
by_type u t fs v h = absurd (cc h)

by_typing : (o : Option Typing) (fs : List Finding) (v : Verdict) → verdict_in (check_by o fs) ≡ Some v → v ≡ option_map_or (λ x. verdict_by x.type) o May
by_typing None fs v h = absurd (cc h)
by_typing (Some x) fs v h = by_type x.type x.tree fs v h

module _ (exact : CheckIsExact) (schema : SchemaData) (env : EnvData) (e : Plain) (id : List ℕ) (r : PolicyCheck) (tells : Reports id (checked schema env e) r) where
  pub verdict_is : (v : Verdict) → passed_verdict r ≡ Some v → v ≡ verdict_of schema e env
  verdict_is v h = by (nat_lt 200 (depth_of e)) (ap verdict_in (sym (exact schema env e)) ∙ sym (verdict_same id (checked schema env e) r tells) ∙ h)
    where
      fs : List Finding
      fs = findings_of (condition_walked schema env e)

      by : (b : Bool) → verdict_in (if b then TooDeep else check_by (types schema env [] e) fs) ≡ Some v → v ≡ verdict_of schema e env
      by true k = absurd (cc k)
      by false k = by_typing (types schema env [] e) fs v k

  pub verdict_found : is_some (passed_verdict r) ≡ passes (checked schema env e)
  verdict_found = ap is_some (verdict_same id (checked schema env e) r tells) ∙ verdict_passes (checked schema env e)

-- ---- levels

level_by_type : (a : Option EntityUID) (u : Ty) (t : Typed) (fs : List Finding) → is_boolean u ≡ true → level_reported a (condition_in (check_of u t fs)) ≡ least_level a t
level_by_type a true_type t fs h = refl
level_by_type a false_type t fs h = refl
level_by_type a (primitive BoolType) t fs h = refl
level_by_type a u t fs h = absurd (cc h)

level_by : (a : Option EntityUID) (o : Option Typing) (fs : List Finding) → IsSomeAnd o (λ x. IsTrue (is_boolean x.type)) → level_reported a (condition_in (check_by o fs)) ≡ option_map_or (λ x. least_level a x.tree) o (Some 0)
level_by a None fs h = absurd h
level_by a (Some x) fs h = level_by_type a x.type x.tree fs h

module _ (exact : CheckIsExact) (schema : SchemaData) where
  levels_same : (e : Plain) → depth_of e ≤ 200 → (envs : List EnvData) → IsTypedIn schema e envs → greatest (map (level_found_in schema e) envs) ≡ greatest (map (least_level_in schema e) envs)
  levels_same e depth [] typed = refl
  levels_same e depth (env ∷ envs) typed = λ i. greater (here i) (levels_same e depth envs typed.1 i)
    where
      here : level_found_in schema e env ≡ least_level_in schema e env
      here =
          let fs = findings_of (condition_walked schema env e) in
          ap (λ c. level_reported (action_in env) (condition_in c)) (exact schema env e ∙ ap (λ b. if b then TooDeep else check_by (types schema env [] e) fs) (le-ltb 200 (depth_of e) depth))
          ∙ level_by (action_in env) (types schema env [] e) fs typed.0

  pub accepted_level : (t : TemplateData) → IsAcceptedTemplate schema t → level_found schema t ≡ least_level_of schema t
  accepted_level t accepted = levels_same (condition_of t) accepted.depth (linked_envs schema t) accepted.typed

-- ---- all pass

-- a list of which nothing is left out
module _ {X Y : Type 0} (f : X → Option Y) where
  no_longer : (xs : List X) → length (filter_map f xs) ≤ length xs
  no_longer [] = omega arith
  no_longer (x ∷ xs) = by (f x) (no_longer xs)
    where
      by : (o : Option Y) → length (filter_map f xs) ≤ length xs → length (cons_option o (filter_map f xs)) ≤ suc (length xs)
      by None h = omega arith
      by (Some y) h = omega arith

  each_left : (xs : List X) → length (filter_map f xs) ≡ length xs → AllByRecursion (λ x. is_some (f x) ≡ true) xs
  each_left [] h = tt
  each_left (x ∷ xs) h = by (f x) refl (no_longer xs) (each_left xs) h
    where
      by : (o : Option Y) → f x ≡ o → length (filter_map f xs) ≤ length xs → (length (filter_map f xs) ≡ length xs → AllByRecursion (λ y. is_some (f y) ≡ true) xs) →
          length (cons_option o (filter_map f xs)) ≡ suc (length xs) → (is_some (f x) ≡ true) × AllByRecursion (λ y. is_some (f y) ≡ true) xs
      by None e shorter rest k = absurd (omega (arith, shorter, k))
      by (Some y) e shorter rest k = (ap is_some e, rest (omega (arith, k)))

  all_left : (xs : List X) → AllByRecursion (λ x. is_some (f x) ≡ true) xs → length (filter_map f xs) ≡ length xs
  all_left [] h = refl
  all_left (x ∷ xs) h = by (f x) h.0 (all_left xs h.1)
    where
      by : (o : Option Y) → is_some o ≡ true → length (filter_map f xs) ≡ length xs → length (cons_option o (filter_map f xs)) ≡ suc (length xs)
      by None e k = absurd (cc e)
      by (Some y) e k = ap suc k

module _ {X : Type 0} (f : X → Bool) where
  each_true : (xs : List X) → list_all f xs ≡ true → AllByRecursion (λ x. f x ≡ true) xs
  each_true [] h = tt
  each_true (x ∷ xs) h = let both = and_parts_of (f x) (list_all f xs) h in (both.0, each_true xs both.1)

  all_true : (xs : List X) → AllByRecursion (λ x. f x ≡ true) xs → list_all f xs ≡ true
  all_true [] h = refl
  all_true (x ∷ xs) h = λ i. h.0 i && all_true xs h.1 i

-- a check passes exactly where it leaves the condition
left_passes : (c : Check) → is_some (condition_in c) ≡ passes c
left_passes (Success t) = refl
left_passes (Irrelevant t) = refl
left_passes (Fail fs) = refl
left_passes TooDeep = refl

module _ (schema : SchemaData) (ps : List PolicyData) where
  abbrev passes_in : EnvData → PolicyData → Bool
  passes_in env p = passes (checked schema env p.condition)

  abbrev PassesEach : List EnvData → PolicyData → Type 0
  PassesEach envs p = list_all (λ env. passes_in env p) envs ≡ true

  passed_left : (envs : List EnvData) → AllByRecursion (PassesEach envs) ps → AllByRecursion (LeavesAll schema ps) envs
  passed_left [] h = tt
  passed_left (env ∷ envs) h = (
    all_left (λ p. condition_in (checked schema env p.condition)) ps
        (all_more (PassesEach (env ∷ envs)) (λ p. is_some (condition_in (checked schema env p.condition)) ≡ true)
        (λ p k. left_passes (checked schema env p.condition) ∙ (and_parts_of (passes_in env p) (list_all (λ v. passes_in v p) envs) k).0) ps h),
    passed_left envs (all_more (PassesEach (env ∷ envs)) (PassesEach envs) (λ p k. (and_parts_of (passes_in env p) (list_all (λ v. passes_in v p) envs) k).1) ps h),
  )

  left_passed : (envs : List EnvData) → AllByRecursion (LeavesAll schema ps) envs → AllByRecursion (PassesEach envs) ps
  left_passed [] h = each ps
    where
      each : (qs : List PolicyData) → AllByRecursion (PassesEach []) qs
      each [] = tt
      each (q ∷ qs) = (refl, each qs)
  left_passed (env ∷ envs) h =
      all_both (λ p. is_some (condition_in (checked schema env p.condition)) ≡ true) (PassesEach envs) (PassesEach (env ∷ envs))
      (λ p a b. λ i. (sym (left_passes (checked schema env p.condition)) ∙ a) i && b i) ps
      (each_left (λ p. condition_in (checked schema env p.condition)) ps h.0) (left_passed envs h.1)

  pub all_passed_left : (envs : List EnvData) → list_all (λ p. list_all (λ env. passes_in env p) envs) ps ≡ true → AllByRecursion (LeavesAll schema ps) envs
  all_passed_left envs h = passed_left envs (each_true (λ p. list_all (λ env. passes_in env p) envs) ps h)

  pub all_left_passed : (envs : List EnvData) → AllByRecursion (LeavesAll schema ps) envs → list_all (λ p. list_all (λ env. passes_in env p) envs) ps ≡ true
  all_left_passed envs h = all_true (λ p. list_all (λ env. passes_in env p) envs) ps (left_passed envs h)
