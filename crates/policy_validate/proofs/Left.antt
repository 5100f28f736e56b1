-- Which conditions checks leave, and what typing says of them.
use Rattle.std.proofs.Common.{◌≡◌, ◌≤◌, suc, true, ◌&&◌, List, [], ◌∷◌, length, map, Option, Some, None, option_map, is_some, IsTrue, IsSomeAnd, refl, ap, ◌∙◌, arith, if◌then◌else◌}
use Rattle.std.proofs.lemmas.Bool.{le-ltb}
use Rattle.std.specs.List.{AllByRecursion, filter_map, cons_option, list_all}
use Rattle.findings.specs.Finding.{Finding}
use Rattle.schema_types.specs.declared.kinds.Primitive.TheVariants.{Bool as BoolType}
use Rattle.schema_types.specs.Ty.{Ty, true_type, false_type, primitive}
use Rattle.schema_core.specs.EnvData.{EnvData}
use Rattle.schema_core.specs.Schema.{SchemaData}
use Rattle.policy_expressions.specs.Plain.{Plain}
use Rattle.policy_expressions.specs.Tree.{depth_of}
use Rattle.policy_set.specs.Data.{PolicyData}
use Rattle.typing_spec.specs.Operands.{is_boolean}
use Rattle.typing_spec.specs.Typing.{Typed, Typing, types}
use Rattle.typecheck_rules.specs.Check.{Check, Success, Irrelevant, Fail, TooDeep, check_of, check_by, checked, condition_walked, CheckIsExact}
use Rattle.typecheck_rules.specs.Walked.{findings_of}
use Rattle.policy_typecheck.specs.Policies.{passes}
use Rattle.link_spec.specs.Accepted.{IsTyped, IsTypedIn}
use Rattle.policy_validate.proofs.Empty.{all_more, all_both}
use Rattle.policy_validate.specs.Found.{condition_in, found_conditions}
use Rattle.policy_validate.specs.Typed.{typed_conditions}
use Rattle.policy_validate.specs.AcceptanceLaws.{LeavesAll}

-- a list of which nothing is left out
module _ {X Y : Type 0} (f : X → Option Y) where
  no_longer : (xs : List X) → length (filter_map f xs) ≤ length xs
  no_longer [] = omega arith
  no_longer (x ∷ xs) = by (f x) (no_longer xs)
    where
      by : (o : Option Y) → length (filter_map f xs) ≤ length xs → length (cons_option o (filter_map f xs)) ≤ suc (length xs)
      by None h = omega arith
      by (Some y) h = omega arith

  each_left : (xs : List X) → length (filter_map f xs) ≡ length xs → AllByRecursion (λ x. is_some (f x) ≡ true) xs
  each_left [] h = tt
  each_left (x ∷ xs) h = by (f x) refl (no_longer xs) (each_left xs) h
    where
      by : (o : Option Y) → f x ≡ o → length (filter_map f xs) ≤ length xs → (length (filter_map f xs) ≡ length xs → AllByRecursion (λ y. is_some (f y) ≡ true) xs) →
          length (cons_option o (filter_map f xs)) ≡ suc (length xs) → (is_some (f x) ≡ true) × AllByRecursion (λ y. is_some (f y) ≡ true) xs
      by None e shorter rest k = absurd (omega (arith, shorter, k))
      by (Some y) e shorter rest k = (ap is_some e, rest (omega (arith, k)))

  all_left : (xs : List X) → AllByRecursion (λ x. is_some (f x) ≡ true) xs → length (filter_map f xs) ≡ length xs
  all_left [] h = refl
  all_left (x ∷ xs) h = by (f x) h.0 (all_left xs h.1)
    where
      by : (o : Option Y) → is_some o ≡ true → length (filter_map f xs) ≡ length xs → length (cons_option o (filter_map f xs)) ≡ suc (length xs)
      by None e k = absurd (cc e)
      by (Some y) e k = ap suc k

-- a check passes exactly where it leaves the condition
passing : (c : Check) → passes c ≡ is_some (condition_in c)
passing (Success t) = refl
passing (Irrelevant t) = refl
passing (Fail fs) = refl
passing TooDeep = refl

passes_boolean : (u : Ty) (t : Typed) (fs : List Finding) → is_boolean u ≡ true → passes (check_of u t fs) ≡ true
passes_boolean true_type t fs h = refl
passes_boolean false_type t fs h = refl
passes_boolean (primitive BoolType) t fs h = refl
passes_boolean u t fs h = absurd (cc h)

passes_typed : (o : Option Typing) (fs : List Finding) → IsSomeAnd o (λ x. IsTrue (is_boolean x.type)) → passes (check_by o fs) ≡ true
passes_typed None fs h = absurd h
passes_typed (Some x) fs h = passes_boolean x.type x.tree fs h

some_typed : (o : Option Typing) → IsSomeAnd o (λ x. IsTrue (is_boolean x.type)) → is_some (option_map (λ a. a.tree) o) ≡ true
some_typed None h = absurd h
some_typed (Some x) h = refl

-- what is typed, and not too deep, passes
pub typed_passes : CheckIsExact → (schema : SchemaData) (e : Plain) → depth_of e ≤ 200 → (env : EnvData) → IsTyped schema e env → passes (checked schema env e) ≡ true
typed_passes exact schema e depth env typed =
    let fs = findings_of (condition_walked schema env e) in
    ap passes (exact schema env e ∙ ap (λ b. if b then TooDeep else check_by (types schema env [] e) fs) (le-ltb 200 (depth_of e) depth)) ∙ passes_typed (types schema env [] e) fs typed

module _ (schema : SchemaData) (ps : List PolicyData) where
  -- the policy passes in each of the environments
  abbrev pub PassesIn : List EnvData → PolicyData → Type 0
  PassesIn envs p = list_all passes (map (λ env. checked schema env p.condition) envs) ≡ true

  pub each_passes : (envs : List EnvData) → AllByRecursion (LeavesAll schema ps) envs → AllByRecursion (PassesIn envs) ps
  each_passes [] h = each ps
    where
      each : (qs : List PolicyData) → AllByRecursion (PassesIn []) qs
      each [] = tt
      each (q ∷ qs) = (refl, each qs)
  each_passes (env ∷ envs) h =
      all_both (λ p. is_some (condition_in (checked schema env p.condition)) ≡ true) (PassesIn envs) (PassesIn (env ∷ envs)) (λ p a b. λ i. (passing (checked schema env p.condition) ∙ a) i && b i) ps
      (each_left (λ p. condition_in (checked schema env p.condition)) ps h.0) (each_passes envs h.1)

  pub all_leave : ((env : EnvData) → AllByRecursion (λ p. IsTyped schema p.condition env) ps → found_conditions schema env ps ≡ typed_conditions schema env ps) →
      (envs : List EnvData) → AllByRecursion (λ p. IsTypedIn schema p.condition envs) ps → AllByRecursion (LeavesAll schema ps) envs
  all_leave found [] typed = tt
  all_leave found (env ∷ envs) typed =
      let here : AllByRecursion (λ p. IsTyped schema p.condition env) ps = all_more (λ p. IsTypedIn schema p.condition (env ∷ envs)) (λ p. IsTyped schema p.condition env) (λ p t. t.0) ps typed in (
        ap length (found env here) ∙ all_left (λ p. option_map (λ a. a.tree) (types schema env [] p.condition)) ps
            (all_more (λ p. IsTyped schema p.condition env) (λ p. is_some (option_map (λ a. a.tree) (types schema env [] p.condition)) ≡ true) (λ p. some_typed (types schema env [] p.condition)) ps here),
        all_leave found envs (all_more (λ p. IsTypedIn schema p.condition (env ∷ envs)) (λ p. IsTypedIn schema p.condition envs) (λ p t. t.1) ps typed),
      )
