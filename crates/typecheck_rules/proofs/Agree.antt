-- The walk says each fault.
use Rattle.std.proofs.Common.{◌≡◌, ◌∙◌, sym, ap, subst, Bool, true, false, ◌&&◌, List, [], ◌∷◌, ◌++◌, Option, Some, None, map, refl, Contains, IfSome, not-suc-le-zero, true≢false}
use Rattle.std.specs.List.{list_all}
use Rattle.std.proofs.lemmas.List.Elements.{Contains-append_left, Contains-push}
use Rattle.std.specs.Option.{option_map_or}
use Rattle.schema_core.specs.Schema.{SchemaData}
use Rattle.schema_core.specs.EnvData.{EnvData}
use Rattle.policy_expressions.specs.declared.kinds.Loc.{Loc}
use Rattle.policy_expressions.specs.declared.kinds.BinaryOp.{BinaryOp}
use Rattle.policy_expressions.specs.Functions.{function_of}
use Rattle.policy_expressions.specs.Tree.{lit, var, slot, ite, conj, disj, unary, binary, attr, has, like, is_type, call, set, rec, Trees, no_trees, tree, Named, no_named, named, Mark}
use Rattle.policy_expressions.specs.Plain.{Plain}
use Rattle.typing_spec.specs.Capability.{Capability, has_cap}
use Rattle.typing_spec.specs.Typing.{Typed, Typing, attribute_known, tag_known, types_in}
use Rattle.findings.specs.Finding.{Finding}
use Rattle.typecheck_rules.specs.Expected.{Expected, a_string, an_entity, an_owner, no_help, like_help, test_help, contents_help, of_unary, left_of, right_of}
use Rattle.typecheck_rules.specs.Walked.{Walked, Success, Fail, typing_of, findings_of, has_typing, given_by_all, expect, expect_if, one_walked, findings_of_all}
use Rattle.typecheck_rules.specs.Own.{set_found}
use Rattle.typecheck_rules.specs.Operators.{place, unary_walked, like_walked, is_walked, has_walked, attr_walked, binary_walked, set_typing, set_walked, Fields, parts_of, record_walked}
use Rattle.typecheck_rules.specs.Walk.{walked, walked_all, walked_named}
use Rattle.typecheck_rules.specs.Faults.{at_typed, at_both, and_faults, or_faults, if_faults, call_faults, faults, faults_all, faults_named}
use Rattle.typecheck_rules.specs.Laws.{WalkIsExact, TypedHasNoFaults}
use Rattle.typecheck_rules.proofs.Parts.{Sub, sub_self, sub_left, sub_both, sub_none}
use Rattle.typecheck_rules.proofs.Steps.{ended_says, expect_says, expect_fails, one_says, two_says, step_reported, steps_reported}
use Rattle.plain_lemmas.proofs.Booleans.{and_false}
use Rattle.typecheck_rules.proofs.Reported.{and_reported, or_reported, if_reported}
use Rattle.typecheck_rules.proofs.Lists.{all_reported, all_says, call_reported}
use Rattle.typecheck_rules.proofs.Exact.{exact, exact_all}

-- the operand of an operator that failed is reported, where it is to fit
fit_says : (x : Expected) (l : Option Loc) (rule : Typing → Option Typing) (failed : Typed) (own : List Finding) (v : Walked) → has_typing v ≡ false →
    Sub (findings_of v) (findings_of (one_walked rule failed own (expect x l v)))
fit_says x l rule failed own v e f i = one_says rule failed own (expect x l v) (expect_fails x l v e) f (expect_says x l v f i)

if_says : (o : Option Expected) (l : Option Loc) (v : Walked) → Sub (findings_of v) (findings_of (expect_if o l v))
if_says None l v = sub_self (findings_of v)
if_says (Some x) l v = expect_says x l v

if_fails : (o : Option Expected) (l : Option Loc) (v : Walked) → has_typing v ≡ false → has_typing (expect_if o l v) ≡ false
if_fails None l v e = e
if_fails (Some x) l v e = expect_fails x l v e

both_fail : (o p : Option Expected) (l r : Option Loc) (v w : Walked) → (has_typing v && has_typing w) ≡ false → (has_typing (expect_if o l v) && has_typing (expect_if p r w)) ≡ false
both_fail o p l r (Fail t fs) w e = ap (λ b. b && has_typing (expect_if p r w)) (if_fails o l (Fail t fs) refl)
both_fail o p l r (Success a) w e = ap (λ b. has_typing (expect_if o l (Success a)) && b) (if_fails p r w e) ∙ and_false (has_typing (expect_if o l (Success a)))

-- a record says what is found of its fields
typed_all : (ws : List Walked) → list_all has_typing ws ≡ true → findings_of_all ws ≡ []
typed_all [] e = refl
typed_all (Success a ∷ ws) e = typed_all ws e
typed_all (Fail t fs ∷ ws) e = absurd (true≢false (sym e))

record_reported : (es : Fields) (m : Mark (Unit {0})) (fs : List Finding) → Sub fs (findings_of_all (parts_of es)) → Sub fs (findings_of (record_walked m es))
record_reported es m fs h = by (list_all has_typing (parts_of es)) refl
  where
    by : (b : Bool) → list_all has_typing (parts_of es) ≡ b → Sub fs (findings_of (record_walked m es))
    by true e = λ f i. sub_none (findings_of (record_walked m es)) f (subst (λ gs. Contains gs f) (typed_all (parts_of es) e) (h f i))
    by false e = ended_says (list_all has_typing (parts_of es)) _ _ (findings_of_all (parts_of es)) fs e h

module _ (schema : SchemaData) (env : EnvData) where
  binary_says : (o : BinaryOp) (known : Bool) (x y : Plain) (m : Mark (Unit {0})) (v w : Walked) → (has_typing v && has_typing w) ≡ false →
      Sub (findings_of v ++ findings_of w) (findings_of (binary_walked schema env o known x y m v w))
  binary_says o known x y m v w e f i =
      two_says _ _ _ (expect_if (left_of o) (place x) v) (expect_if (right_of o) (place y) w) (both_fail (left_of o) (right_of o) (place x) (place y) v w e) f
      (sub_both (findings_of v) (findings_of w) (findings_of (expect_if (left_of o) (place x) v)) (findings_of (expect_if (right_of o) (place y) w)) (if_says (left_of o) (place x) v) (if_says (right_of o) (place y) w) f i)

  mutual
    pub reported : (cs : List Capability) (e : Plain) → Sub (faults schema env cs e) (findings_of (walked schema env cs e))
    reported cs (lit l m) = sub_none (findings_of (walked schema env cs (lit l m)))
    reported cs (var v m) = sub_none (findings_of (walked schema env cs (var v m)))
    reported cs (slot i m) = sub_none []
    reported cs (ite x y z m) =
        subst (λ fs. Sub fs (findings_of (walked schema env cs (ite x y z m))))
        (λ i. at_typed (exact schema env cs x i) (faults schema env cs x ++ (faults schema env cs y ++ faults schema env cs z))
        (λ a. if_faults m (place x) a.type a (faults schema env cs y) (exact schema env (cs ++ a.caps) y i) (faults schema env (cs ++ a.caps) y) (exact schema env cs z i) (faults schema env cs z)))
        (if_reported m (place x) (walked schema env cs x) (λ ds. walked schema env (cs ++ ds) y) (walked schema env cs y) (walked schema env cs z)
        (faults schema env cs x) (faults schema env cs y) (faults schema env cs z) (λ ds. faults schema env (cs ++ ds) y) (reported cs x) (reported cs y) (reported cs z) (λ ds. reported (cs ++ ds) y))
    reported cs (conj x y m) =
        subst (λ fs. Sub fs (findings_of (walked schema env cs (conj x y m))))
        (λ i. at_typed (exact schema env cs x i) (faults schema env cs x ++ faults schema env cs y)
        (λ a. and_faults (place x) (place y) a.type (faults schema env cs y) (exact schema env (cs ++ a.caps) y i) (faults schema env (cs ++ a.caps) y)))
        (and_reported m (place y) (place x) (walked schema env cs x) (λ ds. walked schema env (cs ++ ds) y) (walked schema env cs y)
        (faults schema env cs x) (faults schema env cs y) (λ ds. faults schema env (cs ++ ds) y) (reported cs x) (reported cs y) (λ ds. reported (cs ++ ds) y))
    reported cs (disj x y m) =
        subst (λ fs. Sub fs (findings_of (walked schema env cs (disj x y m))))
        (λ i. at_typed (exact schema env cs x i) (faults schema env cs x ++ faults schema env cs y) (λ a. or_faults (place x) (place y) a.type (exact schema env cs y i) (faults schema env cs y)))
        (or_reported m (place y) (place x) (walked schema env cs x) (walked schema env cs y) (faults schema env cs x) (faults schema env cs y) (reported cs x) (reported cs y))
    reported cs (unary o x m) =
        subst (λ t. Sub (at_typed t (faults schema env cs x) (λ a. findings_of (unary_walked o m (place x) (Success a)))) (findings_of (walked schema env cs (unary o x m)))) (exact schema env cs x)
        (step_reported (unary_walked o m (place x)) (walked schema env cs x) (faults schema env cs x) (λ v e. fit_says (of_unary o) (place x) _ _ [] v e) (reported cs x))
    reported cs (binary o x y m) =
        subst (λ fs. Sub fs (findings_of (walked schema env cs (binary o x y m))))
        (λ i. at_both (exact schema env cs x i) (exact schema env cs y i) (faults schema env cs x ++ faults schema env cs y)
        (λ a b. findings_of (binary_walked schema env o (has_cap cs (tag_known x y)) x y m (Success a) (Success b))))
        (steps_reported (binary_walked schema env o (has_cap cs (tag_known x y)) x y m) (walked schema env cs x) (walked schema env cs y) (faults schema env cs x) (faults schema env cs y)
        (binary_says o (has_cap cs (tag_known x y)) x y m) (reported cs x) (reported cs y))
    reported cs (attr x n m) =
        subst (λ t. Sub (at_typed t (faults schema env cs x) (λ a. findings_of (attr_walked schema env (has_cap cs (attribute_known x n)) n m (place x) (Success a)))) (findings_of (walked schema env cs (attr x n m)))) (exact schema env cs x)
        (step_reported (attr_walked schema env (has_cap cs (attribute_known x n)) n m (place x)) (walked schema env cs x) (faults schema env cs x) (λ v e. fit_says (an_owner no_help) (place x) _ _ _ v e) (reported cs x))
    reported cs (has x n m) =
        subst (λ t. Sub (at_typed t (faults schema env cs x) (λ a. findings_of (has_walked schema (has_cap cs (attribute_known x n)) x n m (Success a)))) (findings_of (walked schema env cs (has x n m)))) (exact schema env cs x)
        (step_reported (has_walked schema (has_cap cs (attribute_known x n)) x n m) (walked schema env cs x) (faults schema env cs x) (λ v e. fit_says (an_owner contents_help) (place x) _ _ [] v e) (reported cs x))
    reported cs (like x p m) =
        subst (λ t. Sub (at_typed t (faults schema env cs x) (λ a. findings_of (like_walked p m (place x) (Success a)))) (findings_of (walked schema env cs (like x p m)))) (exact schema env cs x)
        (step_reported (like_walked p m (place x)) (walked schema env cs x) (faults schema env cs x) (λ v e. fit_says (a_string like_help) (place x) _ _ [] v e) (reported cs x))
    reported cs (is_type x n m) =
        subst (λ t. Sub (at_typed t (faults schema env cs x) (λ a. findings_of (is_walked n m (place x) (Success a)))) (findings_of (walked schema env cs (is_type x n m)))) (exact schema env cs x)
        (step_reported (is_walked n m (place x)) (walked schema env cs x) (faults schema env cs x) (λ v e. fit_says (an_entity test_help) (place x) _ _ [] v e) (reported cs x))
    reported cs (call f xs m) =
        subst (λ t. Sub (call_faults f (function_of f) xs m t (faults_all schema env cs xs)) (findings_of (walked schema env cs (call f xs m)))) (exact_all schema env cs xs)
        (call_reported f (function_of f) xs m (walked_all schema env cs xs) (faults_all schema env cs xs) (reported_all cs xs))
    reported cs (set xs m) =
        subst (λ t. Sub (at_typed t (faults_all schema env cs xs) (λ ts. findings_of (set_walked m (map Success ts)))) (findings_of (walked schema env cs (set xs m)))) (exact_all schema env cs xs)
        (all_reported (set_walked m) (walked_all schema env cs xs) (faults_all schema env cs xs)
        (λ e. all_says (set_typing m) _ _ (faults_all schema env cs xs) (walked_all schema env cs xs) e
        (sub_left (faults_all schema env cs xs) (findings_of_all (walked_all schema env cs xs)) (option_map_or (λ ys. set_found m.loc (types_in ys)) (given_by_all (walked_all schema env cs xs)) []) (reported_all cs xs))))
    reported cs (rec xs m) = record_reported (walked_named schema env cs xs) m (faults_named schema env cs xs) (reported_named cs xs)

    pub reported_all : (cs : List Capability) (xs : Trees (Mark (Unit {0}))) → Sub (faults_all schema env cs xs) (findings_of_all (walked_all schema env cs xs))
    reported_all cs no_trees = sub_none []
    reported_all cs (tree x xs) =
        sub_both (faults schema env cs x) (faults_all schema env cs xs) (findings_of (walked schema env cs x)) (findings_of_all (walked_all schema env cs xs)) (reported cs x) (reported_all cs xs)

    pub reported_named : (cs : List Capability) (xs : Named (Mark (Unit {0}))) → Sub (faults_named schema env cs xs) (findings_of_all (parts_of (walked_named schema env cs xs)))
    reported_named cs no_named = sub_none []
    reported_named cs (named k x xs) =
        sub_both (faults schema env cs x) (faults_named schema env cs xs) (findings_of (walked schema env cs x)) (findings_of_all (parts_of (walked_named schema env cs xs))) (reported cs x) (reported_named cs xs)

pub walk_exact : WalkIsExact
walk_exact schema env cs e = record { exact = exact schema env cs e; reported = reported schema env cs e }

-- where nothing can be reported there is nothing
none_in : (fs : List Finding) → Sub fs [] → fs ≡ []
none_in [] h = refl
none_in (f ∷ fs) h = absurd (no_more (h f (Contains-append_left (f ∷ []) fs f (Contains-push [] f))))
  where
    no_more : Contains [] f → ⊥
    no_more i = not-suc-le-zero i.1

typed_none : (w : Walked) (fs : List Finding) → Sub fs (findings_of w) → IfSome (typing_of w) (λ a. fs ≡ [])
typed_none (Success a) fs h = none_in fs h
typed_none (Fail t gs) fs h = tt

pub typed_no_faults : TypedHasNoFaults
typed_no_faults schema env cs e = subst (λ o. IfSome o (λ a. faults schema env cs e ≡ [])) (exact schema env cs e) (typed_none (walked schema env cs e) (faults schema env cs e) (reported schema env cs e))
