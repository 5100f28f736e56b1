-- The walk gives the typing exactly where there is one.
use Rattle.std.proofs.Common.{◌≡◌, ◌∙◌, ap, Bool, List, [], ◌∷◌, ◌++◌, Option, Some, None, option_map, refl}
use Rattle.std.specs.Option.{option_and_then}
use Rattle.schema_types.specs.Ty.{Ty}
use Rattle.schema_core.specs.Schema.{SchemaData}
use Rattle.schema_core.specs.EnvData.{EnvData}
use Rattle.policy_expressions.specs.declared.kinds.Loc.{Loc}
use Rattle.policy_expressions.specs.declared.kinds.BinaryOp.{BinaryOp}
use Rattle.policy_expressions.specs.Functions.{function_of}
use Rattle.policy_expressions.specs.Tree.{lit, var, slot, ite, conj, disj, unary, binary, attr, has, like, is_type, call, set, rec, Trees, no_trees, tree, Named, no_named, named, Mark}
use Rattle.policy_expressions.specs.Plain.{Plain}
use Rattle.typing_spec.specs.Capability.{Capability, has_cap}
use Rattle.typing_spec.specs.Environment.{type_of_literal, type_of_variable}
use Rattle.typing_spec.specs.Rules as rule
use Rattle.typing_spec.specs.Typing.{Typed, Typing, typing, at, attribute_known, tag_known, if_typing, and_typing, or_typing, types, types_all, types_named}
use Rattle.typecheck_rules.specs.Expected.{Expected, a_string, an_entity, an_owner, no_help, like_help, test_help, contents_help, of_unary, left_of, right_of}
use Rattle.typecheck_rules.specs.Walked.{Walked, typing_of, expect, expect_if, both}
use Rattle.typecheck_rules.specs.Operators.{place, leaf_walked, unary_typing, like_typing, is_typing, has_typing_of, attr_typing, binary_typing, binary_walked, set_typing, record_typing, call_typing}
use Rattle.typecheck_rules.specs.Walk.{walked, walked_all, walked_named}
use Rattle.typecheck_rules.proofs.Steps.{IfFalse, if_false, one_exact, two_exact, expect_exact}
use Rattle.typecheck_rules.proofs.Refusals.{Unless, unary_refuses, like_refuses, is_refuses, has_refuses, attr_refuses, left_refuses, right_refuses}
use Rattle.typecheck_rules.proofs.Sides.{mapped_none, and_exact, or_exact}
use Rattle.typecheck_rules.proofs.Branches.{if_exact}
use Rattle.typecheck_rules.proofs.Lists.{typings_of, typings_of_fields, all_exact, fields_exact, call_exact}

leaf_exact : (part : Mark (Option Ty) → Typed) (m : Mark (Unit {0})) (o : Option Ty) → typing_of (leaf_walked part m o) ≡ option_map (λ t. typing t [] (part (at t m))) o
leaf_exact part m None = refl
leaf_exact part m (Some t) = refl

-- an operator of one operand that has to fit
fit_exact : (x : Expected) (l : Option Loc) (make : Typing → Ty → Typing) (rule : Ty → Option Ty) → ((t : Ty) → IfFalse (x.fits t) (rule t ≡ None)) → (v : Walked) →
    option_and_then (λ a. option_map (make a) (rule a.type)) (typing_of (expect x l v)) ≡ option_and_then (λ a. option_map (make a) (rule a.type)) (typing_of v)
fit_exact x l make rule refuses v = expect_exact x l (λ a. option_map (make a) (rule a.type)) (λ a. mapped_none (make a) (rule a.type) (x.fits a.type) (refuses a.type)) v

-- of two, where one of them or both have to fit
fit_if : {B : Type 0} (schema : SchemaData) (o : Option Expected) (l : Option Loc) (k : Typing → Option B) → ((a : Typing) → Unless schema o a.type (k a ≡ None)) → (v : Walked) →
    option_and_then k (typing_of (expect_if o l v)) ≡ option_and_then k (typing_of v)
fit_if schema None l k refuses v = refl
fit_if schema (Some x) l k refuses v = expect_exact x l k refuses v

unless_then : (schema : SchemaData) (o : Option Expected) (t : Ty) {A B : Type 0} (k : A → Option B) (a : Option A) → ((x : A) → Unless schema o t (k x ≡ None)) → Unless schema o t (option_and_then k a ≡ None)
unless_then schema None t k a h = tt
unless_then schema (Some x) t k None h = if_false (x.fits t) refl
unless_then schema (Some x) t k (Some y) h = h y

unless_mapped : (schema : SchemaData) (o : Option Expected) (t : Ty) {A B : Type 0} (f : A → B) (a : Option A) → Unless schema o t (a ≡ None) → Unless schema o t (option_map f a ≡ None)
unless_mapped schema None t f a h = tt
unless_mapped schema (Some x) t f a h = mapped_none f a (x.fits t) h

module _ (schema : SchemaData) (env : EnvData) where
  both_exact : (o : BinaryOp) (known : Bool) (x y : Plain) (m : Mark (Unit {0})) (v w : Walked) →
      both (binary_typing schema env o known x y m) (typing_of (expect_if (left_of o) (place x) v)) (typing_of (expect_if (right_of o) (place y) w)) ≡
      both (binary_typing schema env o known x y m) (typing_of v) (typing_of w)
  both_exact o known x y m v w =
      fit_if schema (left_of o) (place x) (λ a. option_and_then (binary_typing schema env o known x y m a) (typing_of (expect_if (right_of o) (place y) w)))
      (λ a. unless_then schema (left_of o) a.type (binary_typing schema env o known x y m a) (typing_of (expect_if (right_of o) (place y) w))
      (λ b. unless_mapped schema (left_of o) a.type _ (rule.binary_type schema env o known x y a.type b.type) (left_refuses schema env known x y o a.type b.type))) v ∙
      within (typing_of v)
    where
      within : (a : Option Typing) → option_and_then (λ a. option_and_then (binary_typing schema env o known x y m a) (typing_of (expect_if (right_of o) (place y) w))) a ≡
          option_and_then (λ a. option_and_then (binary_typing schema env o known x y m a) (typing_of w)) a
      within None = refl
      within (Some a) =
          fit_if schema (right_of o) (place y) (binary_typing schema env o known x y m a)
          (λ b. unless_mapped schema (right_of o) b.type _ (rule.binary_type schema env o known x y a.type b.type) (right_refuses schema env known x y o a.type b.type)) w

  binary_exact : (o : BinaryOp) (known : Bool) (x y : Plain) (m : Mark (Unit {0})) (v w : Walked) →
      typing_of (binary_walked schema env o known x y m v w) ≡ both (binary_typing schema env o known x y m) (typing_of v) (typing_of w)
  binary_exact o known x y m v w =
      two_exact (binary_typing schema env o known x y m) _ _ (expect_if (left_of o) (place x) v) (expect_if (right_of o) (place y) w) ∙ both_exact o known x y m v w

  mutual
    pub exact : (cs : List Capability) (e : Plain) → typing_of (walked schema env cs e) ≡ types schema env cs e
    exact cs (lit l m) = leaf_exact (lit l) m (type_of_literal schema l)
    exact cs (var v m) = leaf_exact (var v) m (type_of_variable schema env v)
    exact cs (slot i m) = refl
    exact cs (ite x y z m) =
        if_exact m (place x) (walked schema env cs x) (λ ds. walked schema env (cs ++ ds) y) (walked schema env cs y) (walked schema env cs z) ∙
        (λ i. option_and_then (λ a. if_typing a.type a.caps a.tree m (exact (cs ++ a.caps) y i) (exact cs z i)) (exact cs x i))
    exact cs (conj x y m) =
        and_exact m (place y) (place x) (walked schema env cs x) (λ ds. walked schema env (cs ++ ds) y) (walked schema env cs y) ∙
        (λ i. option_and_then (λ a. and_typing a.type a.caps a.tree m (exact (cs ++ a.caps) y i)) (exact cs x i))
    exact cs (disj x y m) =
        or_exact m (place y) (place x) (walked schema env cs x) (walked schema env cs y) ∙ (λ i. option_and_then (λ a. or_typing a.type a.caps a.tree m (exact cs y i)) (exact cs x i))
    exact cs (unary o x m) =
        one_exact (unary_typing o m) _ [] (expect (of_unary o) (place x) (walked schema env cs x)) ∙
        (fit_exact (of_unary o) (place x) (λ a t. typing t [] (unary o a.tree (at t m))) (rule.unary_type o) (unary_refuses o) (walked schema env cs x) ∙ ap (option_and_then (unary_typing o m)) (exact cs x))
    exact cs (binary o x y m) =
        binary_exact o (has_cap cs (tag_known x y)) x y m (walked schema env cs x) (walked schema env cs y) ∙
        (λ i. both (binary_typing schema env o (has_cap cs (tag_known x y)) x y m) (exact cs x i) (exact cs y i))
    exact cs (attr x n m) =
        one_exact (attr_typing schema env (has_cap cs (attribute_known x n)) n m) _ _ (expect (an_owner no_help) (place x) (walked schema env cs x)) ∙
        (fit_exact (an_owner no_help) (place x) (λ a t. typing t [] (attr a.tree n (at t m))) (λ t. rule.attr_type schema (has_cap cs (attribute_known x n)) t n) (attr_refuses schema (has_cap cs (attribute_known x n)) n) (walked schema env cs x) ∙
        ap (option_and_then (attr_typing schema env (has_cap cs (attribute_known x n)) n m)) (exact cs x))
    exact cs (has x n m) =
        one_exact (has_typing_of schema (has_cap cs (attribute_known x n)) x n m) _ [] (expect (an_owner contents_help) (place x) (walked schema env cs x)) ∙
        (expect_exact (an_owner contents_help) (place x) (has_typing_of schema (has_cap cs (attribute_known x n)) x n m)
        (λ a. mapped_none _ (rule.has_type schema (has_cap cs (attribute_known x n)) a.type n) ((an_owner contents_help).fits a.type) (has_refuses schema (has_cap cs (attribute_known x n)) n a.type)) (walked schema env cs x) ∙
        ap (option_and_then (has_typing_of schema (has_cap cs (attribute_known x n)) x n m)) (exact cs x))
    exact cs (like x p m) =
        one_exact (like_typing p m) _ [] (expect (a_string like_help) (place x) (walked schema env cs x)) ∙
        (fit_exact (a_string like_help) (place x) (λ a t. typing t [] (like a.tree p (at t m))) rule.like_type like_refuses (walked schema env cs x) ∙ ap (option_and_then (like_typing p m)) (exact cs x))
    exact cs (is_type x n m) =
        one_exact (is_typing n m) _ [] (expect (an_entity test_help) (place x) (walked schema env cs x)) ∙
        (fit_exact (an_entity test_help) (place x) (λ a t. typing t [] (is_type a.tree n (at t m))) (λ t. rule.is_type t n) (is_refuses n) (walked schema env cs x) ∙ ap (option_and_then (is_typing n m)) (exact cs x))
    exact cs (call f xs m) = call_exact f (function_of f) xs m (walked_all schema env cs xs) ∙ ap (option_and_then (call_typing f (function_of f) xs m)) (exact_all cs xs)
    exact cs (set xs m) = all_exact (set_typing m) _ _ (walked_all schema env cs xs) ∙ ap (option_and_then (set_typing m)) (exact_all cs xs)
    exact cs (rec xs m) = fields_exact (record_typing m) _ _ (walked_named schema env cs xs) ∙ ap (option_map (record_typing m)) (exact_named cs xs)

    pub exact_all : (cs : List Capability) (xs : Trees (Mark (Unit {0}))) → typings_of (walked_all schema env cs xs) ≡ types_all schema env cs xs
    exact_all cs no_trees = refl
    exact_all cs (tree x xs) = λ i. option_and_then (λ a. option_map (λ ys. a ∷ ys) (exact_all cs xs i)) (exact cs x i)

    pub exact_named : (cs : List Capability) (xs : Named (Mark (Unit {0}))) → typings_of_fields (walked_named schema env cs xs) ≡ types_named schema env cs xs
    exact_named cs no_named = refl
    exact_named cs (named k x xs) = λ i. option_and_then (λ a. option_map (λ ys. (k, a) ∷ ys) (exact_named cs xs i)) (exact cs x i)
