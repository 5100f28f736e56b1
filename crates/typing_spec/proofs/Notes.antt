-- The top of a typed expression has the expression's type and place.
use Rattle.std.proofs.Common.{◌≡◌, List, [], ◌++◌, Option, Some, None, is_some, refl, IfSome}
use Rattle.std.specs.Prelude.{option_map}
use Rattle.std.specs.Option.{option_and_then}
use Rattle.schema_types.specs.declared.kinds.Primitive.TheVariants.{Bool as BoolType, Long, String}
use Rattle.schema_types.specs.Ty.{Ty, true_type, false_type, primitive}
use Rattle.schema_core.specs.EnvData.{EnvData}
use Rattle.schema_core.specs.Schema.{SchemaData}
use Rattle.policy_expressions.specs.Functions.{function_of}
use Rattle.policy_expressions.specs.Tree.{lit, var, slot, ite, conj, disj, unary, binary, attr, has, like, is_type, call, set, rec, Mark, mark_of}
use Rattle.policy_expressions.specs.Plain.{Plain}
use Rattle.typing_spec.specs.Capability.{Capability, has_cap, common}
use Rattle.typing_spec.specs.Environment.{type_of_literal, type_of_variable}
use Rattle.typing_spec.specs.Rules as rule
use Rattle.typing_spec.specs.Signatures.{call_type}
use Rattle.typing_spec.specs.Typing.{Typed, Typing, typing, at, unreached, attribute_known, tag_known, if_typing, and_caps, and_typing, or_caps, or_typing, binary_caps, has_caps, types_in, trees_in, record_type, named_in, types, types_all, types_named}

-- at the top stands the type, at the place
abbrev pub IsMarked : Mark (Unit {0}) → Typing → Type 0
IsMarked m x = mark_of x.tree ≡ at x.type m

last : (m : Mark (Unit {0})) (f : Ty → Typing) (w : Option Ty) → ((t : Ty) → IsMarked m (f t)) → IfSome (option_map f w) (IsMarked m)
last m f None h = tt
last m f (Some t) h = h t

step : {A : Type 0} (m : Mark (Unit {0})) (f : A → Option Typing) (o : Option A) → ((x : A) → IfSome (f x) (IsMarked m)) → IfSome (option_and_then f o) (IsMarked m)
step m f None h = tt
step m f (Some x) h = h x

mapped : {A : Type 0} (m : Mark (Unit {0})) (f : A → Typing) (o : Option A) → ((x : A) → IsMarked m (f x)) → IfSome (option_map f o) (IsMarked m)
mapped m f None h = tt
mapped m f (Some x) h = h x

if_marked : (t : Ty) (cs : List Capability) (x : Typed) (m : Mark (Unit {0})) (a b : Option Typing) → IfSome (if_typing t cs x m a b) (IsMarked m)
if_marked true_type cs x m a b = mapped m (λ y. typing y.type (y.caps ++ cs) (ite x y.tree unreached (at y.type m))) a (λ y. refl)
if_marked false_type cs x m a b = mapped m (λ z. typing z.type z.caps (ite x unreached z.tree (at z.type m))) b (λ z. refl)
if_marked (primitive BoolType) cs x m a b =
    step m (λ y. option_and_then (λ z. option_map (λ t. typing t (common z.caps (y.caps ++ cs)) (ite x y.tree z.tree (at t m))) (rule.strict_join y.type z.type)) b) a (λ y.
    step m (λ z. option_map (λ t. typing t (common z.caps (y.caps ++ cs)) (ite x y.tree z.tree (at t m))) (rule.strict_join y.type z.type)) b (λ z.
    last m (λ t. typing t (common z.caps (y.caps ++ cs)) (ite x y.tree z.tree (at t m))) (rule.strict_join y.type z.type) (λ t. refl)))
if_marked (primitive Long) cs x m a b = tt
if_marked (primitive String) cs x m a b = tt
if_marked t cs x m a b = tt

and_rest : (t : Ty) (cs : List Capability) (x : Typed) (m : Mark (Unit {0})) (b : Option Typing) → IfSome (option_and_then (λ y. option_map (λ w. typing w (and_caps y.type cs y.caps) (conj x y.tree (at w m))) (rule.and_type t y.type)) b) (IsMarked m)
and_rest t cs x m b =
    step m (λ y. option_map (λ w. typing w (and_caps y.type cs y.caps) (conj x y.tree (at w m))) (rule.and_type t y.type)) b (λ y.
    last m (λ w. typing w (and_caps y.type cs y.caps) (conj x y.tree (at w m))) (rule.and_type t y.type) (λ w. refl))

and_marked : (t : Ty) (cs : List Capability) (x : Typed) (m : Mark (Unit {0})) (b : Option Typing) → IfSome (and_typing t cs x m b) (IsMarked m)
and_marked false_type cs x m b = refl
and_marked t cs x m b = and_rest t cs x m b

or_rest : (t : Ty) (cs : List Capability) (x : Typed) (m : Mark (Unit {0})) (b : Option Typing) → IfSome (option_and_then (λ y. option_map (λ w. typing w (or_caps t y.type cs y.caps) (disj x y.tree (at w m))) (rule.or_type t y.type)) b) (IsMarked m)
or_rest t cs x m b =
    step m (λ y. option_map (λ w. typing w (or_caps t y.type cs y.caps) (disj x y.tree (at w m))) (rule.or_type t y.type)) b (λ y.
    last m (λ w. typing w (or_caps t y.type cs y.caps) (disj x y.tree (at w m))) (rule.or_type t y.type) (λ w. refl))

or_marked : (t : Ty) (cs : List Capability) (x : Typed) (m : Mark (Unit {0})) (b : Option Typing) → IfSome (or_typing t cs x m b) (IsMarked m)
or_marked true_type cs x m b = refl
or_marked t cs x m b = or_rest t cs x m b

module _ (schema : SchemaData) (env : EnvData) where
  pub marked : (cs : List Capability) (e : Plain) → IfSome (types schema env cs e) (IsMarked (mark_of e))
  marked cs (lit l m) = last m (λ t. typing t [] (lit l (at t m))) (type_of_literal schema l) (λ t. refl)
  marked cs (var v m) = last m (λ t. typing t [] (var v (at t m))) (type_of_variable schema env v) (λ t. refl)
  marked cs (slot i m) = refl
  marked cs (ite x y z m) = step m (λ a. if_typing a.type a.caps a.tree m (types schema env (cs ++ a.caps) y) (types schema env cs z)) (types schema env cs x) (λ a. if_marked a.type a.caps a.tree m (types schema env (cs ++ a.caps) y) (types schema env cs z))
  marked cs (conj x y m) = step m (λ a. and_typing a.type a.caps a.tree m (types schema env (cs ++ a.caps) y)) (types schema env cs x) (λ a. and_marked a.type a.caps a.tree m (types schema env (cs ++ a.caps) y))
  marked cs (disj x y m) = step m (λ a. or_typing a.type a.caps a.tree m (types schema env cs y)) (types schema env cs x) (λ a. or_marked a.type a.caps a.tree m (types schema env cs y))
  marked cs (unary o x m) = step m (λ a. option_map (λ t. typing t [] (unary o a.tree (at t m))) (rule.unary_type o a.type)) (types schema env cs x) (λ a. last m (λ t. typing t [] (unary o a.tree (at t m))) (rule.unary_type o a.type) (λ t. refl))
  marked cs (binary o x y m) =
      step m (λ a. option_and_then (λ b. option_map (λ t. typing t (binary_caps o x y) (binary o a.tree b.tree (at t m))) (rule.binary_type schema env o (has_cap cs (tag_known x y)) x y a.type b.type)) (types schema env cs y)) (types schema env cs x) (λ a.
      step m (λ b. option_map (λ t. typing t (binary_caps o x y) (binary o a.tree b.tree (at t m))) (rule.binary_type schema env o (has_cap cs (tag_known x y)) x y a.type b.type)) (types schema env cs y) (λ b.
      last m (λ t. typing t (binary_caps o x y) (binary o a.tree b.tree (at t m))) (rule.binary_type schema env o (has_cap cs (tag_known x y)) x y a.type b.type) (λ t. refl)))
  marked cs (attr x n m) = step m (λ a. option_map (λ t. typing t [] (attr a.tree n (at t m))) (rule.attr_type schema (has_cap cs (attribute_known x n)) a.type n)) (types schema env cs x) (λ a. last m (λ t. typing t [] (attr a.tree n (at t m))) (rule.attr_type schema (has_cap cs (attribute_known x n)) a.type n) (λ t. refl))
  marked cs (has x n m) =
      step m (λ a. option_map (λ t. typing t (has_caps (is_some (rule.attribute_of schema a.type n)) x n) (has a.tree n (at t m))) (rule.has_type schema (has_cap cs (attribute_known x n)) a.type n)) (types schema env cs x) (λ a.
      last m (λ t. typing t (has_caps (is_some (rule.attribute_of schema a.type n)) x n) (has a.tree n (at t m))) (rule.has_type schema (has_cap cs (attribute_known x n)) a.type n) (λ t. refl))
  marked cs (like x p m) = step m (λ a. option_map (λ t. typing t [] (like a.tree p (at t m))) (rule.like_type a.type)) (types schema env cs x) (λ a. last m (λ t. typing t [] (like a.tree p (at t m))) (rule.like_type a.type) (λ t. refl))
  marked cs (is_type x n m) = step m (λ a. option_map (λ t. typing t [] (is_type a.tree n (at t m))) (rule.is_type a.type n)) (types schema env cs x) (λ a. last m (λ t. typing t [] (is_type a.tree n (at t m))) (rule.is_type a.type n) (λ t. refl))
  marked cs (call f xs m) = step m (λ ys. option_map (λ t. typing t [] (call f (trees_in ys) (at t m))) (call_type (function_of f) xs (types_in ys))) (types_all schema env cs xs) (λ ys. last m (λ t. typing t [] (call f (trees_in ys) (at t m))) (call_type (function_of f) xs (types_in ys)) (λ t. refl))
  marked cs (set xs m) = step m (λ ys. option_map (λ t. typing t [] (set (trees_in ys) (at t m))) (rule.set_type (types_in ys))) (types_all schema env cs xs) (λ ys. last m (λ t. typing t [] (set (trees_in ys) (at t m))) (rule.set_type (types_in ys)) (λ t. refl))
  marked cs (rec xs m) = mapped m (λ ys. typing (record_type ys) [] (rec (named_in ys) (at (record_type ys) m))) (types_named schema env cs xs) (λ ys. refl)
