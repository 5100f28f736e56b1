-- What an operator comes to, by what its operands come to.
use Rattle.std.specs.Prelude.{ℕ, Bool, ◌&&◌, List, [], ◌∷◌, ◌++◌, Option, Some, None, map, option_map, is_some}
use Rattle.std.specs.List.{list_all}
use Rattle.std.specs.Option.{option_and_then, option_map_or, unwrap_or}
use Rattle.schema_types.specs.Ty.{Ty, true_type, false_type}
use Rattle.schema_core.specs.Schema.{SchemaData}
use Rattle.schema_core.specs.EnvData.{EnvData}
use Rattle.policy_expressions.specs.declared.kinds.Loc.{Loc}
use Rattle.policy_expressions.specs.declared.kinds.PatternElem.{PatternElem}
use Rattle.policy_expressions.specs.declared.kinds.UnaryOp.{UnaryOp}
use Rattle.policy_expressions.specs.declared.kinds.UnaryOp.TheVariants.{Not, Neg, IsEmpty}
use Rattle.policy_expressions.specs.declared.kinds.BinaryOp.{BinaryOp}
use Rattle.policy_expressions.specs.declared.kinds.BinaryOp.TheVariants.{Eq, Add, Sub, Mul, GetTag, HasTag}
use Rattle.policy_expressions.specs.declared.functions.ExtensionFunction.{ExtensionFunction}
use Rattle.policy_expressions.specs.Tree.{ite, conj, disj, unary, binary, attr, has, like, is_type, call, set, rec, Trees, no_trees, tree, Mark, mark_of, named_of}
use Rattle.policy_expressions.specs.Plain.{Plain}
use Rattle.typing_spec.specs.Capability.{Capability}
use Rattle.typing_spec.specs.Signatures.{bool_type, long_type, call_type, signature_of}
use Rattle.typing_spec.specs.Environment.{truth_type, known_id}
use Rattle.typing_spec.specs.Rules as rule
use Rattle.typing_spec.specs.Rules.{are_one, attribute_of}
use Rattle.typing_spec.specs.Typing.{Typed, Typing, typing, at, unreached, if_typing, and_typing, or_typing, binary_caps, has_caps, types_in, trees_in, record_type, named_in}
use Rattle.findings.specs.declared.helps.LubContext.TheVariants as context
use Rattle.findings.specs.Finding.{Finding, UndefinedFunction}
use Rattle.findings.specs.Access.{attribute_access}
use Rattle.typecheck_rules.specs.Expected.{a_boolean, a_string, an_entity, an_owner, an_argument, no_help, like_help, test_help, contents_help, of_unary, left_of, right_of}
use Rattle.typecheck_rules.specs.Walked.{Walked, Success, Fail, findings_of, tree_of, has_typing, given_by, lends, one, expect, expect_if, ended, one_walked, two_walked, given_by_all, trees_walked, findings_of_all, all_walked}
use Rattle.typecheck_rules.specs.Own.{of_both, no_join, binary_found, attribute_found, set_found, call_found}

-- where an expression stands
abbrev pub place : Plain → Option Loc
place x = (mark_of x).loc

-- the type that an operand gives
abbrev pub type_given : Walked → Option Ty
type_given w = option_map (λ a. a.type) (given_by w)

-- what stands in the place of an operand that is not reached, and is not walked
abbrev pub skipped : Walked
skipped = Success (typing true_type [] unreached)

-- a part without operands
abbrev pub leaf_walked : (Mark (Option Ty) → Typed) → Mark (Unit {0}) → Option Ty → Walked
leaf_walked part m (Some t) = Success (typing t [] (part (at t m)))
leaf_walked part m None = Fail (part (lends None m)) []

-- an operator of one operand; where it has no type it gives that of its table
abbrev pub unary_given : UnaryOp → Ty
unary_given Not = bool_type
unary_given Neg = long_type
unary_given IsEmpty = bool_type

abbrev pub unary_typing : UnaryOp → Mark (Unit {0}) → Typing → Option Typing
unary_typing o m a = option_map (λ t. typing t [] (unary o a.tree (at t m))) (rule.unary_type o a.type)

abbrev pub unary_fitting : UnaryOp → Mark (Unit {0}) → Walked → Walked
unary_fitting o m v = one_walked (unary_typing o m) (unary o (tree_of v) (lends (Some (unary_given o)) m)) [] v

abbrev pub unary_walked : UnaryOp → Mark (Unit {0}) → Option Loc → Walked → Walked
unary_walked o m l v = unary_fitting o m (expect (of_unary o) l v)

-- `like` and `is`
abbrev pub like_typing : List PatternElem → Mark (Unit {0}) → Typing → Option Typing
like_typing p m a = option_map (λ t. typing t [] (like a.tree p (at t m))) (rule.like_type a.type)

abbrev pub like_fitting : List PatternElem → Mark (Unit {0}) → Walked → Walked
like_fitting p m v = one_walked (like_typing p m) (like (tree_of v) p (lends (Some bool_type) m)) [] v

abbrev pub like_walked : List PatternElem → Mark (Unit {0}) → Option Loc → Walked → Walked
like_walked p m l v = like_fitting p m (expect (a_string like_help) l v)

abbrev pub is_typing : List ℕ → Mark (Unit {0}) → Typing → Option Typing
is_typing n m a = option_map (λ t. typing t [] (is_type a.tree n (at t m))) (rule.is_type a.type n)

abbrev pub is_fitting : List ℕ → Mark (Unit {0}) → Walked → Walked
is_fitting n m v = one_walked (is_typing n m) (is_type (tree_of v) n (lends (Some bool_type) m)) [] v

abbrev pub is_walked : List ℕ → Mark (Unit {0}) → Option Loc → Walked → Walked
is_walked n m l v = is_fitting n m (expect (an_entity test_help) l v)

module _ (schema : SchemaData) where
  -- `has`, by whether the attribute is known to be there
  abbrev pub has_typing_of : Bool → Plain → List ℕ → Mark (Unit {0}) → Typing → Option Typing
  has_typing_of known x n m a = option_map
      (λ t. typing t (has_caps (is_some (attribute_of schema a.type n)) x n) (has a.tree n (at t m)))
      (rule.has_type schema known a.type n)

  abbrev pub has_fitting : Bool → Plain → List ℕ → Mark (Unit {0}) → Walked → Walked
  has_fitting known x n m v =
      one_walked (has_typing_of known x n m) (has (tree_of v) n (lends (Some bool_type) m)) [] v

  abbrev pub has_walked : Bool → Plain → List ℕ → Mark (Unit {0}) → Walked → Walked
  has_walked known x n m v = has_fitting known x n m (expect (an_owner contents_help) (place x) v)

  module _ (env : EnvData) where
    -- `.`, by whether the attribute is known to be there; an attribute that may be absent gives its type
    abbrev pub attr_typing : Bool → List ℕ → Mark (Unit {0}) → Typing → Option Typing
    attr_typing known n m a =
        option_map (λ t. typing t [] (attr a.tree n (at t m))) (rule.attr_type schema known a.type n)

    abbrev pub attr_given : List ℕ → Ty → Option Ty
    attr_given n t = option_map (λ a. a.attr_type) (attribute_of schema t n)

    abbrev pub attr_found : Bool → List ℕ → Mark (Unit {0}) → Typing → List Finding
    attr_found known n m a = attribute_found schema (attribute_access env a.tree n)
        known n m.loc a.type (attribute_of schema a.type n)

    abbrev pub attr_fitting : Bool → List ℕ → Mark (Unit {0}) → Walked → Walked
    attr_fitting known n m v =
        one_walked (attr_typing known n m)
        (attr (tree_of v) n (lends (option_and_then (attr_given n) (type_given v)) m))
        (option_map_or (attr_found known n m) (given_by v) []) v

    abbrev pub attr_walked : Bool → List ℕ → Mark (Unit {0}) → Option Loc → Walked → Walked
    attr_walked known n m l v = attr_fitting known n m (expect (an_owner no_help) l v)

    -- an operator of two operands, both of which are walked, by whether the tag that they name is known to be
    -- there; where it has no type it gives Bool, but arithmetic a long, `==` what is known of the ids,
    -- `hasTag` what its left operand's type gives, and `getTag` nothing
    abbrev pub binary_given : BinaryOp → Plain → Plain → Option Ty → Option Ty
    binary_given Eq x y t =
        Some (option_map_or truth_type (are_one (known_id env x) (known_id env y)) bool_type)
    binary_given Add x y t = Some long_type
    binary_given Sub x y t = Some long_type
    binary_given Mul x y t = Some long_type
    binary_given GetTag x y t = None
    binary_given HasTag x y t = option_map (λ u. rule.possible (rule.may_have_tags schema u)) t
    binary_given o x y t = Some bool_type

    abbrev pub binary_typing : BinaryOp → Bool → Plain → Plain →
        Mark (Unit {0}) → Typing → Typing → Option Typing
    binary_typing o known x y m a b =
        option_map (λ t. typing t (binary_caps o x y) (binary o a.tree b.tree (at t m)))
        (rule.binary_type schema env o known x y a.type b.type)

    -- the type by the rule, of the types that are given
    abbrev pub binary_type_given : BinaryOp → Bool → Plain → Plain → Option Ty → Option Ty → Option Ty
    binary_type_given o known x y t u =
        option_and_then (λ s. option_and_then (rule.binary_type schema env o known x y s) u) t

    abbrev pub binary_own : BinaryOp → Bool → Plain → Plain →
        Mark (Unit {0}) → Option Ty → Option Ty → List Finding
    binary_own o known x y m t u =
        binary_found schema o known y (binary_type_given o known x y t u) (place x) (place y) m.loc t u

    abbrev pub binary_fitting : BinaryOp → Bool → Plain → Plain → Mark (Unit {0}) → Walked → Walked → Walked
    binary_fitting o known x y m v w =
        two_walked (binary_typing o known x y m)
        (binary o (tree_of v) (tree_of w) (lends (binary_given o x y (type_given v)) m))
        (binary_own o known x y m (type_given v) (type_given w)) v w

    abbrev pub binary_walked : BinaryOp → Bool → Plain → Plain → Mark (Unit {0}) → Walked → Walked → Walked
    binary_walked o known x y m v w =
        binary_fitting o known x y m (expect_if (left_of o) (place x) v) (expect_if (right_of o) (place y) w)

-- an operand that is reached unless the first operand is false, and one that is reached unless it is true
abbrev pub unless_false : Ty → Walked → Walked
unless_false false_type w = skipped
unless_false t w = w

abbrev pub unless_true : Ty → Walked → Walked
unless_true true_type w = skipped
unless_true t w = w

-- behind a first operand that has to be true: with what it makes known; with what was known before, where
-- it failed
abbrev pub reached_after : Walked → (List Capability → Walked) → Walked → Walked
reached_after (Success a) after before = unless_false a.type (after a.caps)
reached_after (Fail t fs) after before = before

-- behind a first operand that has to be false
abbrev pub reached_besides : Walked → Walked → Walked
reached_besides (Success a) w = unless_true a.type w
reached_besides (Fail t fs) w = w

-- `&&`
abbrev pub and_sides : Mark (Unit {0}) → Walked → Walked → Walked
and_sides m v w =
    ended (has_typing v && has_typing w)
    (option_and_then (λ a. and_typing a.type a.caps a.tree m (given_by w)) (given_by v))
    (conj (tree_of v) (tree_of w) (lends (Some bool_type) m)) (findings_of v ++ findings_of w)

abbrev pub and_walked : Mark (Unit {0}) → Option Loc → Walked → (List Capability → Walked) → Walked → Walked
and_walked m r v after before =
    and_sides m v (reached_after v (λ ds. expect a_boolean r (after ds)) (expect a_boolean r before))

-- `||`
abbrev pub or_sides : Mark (Unit {0}) → Walked → Walked → Walked
or_sides m v w =
    ended (has_typing v && has_typing w)
    (option_and_then (λ a. or_typing a.type a.caps a.tree m (given_by w)) (given_by v))
    (disj (tree_of v) (tree_of w) (lends (Some bool_type) m)) (findings_of v ++ findings_of w)

abbrev pub or_walked : Mark (Unit {0}) → Option Loc → Walked → Walked → Walked
or_walked m r v w = or_sides m v (reached_besides v (expect a_boolean r w))

-- a test without a type is one of which nothing is known
abbrev pub test_given : Walked → Typing
test_given v = unwrap_or (given_by v) (typing bool_type [] (tree_of v))

-- the branches need a join where the test is not known
abbrev pub branches_found : Mark (Unit {0}) → Ty → Option Ty → Option Ty → List Finding
branches_found m true_type t u = []
branches_found m false_type t u = []
branches_found m s t u = of_both (no_join context.Conditional m.loc) t u

abbrev pub if_typing_of : Mark (Unit {0}) → Typing → Option Typing → Option Typing → Option Typing
if_typing_of m a b c = if_typing a.type a.caps a.tree m b c

abbrev pub if_parts : Mark (Unit {0}) → Walked → Walked → Walked → Walked
if_parts m u v w =
    ended (has_typing u && (has_typing v && has_typing w))
    (if_typing_of m (test_given u) (given_by v) (given_by w))
    (ite (tree_of u) (tree_of v) (tree_of w) (lends None m)) (findings_of u ++ (findings_of v ++
    (findings_of w ++ branches_found m (test_given u).type (type_given v) (type_given w))))

abbrev pub if_walked : Mark (Unit {0}) → Walked → (List Capability → Walked) → Walked → Walked → Walked
if_walked m u after before w = if_parts m u (reached_after u after before) (reached_besides u w)

-- a set literal
abbrev pub set_typing : Mark (Unit {0}) → List Typing → Option Typing
set_typing m ys = option_map (λ t. typing t [] (set (trees_in ys) (at t m))) (rule.set_type (types_in ys))

abbrev pub set_walked : Mark (Unit {0}) → List Walked → Walked
set_walked m ws =
    all_walked (set_typing m) (set (trees_walked ws) (lends None m))
    (findings_of_all ws ++ option_map_or (λ ys. set_found m.loc (types_in ys)) (given_by_all ws) []) ws

-- a record literal
abbrev pub Fields : Type 0
Fields = List (List ℕ × Walked)

abbrev pub parts_of : Fields → List Walked
parts_of es = map (λ e. e.1) es

abbrev pub given_fields : Fields → Option (List (List ℕ × Typing))
given_fields [] = Some []
given_fields (e ∷ es) = option_and_then (λ a. option_map (λ ys. (e.0, a) ∷ ys) (given_fields es)) (given_by e.1)

abbrev pub record_typing : Mark (Unit {0}) → List (List ℕ × Typing) → Typing
record_typing m ys = typing (record_type ys) [] (rec (named_in ys) (at (record_type ys) m))

abbrev pub record_walked : Mark (Unit {0}) → Fields → Walked
record_walked m es =
    ended (list_all has_typing (parts_of es)) (option_map (record_typing m) (given_fields es))
    (rec (named_of (map (λ e. (e.0, tree_of e.1)) es)) (lends None m)) (findings_of_all (parts_of es))

-- the arguments have to be of the types, one after another
abbrev pub arguments_fitting : List Ty → Trees (Mark (Unit {0})) → List Walked → List Walked
arguments_fitting (t ∷ ts) (tree x xs) (w ∷ ws) =
    expect (an_argument t) (place x) w ∷ arguments_fitting ts xs ws
arguments_fitting ts xs ws = ws

-- only where the call has no finding of its own
abbrev pub arguments_walked : List Finding → List Ty → Trees (Mark (Unit {0})) → List Walked → List Walked
arguments_walked [] ts xs ws = arguments_fitting ts xs ws
arguments_walked (f ∷ fs) ts xs ws = ws

abbrev pub call_typing : List ℕ → Option ExtensionFunction →
    Trees (Mark (Unit {0})) → Mark (Unit {0}) → List Typing → Option Typing
call_typing f o xs m ys =
    option_map (λ t. typing t [] (call f (trees_in ys) (at t m))) (call_type o xs (types_in ys))

abbrev pub call_fitting : List ℕ → ExtensionFunction → Trees (Mark (Unit {0})) →
    Mark (Unit {0}) → List Finding → List Walked → Walked
call_fitting f g xs m own ws = all_walked (call_typing f (Some g) xs m)
    (call f (trees_walked ws) (lends (Some (signature_of g).result) m)) (own ++ findings_of_all ws) ws

-- the arguments of an undefined function are not looked at
abbrev pub call_walked : List ℕ → Option ExtensionFunction →
    Trees (Mark (Unit {0})) → Mark (Unit {0}) → List Walked → Walked
call_walked f None xs m ws = Fail (call f no_trees (lends None m)) (one (UndefinedFunction f) m.loc)
call_walked f (Some g) xs m ws = call_fitting f g xs m (call_found g xs m.loc)
    (arguments_walked (call_found g xs m.loc) (signature_of g).arguments xs ws)
