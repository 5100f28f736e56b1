-- What fails is reported: how an operator that has no type comes to a finding.
use Rattle.std.proofs.Common.{◌≡◌, sym, subst, ℕ, Bool, true, false, ◌&&◌, ◌||◌, List, [], ◌∷◌, ◌++◌, Option, Some, None, Result, Ok, Err, cond, option_map, refl, if◌then◌else◌}
use Rattle.std.specs.Bool.{⊤}
use Rattle.std.specs.Option.{option_and_then, option_map_or, is_some}
use Rattle.std.specs.Result.{result_ok}
use Rattle.schema_types.specs.declared.kinds.Primitive.TheVariants.{Bool as BoolType, Long, String}
use Rattle.schema_types.specs.declared.kinds.LubHelp.{LubHelp}
use Rattle.schema_types.specs.declared.ty.AttributeType.{AttributeType}
use Rattle.schema_types.specs.Ty.{Ty, true_type, false_type, primitive, set_of}
use Rattle.schema_core.specs.Schema.{SchemaData}
use Rattle.schema_core.specs.EnvData.{EnvData}
use Rattle.type_relations.specs.declared.mode.SubtypeMode.TheVariants.{Strict}
use Rattle.type_relations.specs.Join.{join, is_entity, is_record}
use Rattle.policy_expressions.specs.declared.kinds.Loc.{Loc}
use Rattle.policy_expressions.specs.declared.kinds.UnaryOp.{UnaryOp}
use Rattle.policy_expressions.specs.declared.kinds.UnaryOp.TheVariants.{Not, Neg, IsEmpty}
use Rattle.policy_expressions.specs.declared.kinds.BinaryOp.{BinaryOp}
use Rattle.policy_expressions.specs.declared.kinds.BinaryOp.TheVariants.{Eq, Less, LessEq, Add, Sub, Mul, In, Contains, ContainsAll, ContainsAny, GetTag, HasTag}
use Rattle.policy_expressions.specs.Tree.{mark_of}
use Rattle.policy_expressions.specs.Plain.{Plain}
use Rattle.typing_spec.specs.Signatures.{bool_type, long_type, datetime_type, duration_type, same_type}
use Rattle.typing_spec.specs.Environment.{truth_type, known_id}
use Rattle.typing_spec.specs.Rules as rule
use Rattle.typing_spec.specs.Rules.{is_string, is_set, is_entity_set, bool_if, strict_join, are_one, are_disjoint, and_type, or_type, order_type, attribute_of, safe_type, tag_type}
use Rattle.typing_spec.specs.Typing.{Typed, Typing}
use Rattle.findings.specs.declared.helps.LubContext.{LubContext}
use Rattle.findings.specs.declared.helps.LubContext.TheVariants as context
use Rattle.findings.specs.declared.access.AttributeAccess.{AttributeAccess}
use Rattle.findings.specs.Finding.{Finding}
use Rattle.typing_spec.specs.Operands.{is_boolean, is_long}
use Rattle.typecheck_rules.specs.Expected.{Expected, is_typed_set, has_attributes, of_unary, left_of, right_of}
use Rattle.typecheck_rules.specs.Walked.{Walked, Success, Fail, untyped, unexpected, expect_given, expect, expect_if, ended}
use Rattle.typecheck_rules.specs.Own.{if_none, incompatible, is_comparable, wrong, order_wrong, contains_found, tag_found, binary_found, attribute_found}
use Rattle.typecheck_rules.specs.Operators.{place}

abbrev pub NonEmpty : List Finding → Type 0
NonEmpty [] = ⊥
NonEmpty (f ∷ fs) = ⊤

pub prefix : (fs gs : List Finding) → NonEmpty fs → NonEmpty (fs ++ gs)
prefix [] gs h = absurd h
prefix (f ∷ fs) gs h = tt

pub back : (fs gs : List Finding) → NonEmpty gs → NonEmpty (fs ++ gs)
back [] gs h = h
back (f ∷ fs) gs h = tt

-- a typing, or something found
abbrev pub HasFinding : Walked → Type 0
HasFinding (Success a) = ⊤
HasFinding (Fail t fs) = NonEmpty fs

abbrev pub Holds : Bool → Type 0
Holds true = ⊤
Holds false = ⊥

-- a type, or something found
abbrev pub Found : {A : Type 0} → Option A → List Finding → Type 0
Found None fs = NonEmpty fs
Found (Some a) fs = ⊤

pub found_any : {A : Type 0} (o : Option A) (fs : List Finding) → NonEmpty fs → Found o fs
found_any None fs h = h
found_any (Some a) fs h = tt

pub found_mapped : {A B : Type 0} (f : A → B) (o : Option A) (fs : List Finding) → Found o fs → Found (option_map f o) fs
found_mapped f None fs h = h
found_mapped f (Some a) fs h = tt

pub found_if_none : {A : Type 0} (o : Option A) (fs : List Finding) → NonEmpty fs → Found o (if_none o fs)
found_if_none None fs h = h
found_if_none (Some a) fs h = tt

pub ended_full : (b : Bool) (o : Option Typing) (t : Typed) (fs : List Finding) → NonEmpty fs → HasFinding (ended b o t fs)
ended_full true (Some a) t fs h = tt
ended_full false (Some a) t fs h = h
ended_full true None t fs h = h
ended_full false None t fs h = h

pub ended_found : (o : Option Typing) (t : Typed) (fs : List Finding) → Found o fs → HasFinding (ended true o t fs)
ended_found None t fs h = h
ended_found (Some a) t fs h = tt

-- an operand that fits, or something found of it
abbrev pub Fits : Option Expected → Ty → Type 0
Fits None t = ⊤
Fits (Some x) t = Holds (x.fits t)

abbrev pub Fitted : Option Expected → Walked → Type 0
Fitted o (Success a) = Fits o a.type
Fitted o (Fail t fs) = NonEmpty fs

pub fitted : (x : Expected) (l : Option Loc) (v : Walked) → HasFinding v → Fitted (Some x) (expect x l v)
fitted x l (Success a) h = by (x.fits a.type) refl
  where
    by : (b : Bool) → x.fits a.type ≡ b → Fitted (Some x) (cond b (Success a) (Fail (untyped a.tree) (unexpected x l a.type)))
    by true e = subst Holds (sym e) tt
    by false e = tt
fitted x l (Fail t fs) h = of_given (mark_of t).note
  where
    fit : (u : Ty) (b : Bool) → Fitted (Some x) (cond b (Fail t fs) (Fail (untyped t) (fs ++ unexpected x l u)))
    fit u true = h
    fit u false = prefix fs (unexpected x l u) h

    of_given : (n : Option Ty) → Fitted (Some x) (expect_given x l n t fs)
    of_given None = h
    of_given (Some u) = fit u (x.fits u)

pub fitted_if : (o : Option Expected) (l : Option Loc) (v : Walked) → HasFinding v → Fitted o (expect_if o l v)
fitted_if None l (Success a) h = tt
fitted_if None l (Fail t fs) h = h
fitted_if (Some x) l v h = fitted x l v h

-- types that are given where operands fit
gives : (b : Bool) (t : Ty) (fs : List Finding) → Holds b → Found (if b then Some t else None) fs
gives true t fs h = tt
gives false t fs h = absurd h

pub gives_both : (b c : Bool) (t : Ty) (fs : List Finding) → Holds b → Holds c → Found (if b && c then Some t else None) fs
gives_both true true t fs h k = tt
gives_both true false t fs h k = absurd k
gives_both false c t fs h k = absurd h

pub unary_gives : (o : UnaryOp) (t : Ty) (fs : List Finding) → Holds ((of_unary o).fits t) → Found (rule.unary_type o t) fs
unary_gives Not true_type fs h = tt
unary_gives Not false_type fs h = tt
unary_gives Not (primitive BoolType) fs h = tt
unary_gives Not (primitive Long) fs h = absurd h
unary_gives Not (primitive String) fs h = absurd h
unary_gives Not _ fs h = absurd h
unary_gives Neg (primitive Long) fs h = tt
unary_gives Neg (primitive BoolType) fs h = absurd h
unary_gives Neg (primitive String) fs h = absurd h
unary_gives Neg _ fs h = absurd h
unary_gives IsEmpty t fs h = gives (is_set t) bool_type fs h

pub like_gives : (t : Ty) (fs : List Finding) → Holds (is_string t) → Found (rule.like_type t) fs
like_gives t fs h = gives (is_string t) bool_type fs h

pub is_gives : (n : List ℕ) (t : Ty) (fs : List Finding) → Holds (is_entity t) → Found (rule.is_type t n) fs
is_gives n t fs h = gives (is_entity t) _ fs h

-- a join, or why there is none
pub joined : (place : LubContext) (l : Option Loc) (ts : List Ty) (j : Result Ty LubHelp) → Found (result_ok j) (incompatible place l ts j)
joined place l ts (Ok t) = tt
joined place l ts (Err h) = tt

bool_joined : (place : LubContext) (l : Option Loc) (ts : List Ty) (j : Result Ty LubHelp) → Found (bool_if (is_some (result_ok j))) (incompatible place l ts j)
bool_joined place l ts (Ok t) = tt
bool_joined place l ts (Err h) = tt

equal_gives : (d : Bool) (k : Option Bool) (place : LubContext) (l : Option Loc) (ts : List Ty) (j : Result Ty LubHelp) →
    Found (if d then Some false_type else option_map_or (λ b. Some (truth_type b)) k (bool_if (is_some (result_ok j))))
    (if_none (if d then Some false_type else option_map_or (λ b. Some (truth_type b)) k (bool_if (is_some (result_ok j)))) (incompatible place l ts j))
equal_gives true k place l ts j = tt
equal_gives false (Some b) place l ts j = tt
equal_gives false None place l ts (Ok t) = tt
equal_gives false None place l ts (Err h) = tt

order_full : (l r : Option Loc) (t u : Ty) → NonEmpty (order_wrong l r t u)
order_full l r t u = by (same_type t long_type) (same_type u long_type) (is_comparable t) (is_comparable u)
  where
    by : (b c d e : Bool) → NonEmpty (if b then wrong (long_type ∷ []) r u else (if c then wrong (long_type ∷ []) l t else (if d then wrong (t ∷ []) r u else (if e then wrong (u ∷ []) l t else
        (wrong (datetime_type ∷ duration_type ∷ long_type ∷ []) l t ++ wrong (datetime_type ∷ duration_type ∷ long_type ∷ []) r u)))))
    by true c d e = tt
    by false true d e = tt
    by false false true e = tt
    by false false false true = tt
    by false false false false = tt

sum_gives : (t u : Ty) (fs : List Finding) → Holds (is_long t) → Holds (is_long u) → Found (rule.sum_type t u) fs
sum_gives (primitive Long) (primitive Long) fs h k = tt
sum_gives (primitive Long) (primitive BoolType) fs h k = absurd k
sum_gives (primitive Long) (primitive String) fs h k = absurd k
sum_gives (primitive Long) _ fs h k = absurd k
sum_gives (primitive BoolType) u fs h k = absurd h
sum_gives (primitive String) u fs h k = absurd h
sum_gives _ u fs h k = absurd h

contains_gives : (l : Option Loc) (t u : Ty) → Holds (is_typed_set t) → Found (rule.contains_type t u) (contains_found l t u)
contains_gives l (set_of t) u h = bool_joined context.Contains l (t ∷ u ∷ []) (join Strict t u)
contains_gives l _ u h = absurd h

sets_give : (b c : Bool) (place : LubContext) (l : Option Loc) (ts : List Ty) (j : Result Ty LubHelp) → Holds b → Holds c →
    Found (bool_if ((b && c) && is_some (result_ok j))) (incompatible place l ts j)
sets_give true true place l ts j h k = bool_joined place l ts j
sets_give true false place l ts j h k = absurd k
sets_give false c place l ts j h k = absurd h

module _ (schema : SchemaData) where
  pub has_gives : (known : Bool) (n : List ℕ) (t : Ty) (fs : List Finding) → Holds (has_attributes t) → Found (rule.has_type schema known t n) fs
  has_gives known n t fs h = gives (is_entity t || is_record t) _ fs h

  pub attr_gives : (known : Bool) (n : List ℕ) (l : Option Loc) (access : AttributeAccess) (t : Ty) (a : Option AttributeType) →
      Found (option_and_then (safe_type known) a) (attribute_found schema access known n l t a)
  attr_gives known n l access t None = tt
  attr_gives known n l access t (Some a) = found_if_none (safe_type known a) _ tt

  tag_gives : (known b c : Bool) (k : Plain) (l : Option Loc) (t : Ty) → Holds b → Holds c → Found (if (b && c) && known then tag_type schema t else None) (tag_found schema known k l t)
  tag_gives false true true k l t h i = tt
  tag_gives true true true k l t h i = found_if_none (tag_type schema t) _ tt
  tag_gives known true false k l t h i = absurd i
  tag_gives known false c k l t h i = absurd h

  pub binary_gives : (env : EnvData) (o : BinaryOp) (known : Bool) (x y : Plain) (l r m : Option Loc) (t u : Ty) → Fits (left_of o) t → Fits (right_of o) u →
      Found (rule.binary_type schema env o known x y t u) (binary_found schema o known y (rule.binary_type schema env o known x y t u) l r m (Some t) (Some u))
  binary_gives env Eq known x y l r m t u h k = equal_gives (are_disjoint t u) (are_one (known_id env x) (known_id env y)) context.Equality m (t ∷ u ∷ []) (join Strict t u)
  binary_gives env Less known x y l r m t u h k = found_if_none (order_type t u) (order_wrong l r t u) (order_full l r t u)
  binary_gives env LessEq known x y l r m t u h k = found_if_none (order_type t u) (order_wrong l r t u) (order_full l r t u)
  binary_gives env Add known x y l r m t u h k = sum_gives t u [] h k
  binary_gives env Sub known x y l r m t u h k = sum_gives t u [] h k
  binary_gives env Mul known x y l r m t u h k = sum_gives t u [] h k
  binary_gives env In known x y l r m t u h k = gives_both (is_entity t) (is_entity u || is_entity_set u) _ [] h k
  binary_gives env Contains known x y l r m t u h k = contains_gives m t u h
  binary_gives env ContainsAll known x y l r m t u h k = sets_give (is_set t) (is_set u) context.ContainsAnyAll m (t ∷ u ∷ []) (join Strict t u) h k
  binary_gives env ContainsAny known x y l r m t u h k = sets_give (is_set t) (is_set u) context.ContainsAnyAll m (t ∷ u ∷ []) (join Strict t u) h k
  binary_gives env GetTag known x y l r m t u h k = tag_gives known (is_entity t) (is_string u) y m t h k
  binary_gives env HasTag known x y l r m t u h k = gives_both (is_entity t) (is_string u) _ [] h k

-- a first operand that leaves the second one reached
abbrev pub is_reached : Ty → Bool
is_reached true_type = true
is_reached (primitive BoolType) = true
is_reached t = false

abbrev pub is_besides : Ty → Bool
is_besides false_type = true
is_besides (primitive BoolType) = true
is_besides t = false

pub and_gives : (t u : Ty) (fs : List Finding) → Holds (is_reached t) → Holds (is_boolean u) → Found (and_type t u) fs
and_gives true_type true_type fs h k = tt
and_gives true_type false_type fs h k = tt
and_gives true_type (primitive BoolType) fs h k = tt
and_gives true_type (primitive Long) fs h k = absurd k
and_gives true_type (primitive String) fs h k = absurd k
and_gives true_type _ fs h k = absurd k
and_gives (primitive BoolType) true_type fs h k = tt
and_gives (primitive BoolType) false_type fs h k = tt
and_gives (primitive BoolType) (primitive BoolType) fs h k = tt
and_gives (primitive BoolType) (primitive Long) fs h k = absurd k
and_gives (primitive BoolType) (primitive String) fs h k = absurd k
and_gives (primitive BoolType) _ fs h k = absurd k
and_gives false_type u fs h k = absurd h
and_gives (primitive Long) u fs h k = absurd h
and_gives (primitive String) u fs h k = absurd h
and_gives _ u fs h k = absurd h

pub or_gives : (t u : Ty) (fs : List Finding) → Holds (is_besides t) → Holds (is_boolean u) → Found (or_type t u) fs
or_gives false_type true_type fs h k = tt
or_gives false_type false_type fs h k = tt
or_gives false_type (primitive BoolType) fs h k = tt
or_gives false_type (primitive Long) fs h k = absurd k
or_gives false_type (primitive String) fs h k = absurd k
or_gives false_type _ fs h k = absurd k
or_gives (primitive BoolType) true_type fs h k = tt
or_gives (primitive BoolType) false_type fs h k = tt
or_gives (primitive BoolType) (primitive BoolType) fs h k = tt
or_gives (primitive BoolType) (primitive Long) fs h k = absurd k
or_gives (primitive BoolType) (primitive String) fs h k = absurd k
or_gives (primitive BoolType) _ fs h k = absurd k
or_gives true_type u fs h k = absurd h
or_gives (primitive Long) u fs h k = absurd h
or_gives (primitive String) u fs h k = absurd h
or_gives _ u fs h k = absurd h
