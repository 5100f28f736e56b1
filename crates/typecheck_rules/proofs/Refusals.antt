-- Where an operand does not fit, the rule of its operator has no type.
use Rattle.std.proofs.Common.{◌≡◌, ℕ, Bool, true, false, ◌&&◌, ◌||◌, List, Option, Some, None, refl, if◌then◌else◌}
use Rattle.std.specs.Bool.{⊤}
use Rattle.schema_types.specs.declared.kinds.Primitive.TheVariants.{Bool as BoolType, Long, String}
use Rattle.schema_types.specs.Ty.{Ty, true_type, false_type, primitive, set_of, record_of, any_entity, entity, action}
use Rattle.schema_core.specs.Schema.{SchemaData}
use Rattle.schema_core.specs.EnvData.{EnvData}
use Rattle.type_relations.specs.Join.{is_entity, is_record}
use Rattle.policy_expressions.specs.declared.kinds.UnaryOp.{UnaryOp}
use Rattle.policy_expressions.specs.declared.kinds.UnaryOp.TheVariants.{Not, Neg, IsEmpty}
use Rattle.policy_expressions.specs.declared.kinds.BinaryOp.{BinaryOp}
use Rattle.policy_expressions.specs.declared.kinds.BinaryOp.TheVariants.{Eq, Less, LessEq, Add, Sub, Mul, In, Contains, ContainsAll, ContainsAny, GetTag, HasTag}
use Rattle.policy_expressions.specs.Plain.{Plain}
use Rattle.typing_spec.specs.Signatures.{bool_type}
use Rattle.typing_spec.specs.Rules as rule
use Rattle.typing_spec.specs.Rules.{is_string, is_set, is_entity_set, bool_if, sum_type, and_type, or_type, contains_type}
use Rattle.typing_spec.specs.Operands.{is_boolean, is_long}
use Rattle.typecheck_rules.specs.Expected.{Expected, is_typed_set, has_attributes, of_unary, left_of, right_of}
use Rattle.typecheck_rules.proofs.Steps.{IfFalse, if_false}

-- a type that a test gives or refuses
given : (b : Bool) (t : Ty) → IfFalse b ((if b then Some t else None) ≡ None)
given true t = tt
given false t = refl

left_given : (b c : Bool) (t : Option Ty) → IfFalse b ((if b && c then t else None) ≡ None)
left_given true c t = tt
left_given false c t = refl

right_given : (b c : Bool) (t : Option Ty) → IfFalse c ((if b && c then t else None) ≡ None)
right_given b true t = tt
right_given true false t = refl
right_given false false t = refl

-- of three tests
first_given : (b c d : Bool) (t : Option Ty) → IfFalse b ((if (b && c) && d then t else None) ≡ None)
first_given true c d t = tt
first_given false c d t = refl

second_given : (b c d : Bool) (t : Option Ty) → IfFalse c ((if (b && c) && d then t else None) ≡ None)
second_given b true d t = tt
second_given true false d t = refl
second_given false false d t = refl

pub unary_refuses : (o : UnaryOp) (t : Ty) → IfFalse ((of_unary o).fits t) (rule.unary_type o t ≡ None)
unary_refuses Not true_type = tt
unary_refuses Not false_type = tt
unary_refuses Not (primitive BoolType) = tt
unary_refuses Not (primitive Long) = refl
unary_refuses Not (primitive String) = refl
unary_refuses Not _ = refl
unary_refuses Neg (primitive Long) = tt
unary_refuses Neg (primitive BoolType) = refl
unary_refuses Neg (primitive String) = refl
unary_refuses Neg _ = refl
unary_refuses IsEmpty t = given (is_set t) bool_type

pub like_refuses : (t : Ty) → IfFalse (is_string t) (rule.like_type t ≡ None)
like_refuses t = given (is_string t) bool_type

pub is_refuses : (n : List ℕ) (t : Ty) → IfFalse (is_entity t) (rule.is_type t n ≡ None)
is_refuses n t = given (is_entity t) _

module _ (schema : SchemaData) where
  pub has_refuses : (known : Bool) (n : List ℕ) (t : Ty) → IfFalse (has_attributes t) (rule.has_type schema known t n ≡ None)
  has_refuses known n t = given (is_entity t || is_record t) _

  pub attr_refuses : (known : Bool) (n : List ℕ) (t : Ty) → IfFalse (has_attributes t) (rule.attr_type schema known t n ≡ None)
  attr_refuses known n any_entity = tt
  attr_refuses known n (entity ns) = tt
  attr_refuses known n (action k xs) = tt
  attr_refuses known n (record_of xs o) = tt
  attr_refuses known n _ = refl

  -- where an operand is not expected to fit, nothing is refused
  abbrev pub Unless : Option Expected → Ty → Type 0 → Type 0
  Unless None t P = ⊤
  Unless (Some x) t P = IfFalse (x.fits t) P

  sum_left : (t u : Ty) → IfFalse (is_long t) (sum_type t u ≡ None)
  sum_left (primitive Long) u = tt
  sum_left (primitive BoolType) u = refl
  sum_left (primitive String) u = refl
  sum_left _ u = refl

  sum_right : (t u : Ty) → IfFalse (is_long u) (sum_type t u ≡ None)
  sum_right (primitive Long) (primitive Long) = tt
  sum_right (primitive Long) (primitive BoolType) = refl
  sum_right (primitive Long) (primitive String) = refl
  sum_right (primitive Long) _ = refl
  sum_right (primitive BoolType) u = if_false (is_long u) refl
  sum_right (primitive String) u = if_false (is_long u) refl
  sum_right _ u = if_false (is_long u) refl

  contains_left : (t u : Ty) → IfFalse (is_typed_set t) (contains_type t u ≡ None)
  contains_left (set_of t) u = tt
  contains_left _ u = refl

  module _ (env : EnvData) (known : Bool) (x y : Plain) where
    pub left_refuses : (o : BinaryOp) (t u : Ty) → Unless (left_of o) t (rule.binary_type schema env o known x y t u ≡ None)
    left_refuses Eq t u = tt
    left_refuses Less t u = tt
    left_refuses LessEq t u = tt
    left_refuses Add t u = sum_left t u
    left_refuses Sub t u = sum_left t u
    left_refuses Mul t u = sum_left t u
    left_refuses In t u = left_given (is_entity t) (is_entity u || is_entity_set u) _
    left_refuses Contains t u = contains_left t u
    left_refuses ContainsAll t u = first_given (is_set t) (is_set u) _ (Some bool_type)
    left_refuses ContainsAny t u = first_given (is_set t) (is_set u) _ (Some bool_type)
    left_refuses GetTag t u = first_given (is_entity t) (is_string u) known _
    left_refuses HasTag t u = left_given (is_entity t) (is_string u) _

    pub right_refuses : (o : BinaryOp) (t u : Ty) → Unless (right_of o) u (rule.binary_type schema env o known x y t u ≡ None)
    right_refuses Eq t u = tt
    right_refuses Less t u = tt
    right_refuses LessEq t u = tt
    right_refuses Add t u = sum_right t u
    right_refuses Sub t u = sum_right t u
    right_refuses Mul t u = sum_right t u
    right_refuses In t u = right_given (is_entity t) (is_entity u || is_entity_set u) _
    right_refuses Contains t u = tt
    right_refuses ContainsAll t u = second_given (is_set t) (is_set u) _ (Some bool_type)
    right_refuses ContainsAny t u = second_given (is_set t) (is_set u) _ (Some bool_type)
    right_refuses GetTag t u = second_given (is_entity t) (is_string u) known _
    right_refuses HasTag t u = right_given (is_entity t) (is_string u) _

pub and_refuses : (t u : Ty) → IfFalse (is_boolean u) (and_type t u ≡ None)
and_refuses true_type true_type = tt
and_refuses true_type false_type = tt
and_refuses true_type (primitive BoolType) = tt
and_refuses true_type (primitive Long) = refl
and_refuses true_type (primitive String) = refl
and_refuses true_type _ = refl
and_refuses (primitive BoolType) true_type = tt
and_refuses (primitive BoolType) false_type = tt
and_refuses (primitive BoolType) (primitive BoolType) = tt
and_refuses (primitive BoolType) (primitive Long) = refl
and_refuses (primitive BoolType) (primitive String) = refl
and_refuses (primitive BoolType) _ = refl
and_refuses (primitive Long) u = if_false (is_boolean u) refl
and_refuses (primitive String) u = if_false (is_boolean u) refl
and_refuses _ u = if_false (is_boolean u) refl

pub or_refuses : (t u : Ty) → IfFalse (is_boolean u) (or_type t u ≡ None)
or_refuses false_type true_type = tt
or_refuses false_type false_type = tt
or_refuses false_type (primitive BoolType) = tt
or_refuses false_type (primitive Long) = refl
or_refuses false_type (primitive String) = refl
or_refuses false_type _ = refl
or_refuses (primitive BoolType) true_type = tt
or_refuses (primitive BoolType) false_type = tt
or_refuses (primitive BoolType) (primitive BoolType) = tt
or_refuses (primitive BoolType) (primitive Long) = refl
or_refuses (primitive BoolType) (primitive String) = refl
or_refuses (primitive BoolType) _ = refl
or_refuses (primitive Long) u = if_false (is_boolean u) refl
or_refuses (primitive String) u = if_false (is_boolean u) refl
or_refuses _ u = if_false (is_boolean u) refl
