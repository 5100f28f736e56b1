-- What operands have to be.
use Rattle.std.specs.Prelude.{Bool, true, false, ◌||◌, List, [], ◌∷◌, Option, Some, None, if◌then◌else◌}
use Rattle.schema_types.specs.declared.kinds.OpenTag.TheVariants.{OpenAttributes}
use Rattle.schema_types.specs.Ty.{Ty, any_set, set_of, record_of, any_entity, no_attrs}
use Rattle.type_relations.specs.Join.{is_entity, is_record}
use Rattle.policy_expressions.specs.declared.kinds.UnaryOp.{UnaryOp}
use Rattle.policy_expressions.specs.declared.kinds.UnaryOp.TheVariants.{Not, Neg, IsEmpty}
use Rattle.policy_expressions.specs.declared.kinds.BinaryOp.{BinaryOp}
use Rattle.policy_expressions.specs.declared.kinds.BinaryOp.TheVariants.{Eq, Less, LessEq, Add, Sub, Mul, In, Contains, ContainsAll, ContainsAny, GetTag, HasTag}
use Rattle.typing_spec.specs.Signatures.{bool_type, long_type, string_type, same_type}
use Rattle.typing_spec.specs.Operands.{is_boolean, is_long}
use Rattle.typing_spec.specs.Rules.{is_string, is_set, is_entity_set}
use Rattle.findings.specs.declared.helps.UnexpectedTypeHelp.{UnexpectedTypeHelp}
use Rattle.findings.specs.declared.helps.UnexpectedTypeHelp.TheVariants.{TryUsingLike, TryUsingContains, TryUsingSingleContains, TryUsingHas, TryUsingIs, TryUsingIn, TryUsingEqEmptyString, TypeTestNotSupported, ConcatenationNotSupported, SetOperationsNotSupported}

-- the types that are named to the reader, the test that an operand's type has to pass, and what may help
-- where it fails
pub record Expected : Type 0 where
  pub types : List Ty
  pub fits : Ty → Bool
  pub help : Ty → Option UnexpectedTypeHelp

abbrev pub expected : List Ty → (Ty → Bool) → (Ty → Option UnexpectedTypeHelp) → Expected
expected ts fits help = record { types = ts; fits = fits; help = help }

-- a set whose elements have a type
abbrev pub is_typed_set : Ty → Bool
is_typed_set (set_of t) = true
is_typed_set t = false

abbrev pub has_attributes : Ty → Bool
has_attributes t = is_entity t || is_record t

abbrev pub is_entity_or_set : Ty → Bool
is_entity_or_set t = is_entity t || is_entity_set t

-- advice, where the test passes
abbrev pub when : Bool → UnexpectedTypeHelp → Option UnexpectedTypeHelp → Option UnexpectedTypeHelp
when b h other = if b then Some h else other

abbrev pub no_help : Ty → Option UnexpectedTypeHelp
no_help t = None

abbrev pub any_record : Ty
any_record = record_of no_attrs OpenAttributes

-- the operand of `!`, a test, and the sides of `&&` and `||`
abbrev pub a_boolean : Expected
a_boolean = expected (bool_type ∷ []) is_boolean no_help

-- an operand of `+`, of the other arithmetic, and of `-` of one operand
abbrev pub sum_help : Ty → Option UnexpectedTypeHelp
sum_help t = when (is_string t) ConcatenationNotSupported (when (is_set t) SetOperationsNotSupported None)

abbrev pub product_help : Ty → Option UnexpectedTypeHelp
product_help t = when (is_set t) SetOperationsNotSupported None

abbrev pub a_long : (Ty → Option UnexpectedTypeHelp) → Expected
a_long help = expected (long_type ∷ []) is_long help

-- the operand of `like`, a tag
abbrev pub a_string : (Ty → Option UnexpectedTypeHelp) → Expected
a_string help = expected (string_type ∷ []) is_string help

abbrev pub like_help : Ty → Option UnexpectedTypeHelp
like_help t = when (is_entity t) TryUsingIs None

-- the operand of `isEmpty`
abbrev pub empty_help : Ty → Option UnexpectedTypeHelp
empty_help t = when (is_string t) TryUsingEqEmptyString None

abbrev pub a_set : (Ty → Option UnexpectedTypeHelp) → Expected
a_set help = expected (any_set ∷ []) is_set help

-- the left operand of `contains`, and that of `containsAll` and `containsAny`
abbrev pub contains_help : Ty → Option UnexpectedTypeHelp
contains_help t =
    when (is_entity t) TryUsingIn (when (is_record t) TryUsingHas (when (is_string t) TryUsingLike None))

abbrev pub a_typed_set : Expected
a_typed_set = expected (any_set ∷ []) is_typed_set contains_help

-- their right operand
abbrev pub single_help : Ty → Option UnexpectedTypeHelp
single_help t = Some TryUsingSingleContains

-- the operand of `is`, the left operand of `in` and of the operators of tags
abbrev pub an_entity : (Ty → Option UnexpectedTypeHelp) → Expected
an_entity help = expected (any_entity ∷ []) is_entity help

abbrev pub test_help : Ty → Option UnexpectedTypeHelp
test_help t = Some TypeTestNotSupported

abbrev pub in_help : Ty → Option UnexpectedTypeHelp
in_help t = Some TryUsingContains

-- the right operand of `in`, and the operand of `has`
abbrev pub contents_help : Ty → Option UnexpectedTypeHelp
contents_help t = when (is_set t) TryUsingContains (when (is_string t) TryUsingLike None)

abbrev pub entities : Expected
entities = expected (set_of any_entity ∷ any_entity ∷ []) is_entity_or_set contents_help

-- the operand of `.` and of `has`
abbrev pub an_owner : (Ty → Option UnexpectedTypeHelp) → Expected
an_owner help = expected (any_entity ∷ any_record ∷ []) has_attributes help

-- an argument of a function
abbrev pub an_argument : Ty → Expected
an_argument t = expected (t ∷ []) (λ u. same_type u t) no_help

-- the operand of an operator of one
abbrev pub of_unary : UnaryOp → Expected
of_unary Not = a_boolean
of_unary Neg = a_long no_help
of_unary IsEmpty = a_set empty_help

-- the left and the right operand of an operator of two, where it is not their join that decides
abbrev pub left_of : BinaryOp → Option Expected
left_of Eq = None
left_of Less = None
left_of LessEq = None
left_of Add = Some (a_long sum_help)
left_of Sub = Some (a_long product_help)
left_of Mul = Some (a_long product_help)
left_of In = Some (an_entity in_help)
left_of Contains = Some a_typed_set
left_of ContainsAll = Some (a_set contains_help)
left_of ContainsAny = Some (a_set contains_help)
left_of GetTag = Some (an_entity no_help)
left_of HasTag = Some (an_entity no_help)

abbrev pub right_of : BinaryOp → Option Expected
right_of Eq = None
right_of Less = None
right_of LessEq = None
right_of Add = Some (a_long sum_help)
right_of Sub = Some (a_long product_help)
right_of Mul = Some (a_long product_help)
right_of In = Some entities
right_of Contains = None
right_of ContainsAll = Some (a_set single_help)
right_of ContainsAny = Some (a_set single_help)
right_of GetTag = Some (a_string no_help)
right_of HasTag = Some (a_string no_help)
