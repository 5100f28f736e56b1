-- Types that do not fit are below none of the types expected.
use Rattle.std.proofs.Common.{◌≡◌, ◌∙◌, sym, ap, true≢false, ℕ, Bool, true, false, ◌&&◌, ◌||◌, List, [], ◌∷◌, Option, Some, None, is_some, refl, ◌⊎◌, inl, inr}
use Rattle.std.specs.Bool.{⊤}
use Rattle.std.specs.List.{AllByRecursion}
use Rattle.std.specs.Ordering.{is_eq}
use Rattle.std.specs.Cmp.{tied_itself}
use Rattle.schema_types.specs.declared.kinds.Primitive.TheVariants.{Bool as BoolType, Long, String}
use Rattle.schema_types.specs.Ty.{Ty, never, true_type, false_type, primitive, any_set, set_of, record_of, any_entity, entity, action, extension}
use Rattle.schema_types.specs.TyOrder.{ty_cmp}
use Rattle.schema_types.specs.TyLaws.{exact_ty, ty_cmp_total}
use Rattle.policy_values.specs.Ties.{equal_of}
use Rattle.type_relations.specs.declared.mode.SubtypeMode.TheVariants.{Permissive}
use Rattle.type_relations.specs.Subtype.{Subtype}
use Rattle.policy_expressions.specs.declared.functions.UnaryFunction.{UnaryFunction}
use Rattle.policy_expressions.specs.declared.functions.UnaryFunction.TheVariants as unary
use Rattle.policy_expressions.specs.declared.functions.BinaryFunction.TheVariants as binary
use Rattle.policy_expressions.specs.declared.functions.ExtensionFunction.{ExtensionFunction}
use Rattle.policy_expressions.specs.declared.functions.ExtensionFunction.TheVariants.{Unary, Binary}
use Rattle.policy_expressions.specs.declared.kinds.UnaryOp.{UnaryOp}
use Rattle.policy_expressions.specs.declared.kinds.UnaryOp.TheVariants.{Not, Neg, IsEmpty}
use Rattle.policy_expressions.specs.declared.kinds.BinaryOp.{BinaryOp}
use Rattle.policy_expressions.specs.declared.kinds.BinaryOp.TheVariants.{Eq, Less, LessEq, Add, Sub, Mul, In, Contains, ContainsAll, ContainsAny, GetTag, HasTag}
use Rattle.typing_spec.specs.Signatures.{bool_type, long_type, string_type, same_type, signature_of}
use Rattle.typing_spec.specs.Rules.{order_type, bool_if}
use Rattle.findings.specs.declared.helps.UnexpectedTypeHelp.{UnexpectedTypeHelp}
use Rattle.typecheck_rules.specs.Expected.{Expected, a_boolean, a_long, a_string, a_set, a_typed_set, an_entity, entities, an_owner, an_argument, of_unary, left_of, right_of, no_help, empty_help, sum_help, product_help, in_help, contains_help, single_help}
use Rattle.typecheck_rules.specs.Own.{is_comparable}
use Rattle.typecheck_rules.specs.Truth.{IsVoid, NoneAbove}
use Rattle.typecheck_rules.proofs.Steps.{IfFalse}

abbrev pub Bars : Expected → Type 0
Bars x = (t : Ty) → IfFalse (x.fits t) (NoneAbove t x.types)

pub boolean_bars : Bars a_boolean
boolean_bars true_type = tt
boolean_bars false_type = tt
boolean_bars (primitive BoolType) = tt
boolean_bars (primitive Long) = (λ h. cc, tt)
boolean_bars (primitive String) = (λ h. cc, tt)
boolean_bars never = (λ h. tt, tt)
boolean_bars _ = (λ h. absurd h, tt)

pub long_bars : (help : Ty → Option UnexpectedTypeHelp) → Bars (a_long help)
long_bars help (primitive Long) = tt
long_bars help (primitive BoolType) = (λ h. cc, tt)
long_bars help (primitive String) = (λ h. cc, tt)
long_bars help true_type = (λ h. cc, tt)
long_bars help false_type = (λ h. cc, tt)
long_bars help never = (λ h. tt, tt)
long_bars help _ = (λ h. absurd h, tt)

pub string_bars : (help : Ty → Option UnexpectedTypeHelp) → Bars (a_string help)
string_bars help (primitive String) = tt
string_bars help (primitive BoolType) = (λ h. cc, tt)
string_bars help (primitive Long) = (λ h. cc, tt)
string_bars help true_type = (λ h. cc, tt)
string_bars help false_type = (λ h. cc, tt)
string_bars help never = (λ h. tt, tt)
string_bars help _ = (λ h. absurd h, tt)

pub set_bars : (help : Ty → Option UnexpectedTypeHelp) → Bars (a_set help)
set_bars help any_set = tt
set_bars help (set_of t) = tt
set_bars help never = (λ h. tt, tt)
set_bars help _ = (λ h. absurd h, tt)

pub typed_set_bars : Bars a_typed_set
typed_set_bars (set_of t) = tt
typed_set_bars any_set = (λ h. tt, tt)
typed_set_bars never = (λ h. tt, tt)
typed_set_bars _ = (λ h. absurd h, tt)

pub entity_bars : (help : Ty → Option UnexpectedTypeHelp) → Bars (an_entity help)
entity_bars help any_entity = tt
entity_bars help (entity ns) = tt
entity_bars help (action n xs) = tt
entity_bars help never = (λ h. tt, tt)
entity_bars help _ = (λ h. absurd h, tt)

pub entities_bar : Bars entities
entities_bar any_entity = tt
entities_bar (entity ns) = tt
entities_bar (action n xs) = tt
entities_bar (set_of any_entity) = tt
entities_bar (set_of (entity ns)) = tt
entities_bar (set_of (action n xs)) = tt
entities_bar (set_of never) = (λ h. tt, (λ h. tt, tt))
entities_bar (set_of _) = (λ h. absurd h, (λ h. absurd h, tt))
entities_bar never = (λ h. tt, (λ h. tt, tt))
entities_bar any_set = (λ h. tt, (λ h. tt, tt))
entities_bar _ = (λ h. absurd h, (λ h. absurd h, tt))

pub owner_bars : (help : Ty → Option UnexpectedTypeHelp) → Bars (an_owner help)
owner_bars help any_entity = tt
owner_bars help (entity ns) = tt
owner_bars help (action n xs) = tt
owner_bars help (record_of xs o) = tt
owner_bars help never = (λ h. tt, (λ h. tt, tt))
owner_bars help _ = (λ h. absurd h, (λ h. absurd h, tt))

-- types that are one
pub same_self : (t : Ty) → same_type t t ≡ true
same_self t = ap is_eq (tied_itself ty_cmp_total t)

pub same_is : (t u : Ty) → same_type t u ≡ true → t ≡ u
same_is t u e = exact_ty t u (equal_of (ty_cmp t u) e)

-- a type below which there is no other, but void ones
abbrev pub IsLeast : Ty → Type 0
IsLeast t = (u : Ty) → Subtype Permissive u t → IsVoid u ⊎ (u ≡ t)

pub least_long : IsLeast long_type
least_long never h = inl tt
least_long true_type h = cc
least_long false_type h = cc
least_long (primitive p) h = inr (ap primitive h)
least_long _ h = absurd h

pub least_string : IsLeast string_type
least_string never h = inl tt
least_string true_type h = cc
least_string false_type h = cc
least_string (primitive p) h = inr (ap primitive h)
least_string _ h = absurd h

pub least_extension : (n : List ℕ) → IsLeast (extension n)
least_extension n never h = inl tt
least_extension n (extension k) h = inr (ap extension h)
least_extension n _ h = absurd h

-- another type is not below it
pub not_below : (t u : Ty) → IsLeast t → same_type u t ≡ false → Subtype Permissive u t → IsVoid u
not_below t u least e h = by (least u h)
  where
    by : IsVoid u ⊎ (u ≡ t) → IsVoid u
    by (inl v) = v
    by (inr p) = absurd (true≢false (sym (same_self t) ∙ (ap (λ w. same_type w t) (sym p) ∙ e)))

pub argument_bars : (t : Ty) → IsLeast t → Bars (an_argument t)
argument_bars t least u = by (same_type u t) refl
  where
    by : (b : Bool) → same_type u t ≡ b → IfFalse b (NoneAbove u (t ∷ []))
    by true e = tt
    by false e = (not_below t u least e, tt)

unary_least : (f : UnaryFunction) → AllByRecursion IsLeast (signature_of (Unary f)).arguments
unary_least unary.Decimal = (least_string, tt)
unary_least unary.Ip = (least_string, tt)
unary_least unary.Datetime = (least_string, tt)
unary_least unary.Duration = (least_string, tt)
unary_least _ = (least_extension _, tt)

pub arguments_least : (g : ExtensionFunction) → AllByRecursion IsLeast (signature_of g).arguments
arguments_least (Unary f) = unary_least f
arguments_least (Binary binary.Offset) = (least_extension _, (least_extension _, tt))
arguments_least (Binary _) = (least_extension _, (least_extension _, tt))

pub unary_bars : (o : UnaryOp) → Bars (of_unary o)
unary_bars Not = boolean_bars
unary_bars Neg = long_bars no_help
unary_bars IsEmpty = set_bars empty_help

abbrev pub BarsIf : Option Expected → Type 0
BarsIf None = ⊤
BarsIf (Some x) = Bars x

pub left_bars : (o : BinaryOp) → BarsIf (left_of o)
left_bars Eq = tt
left_bars Less = tt
left_bars LessEq = tt
left_bars Add = long_bars sum_help
left_bars Sub = long_bars product_help
left_bars Mul = long_bars product_help
left_bars In = entity_bars in_help
left_bars Contains = typed_set_bars
left_bars ContainsAll = set_bars contains_help
left_bars ContainsAny = set_bars contains_help
left_bars GetTag = entity_bars no_help
left_bars HasTag = entity_bars no_help

pub right_bars : (o : BinaryOp) → BarsIf (right_of o)
right_bars Eq = tt
right_bars Less = tt
right_bars LessEq = tt
right_bars Add = long_bars sum_help
right_bars Sub = long_bars product_help
right_bars Mul = long_bars product_help
right_bars In = entities_bar
right_bars Contains = tt
right_bars ContainsAll = set_bars single_help
right_bars ContainsAny = set_bars single_help
right_bars GetTag = string_bars no_help
right_bars HasTag = string_bars no_help

-- two operands of `<` that can't be compared
ordered : (t u : Ty) → t ≡ u → (same_type t long_type || is_comparable t) ≡ true → order_type t u ≡ Some bool_type
ordered t u p e = λ i. bool_if ((ap (same_type t) (sym p) ∙ same_self t) i && e i)

pub unordered : (t u : Ty) (P : Type 0) → order_type t u ≡ None → t ≡ u → (same_type t long_type || is_comparable t) ≡ true → P
unordered t u P none p e = absurd (true≢false (ap is_some (sym (ordered t u p e) ∙ none)))
