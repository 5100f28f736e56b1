-- What is found of an operator itself, by the types of its operands: joins that are not there, operands that
-- can't be compared, attributes and tags that are not safe, calls of another form.
use Rattle.std.specs.Prelude.{ℕ, Bool, true, false, ◌||◌, List, [], ◌∷◌, ◌++◌, Option, Some, None, Result, Ok, Err, codes, length, fold, if◌then◌else◌}
use Rattle.std.specs.Option.{option_map_or, option_and_then}
use Rattle.std.specs.BTreeSet.{insert_key}
use Rattle.schema_types.specs.declared.kinds.LubHelp.{LubHelp}
use Rattle.schema_types.specs.Names.{only_name}
use Rattle.schema_types.specs.Ty.{Ty, entity, set_of}
use Rattle.schema_types.specs.TyOrder.{ty_cmp}
use Rattle.schema_types.specs.declared.ty.AttributeType.{AttributeType}
use Rattle.schema_core.specs.Schema.{SchemaData}
use Rattle.type_relations.specs.declared.mode.SubtypeMode.TheVariants.{Strict}
use Rattle.type_relations.specs.Attributes.{may_have, names_of}
use Rattle.type_relations.specs.Join.{join, join_all}
use Rattle.policy_expressions.specs.declared.kinds.Loc.{Loc}
use Rattle.policy_expressions.specs.declared.kinds.Literal.TheVariants as literal
use Rattle.policy_expressions.specs.declared.kinds.BinaryOp.{BinaryOp}
use Rattle.policy_expressions.specs.declared.kinds.BinaryOp.TheVariants.{Eq, Less, LessEq, Contains, ContainsAll, ContainsAny, GetTag}
use Rattle.policy_expressions.specs.declared.functions.ExtensionFunction.{ExtensionFunction}
use Rattle.policy_expressions.specs.Tree.{Tree, lit, Trees}
use Rattle.typing_spec.specs.Signatures.{long_type, datetime_type, duration_type, same_type, signature_of, count_of, only_text, has_count, has_literals, has_readable}
use Rattle.typing_spec.specs.Environment.{declared_attributes}
use Rattle.typing_spec.specs.Arguments.{message}
use Rattle.typing_spec.specs.Table.{check_of}
use Rattle.typing_spec.specs.Rules.{order_type, tag_type, safe_type}
use Rattle.findings.specs.declared.helps.LubContext.{LubContext}
use Rattle.findings.specs.declared.helps.LubContext.TheVariants as context
use Rattle.findings.specs.declared.access.AttributeAccess.{AttributeAccess}
use Rattle.findings.specs.Finding.{Finding, Kind, UnexpectedType, IncompatibleTypes, UnsafeAttributeAccess, UnsafeOptionalAttributeAccess, UnsafeTagAccess, NoTagsAllowed, WrongNumberArguments, FunctionArgumentValidation, EmptySetForbidden, NonLitExtConstructor}
use Rattle.findings.specs.Texts.{string_text}
use Rattle.typecheck_rules.specs.Walked.{one}

-- what is found where there is no type
abbrev pub if_none : {A : Type 0} → Option A → List Finding → List Finding
if_none None fs = fs
if_none (Some a) fs = []

-- what is found where a test fails
abbrev pub if_not : Bool → List Finding → List Finding
if_not true fs = []
if_not false fs = fs

-- by the types that two operands give: nothing, where one gives none
abbrev pub of_both : (Ty → Ty → List Finding) → Option Ty → Option Ty → List Finding
of_both found (Some t) (Some u) = found t u
of_both found (Some t) None = []
of_both found None u = []

-- the types ascending, each once
abbrev pub ascending : List Ty → List Ty
ascending ts = fold (insert_key ty_cmp) [] ts

-- types that have no join, and why
abbrev pub incompatible : LubContext → Option Loc → List Ty → Result Ty LubHelp → List Finding
incompatible place l ts (Ok t) = []
incompatible place l ts (Err why) = one (IncompatibleTypes (ascending ts) why place) l

abbrev pub no_join : LubContext → Option Loc → Ty → Ty → List Finding
no_join place l t u = incompatible place l (t ∷ u ∷ []) (join Strict t u)

-- `==`: types without a join, where it is not known without one
abbrev pub equal_found : Option Ty → Option Loc → Ty → Ty → List Finding
equal_found type l t u = if_none type (no_join context.Equality l t u)

-- the operands of `contains`: the left one's elements and the right one have no join
abbrev pub contains_found : Option Loc → Ty → Ty → List Finding
contains_found l (set_of t) u = no_join context.Contains l t u
contains_found l t u = []

-- datetimes and durations
abbrev pub is_comparable : Ty → Bool
is_comparable t = same_type t datetime_type || same_type t duration_type

-- an operand of `<` or `<=` that has to be of another type
abbrev pub wrong : List Ty → Option Loc → Ty → List Finding
wrong ts l t = one (UnexpectedType ts t None) l

-- `<` and `<=`, by the first case that applies: one side is a long, and the other has to be; the left side
-- can be compared, or the right one, and the other has to be of its type; else both have to be of a type that
-- can be compared
abbrev pub order_wrong : Option Loc → Option Loc → Ty → Ty → List Finding
order_wrong l r t u =
    if same_type t long_type then wrong (long_type ∷ []) r u else
    (if same_type u long_type then wrong (long_type ∷ []) l t else
    (if is_comparable t then wrong (t ∷ []) r u else
    (if is_comparable u then wrong (u ∷ []) l t else
    (wrong (datetime_type ∷ duration_type ∷ long_type ∷ []) l t ++
    wrong (datetime_type ∷ duration_type ∷ long_type ∷ []) r u))))

abbrev pub order_found : Option Loc → Option Loc → Ty → Ty → List Finding
order_found l r t u = if_none (order_type t u) (order_wrong l r t u)

-- how a tag prints: a string literal as a string
abbrev pub tag_text : {A : Type 0} → Tree A → List ℕ
tag_text (lit (literal.String s) a) = string_text s
tag_text x = codes "<expression>"

-- the types of an entity that is no action, where they are known
abbrev pub entity_names : Ty → Option (List (List ℕ))
entity_names (entity ns) = Some ns
entity_names t = None

-- `getTag`, by whether the tag is known to be there, the left operand's type, and the tag's expression
abbrev pub tag_found : SchemaData → {A : Type 0} → Bool → Tree A → Option Loc → Ty → List Finding
tag_found schema false k l t = one (UnsafeTagAccess (entity_names t) (tag_text k)) l
tag_found schema true k l t =
    if_none (tag_type schema t) (one (NoTagsAllowed (option_and_then only_name (names_of t))) l)

-- an operator of two operands: by the places of these, the tag that they name, its own place, and the types
-- that they give
abbrev pub binary_found : SchemaData → {A : Type 0} → BinaryOp → Bool → Tree A →
    Option Ty → Option Loc → Option Loc → Option Loc → Option Ty → Option Ty → List Finding
binary_found schema Eq known k type l r m t u = of_both (equal_found type m) t u
binary_found schema Less known k type l r m t u = of_both (order_found l r) t u
binary_found schema LessEq known k type l r m t u = of_both (order_found l r) t u
binary_found schema Contains known k type l r m t u = of_both (contains_found m) t u
binary_found schema ContainsAll known k type l r m t u = of_both (no_join context.ContainsAnyAll m) t u
binary_found schema ContainsAny known k type l r m t u = of_both (no_join context.ContainsAnyAll m) t u
binary_found schema GetTag known k type l r m t u = option_map_or (tag_found schema known k m) t []
binary_found schema o known k type l r m t u = []

-- an attribute that is not declared
abbrev pub undeclared_found : SchemaData → AttributeAccess → List ℕ → Option Loc → Ty → List Finding
undeclared_found schema access n l t =
    one (UnsafeAttributeAccess access (may_have (declared_attributes schema) t n)) l

-- `.`: an attribute that is not declared, or that may be absent
abbrev pub attribute_found : SchemaData → AttributeAccess → Bool →
    List ℕ → Option Loc → Ty → Option AttributeType → List Finding
attribute_found schema access known n l t None = undeclared_found schema access n l t
attribute_found schema access known n l t (Some a) =
    if_none (safe_type known a) (one (UnsafeOptionalAttributeAccess access) l)

-- a set literal: without elements, or without a join of their types, where each has one
abbrev pub set_found : Option Loc → List Ty → List Finding
set_found l [] = one EmptySetForbidden l
set_found l (t ∷ ts) = incompatible context.Set l (t ∷ ts) (join_all Strict (t ∷ ts))

-- what is said of a text that its constructor can't read
abbrev pub unreadable : ExtensionFunction → List ℕ → Kind
unreadable f text = FunctionArgumentValidation (option_map_or (λ check. message check text) (check_of f) [])

-- a text that its constructor can't read
abbrev pub text_found : ExtensionFunction → Option Loc → Option (List ℕ) → List Finding
text_found f l None = []
text_found f l (Some text) = one (unreadable f text) l

-- a call of another number of arguments
abbrev pub count_found : {A : Type 0} → ExtensionFunction → Trees A → Option Loc → List Finding
count_found f xs l =
    if_not (has_count f xs) (one (WrongNumberArguments (length (signature_of f).arguments) (count_of xs)) l)

-- a call, before its arguments are looked at: their number, a text that can't be read, arguments of a
-- constructor that are no literals
abbrev pub call_found : {A : Type 0} → ExtensionFunction → Trees A → Option Loc → List Finding
call_found f xs l =
    count_found f xs l ++
    (if_not (has_readable f xs) (text_found f l (only_text xs)) ++
    if_not (has_literals f xs) (one NonLitExtConstructor l))
