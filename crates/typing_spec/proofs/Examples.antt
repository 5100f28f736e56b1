-- What has a type, and what has none.
use Rattle.std.proofs.Common.{◌≡◌, ℕ, pos, Bool, true, false, List, [], ◌∷◌, Option, Some, None, inl, inr, refl, codes}
use Rattle.std.specs.Prelude.{option_map, map}
use Rattle.policy_values.specs.declared.entity_uid.EntityUID.{EntityUID}
use Rattle.schema_types.specs.Ty.{Ty, true_type, false_type, set_of, any_entity, entity, action as action_type, no_attrs, attr}
use Rattle.schema_core.specs.Kinds.{Kind, standard}
use Rattle.schema_core.specs.Schema.{SchemaData}
use Rattle.schema_core.specs.Environments.{environment}
use Rattle.schema_core.specs.EnvData.{EnvData, declared_action}
use Rattle.policy_expressions.specs.declared.kinds.Literal.TheVariants as literal
use Rattle.policy_expressions.specs.declared.kinds.SlotId.TheVariants as slot_id
use Rattle.policy_expressions.specs.declared.kinds.Var.TheVariants.{Principal, Action, Resource, Context}
use Rattle.policy_expressions.specs.declared.kinds.UnaryOp.{UnaryOp}
use Rattle.policy_expressions.specs.declared.kinds.UnaryOp.TheVariants.{Not, Neg, IsEmpty}
use Rattle.policy_expressions.specs.declared.kinds.BinaryOp.{BinaryOp}
use Rattle.policy_expressions.specs.declared.kinds.BinaryOp.TheVariants.{Eq, Less, Add, In, Contains, ContainsAll, GetTag, HasTag}
use Rattle.policy_expressions.specs.Tree.{Trees, lit, var, slot, ite, conj, disj, unary, binary, attr, has, like, is_type, set, rec, no_trees, tree, no_named, named, Mark, call}
use Rattle.policy_expressions.specs.Functions.{functions, decimal_functions, ip_functions, datetime_functions, duration_functions}
use Rattle.policy_values.specs.Readings.{decimal_in}
use Rattle.policy_expressions.specs.Plain.{Plain}
use Rattle.typing_spec.specs.Capability.{Capability, has_cap}
use Rattle.typing_spec.specs.CapabilityLaws.{known_decides, alike_itself}
use Rattle.typing_spec.specs.Signatures.{bool_type, long_type, string_type, decimal_type}
use Rattle.typing_spec.specs.Typing.{at, unreached, attribute_known, tag_known, types}

abbrev user : List ℕ
user = codes "User"

abbrev photo : List ℕ
photo = codes "Photo"

abbrev group : List ℕ
group = codes "Group"

abbrev uid : List ℕ → List ℕ → EntityUID
uid t e = record { entity_type = t; eid = e }

abbrev view : EntityUID
view = uid (codes "Action") (codes "view")

abbrev read : EntityUID
read = uid (codes "Action") (codes "read")

abbrev a : List ℕ
a = codes "a"

abbrev b : List ℕ
b = codes "b"

-- an optional long a, a required string b, and tags that are strings
abbrev user_kind : Kind
user_kind = standard (attr a long_type false (attr b string_type true no_attrs)) (Some string_type)

abbrev photo_kind : Kind
photo_kind = standard (attr b long_type false no_attrs) None

abbrev schema : SchemaData
schema = record {
  entity_types =
      record { name = group; descendants = user ∷ []; kind = standard no_attrs None }
      ∷ record { name = photo; descendants = []; kind = photo_kind }
      ∷ record { name = user; descendants = []; kind = user_kind }
      ∷ [];
  action_ids =
      record { name = read; principals = []; resources = []; descendants = view ∷ []; context = no_attrs }
      ∷ record { name = view; principals = user ∷ []; resources = photo ∷ []; descendants = []; context = attr a long_type false (attr b long_type true no_attrs) }
      ∷ [];
}

abbrev env : EnvData
env = declared_action record { environment = environment user view photo; context = attr a long_type false (attr b long_type true no_attrs); principal_slot = Some group; resource_slot = None }

-- each row: an expression, and its type, if it has one
abbrev Row : Type 0
Row = Plain × Option Ty

abbrev type_of : Plain → Option Ty
type_of e = option_map (λ x. x.type) (types schema env [] e)

abbrev Agree : List Row → Type 0
Agree rows = map (λ r. type_of r.0) rows ≡ map (λ r. r.1) rows

-- two places
abbrev here : Mark (Unit {0})
here = record { note = tt; loc = None }

abbrev there : Mark (Unit {0})
there = record { note = tt; loc = Some (record { start = 3; end = 7 }) }

abbrev truth : Bool → Plain
truth c = lit (literal.Bool c) here

abbrev number : ℕ → Plain
number n = lit (literal.Long (pos n)) here

abbrev string : List ℕ → Plain
string t = lit (literal.String t) here

abbrev id : List ℕ → Plain
id t = lit (literal.EntityUID (uid t a)) here

abbrev action_id : EntityUID → Plain
action_id u = lit (literal.EntityUID u) here

abbrev principal : Plain
principal = var Principal here

abbrev resource : Plain
resource = var Resource here

abbrev context : Plain
context = var Context here

abbrev action : Plain
action = var Action here

abbrev one : UnaryOp → Plain → Plain
one o x = unary o x here

abbrev two : BinaryOp → Plain → Plain → Plain
two o x y = binary o x y here

abbrev get : Plain → List ℕ → Plain
get x n = attr x n here

abbrev tests : Plain → List ℕ → Plain
tests x n = has x n there

abbrev both : Plain → Plain → Plain
both x y = conj x y here

abbrev either : Plain → Plain → Plain
either x y = disj x y here

abbrev choice : Plain → Plain → Plain → Plain
choice x y z = ite x y z here

abbrev single : Plain → Plain
single x = set (tree x no_trees) here

abbrev elements : Plain → Plain → Plain
elements x y = set (tree x (tree y no_trees)) here

-- a boolean of which nothing is known
abbrev unknown : Plain
unknown = two Less (number 1) (number 2)

-- an expression without a type
abbrev faulty : Plain
faulty = two Less (number 1) (string a)

abbrev True : Option Ty
True = Some true_type

abbrev False : Option Ty
False = Some false_type

abbrev Boolean : Option Ty
Boolean = Some bool_type

abbrev Number : Option Ty
Number = Some long_type

literals : Agree ((truth true, True) ∷ (truth false, False) ∷ (number 1, Number) ∷ (string a, Some string_type) ∷ (id photo, Some (entity (photo ∷ []))) ∷ (action_id read, Some (action_type (codes "Action") no_attrs)) ∷
    (id (codes "Nope"), None) ∷ (action_id (uid (codes "Action") a), None) ∷ (slot slot_id.Principal here, Some (entity (group ∷ []))) ∷ (slot slot_id.Resource here, Some any_entity) ∷ [])
literals = refl

-- a test that is known leaves one branch; of others the branches have a join
ifs : Agree ((choice (truth true) (number 1) faulty, Number) ∷ (choice (truth false) faulty (number 1), Number) ∷ (choice unknown (number 1) (number 2), Number) ∷ (choice unknown (truth true) (truth false), Boolean) ∷
    (choice unknown (number 1) (string a), None) ∷ (choice (number 1) (number 1) (number 1), None) ∷ (choice unknown faulty (number 1), None) ∷ [])
ifs = refl

ands : Agree ((both (truth false) faulty, False) ∷ (both unknown (truth false), False) ∷ (both (truth true) (truth true), True) ∷ (both unknown (truth true), Boolean) ∷ (both (truth true) unknown, Boolean) ∷ (both unknown unknown, Boolean) ∷
    (both (truth true) faulty, None) ∷ (both (number 1) (truth true), None) ∷ (both unknown (number 1), None) ∷ [])
ands = refl

ors : Agree ((either (truth true) faulty, True) ∷ (either unknown (truth true), True) ∷ (either (truth false) (truth false), False) ∷ (either unknown (truth false), Boolean) ∷ (either (truth false) unknown, Boolean) ∷ (either unknown unknown, Boolean) ∷
    (either (truth false) faulty, None) ∷ (either (number 1) (truth true), None) ∷ (either unknown (number 1), None) ∷ [])
ors = refl

unaries : Agree ((one Not (truth true), False) ∷ (one Not (truth false), True) ∷ (one Not unknown, Boolean) ∷ (one Not (number 1), None) ∷ (one Neg (number 1), Number) ∷ (one Neg (truth true), None) ∷
    (one IsEmpty (single (number 1)), Boolean) ∷ (one IsEmpty (string a), None) ∷ [])
unaries = refl

orders : Agree ((two Less (number 1) (number 2), Boolean) ∷ (two Less (truth true) (number 1), None) ∷ (two Less (string a) (string a), None) ∷ (two Add (number 1) (number 2), Number) ∷ (two Add (number 1) (string a), None) ∷ [])
orders = refl

-- `==` of disjoint types, of known ids, of types with and without a join
equals : Agree ((two Eq principal resource, False) ∷ (two Eq principal action, False) ∷ (two Eq (id user) (id user), True) ∷ (two Eq action (action_id read), False) ∷ (two Eq action (action_id view), True) ∷
    (two Eq (truth true) (truth false), Boolean) ∷ (two Eq principal (id user), Boolean) ∷ (two Eq (number 1) (string a), None) ∷ [])
equals = refl

sets : Agree ((set no_trees here, None) ∷ (elements (truth true) (truth false), Some (set_of bool_type)) ∷ (elements (truth true) (number 1), None) ∷ (elements (number 1) faulty, None) ∷
    (two Contains (single (number 1)) (number 2), Boolean) ∷ (two Contains (single (number 1)) (string a), None) ∷ (two Contains (number 1) (number 1), None) ∷
    (two ContainsAll (single (number 1)) (single (number 2)), Boolean) ∷ (two ContainsAll (single (number 1)) (single (string a)), None) ∷ (two ContainsAll (single (number 1)) (number 1), None) ∷ [])
sets = refl

-- `in` of listed ids, by types, and of actions by their ids; the variable `action` counts as its id
ins : Agree ((two In principal (id group), Boolean) ∷ (two In principal (id user), Boolean) ∷ (two In principal (id photo), False) ∷ (two In principal (elements (id photo) (id photo)), False) ∷ (two In principal (elements (id photo) (id group)), None) ∷
    (two In action (action_id read), Boolean) ∷ (two In action (action_id view), Boolean) ∷ (two In (action_id read) action, False) ∷ (two In action (id group), False) ∷
    (two In principal (single action), False) ∷ (two In (id photo) (id group), False) ∷ (two In (id user) (id group), Boolean) ∷ (two In (id user) (action_id read), False) ∷
    (two In principal (slot slot_id.Principal here), Boolean) ∷ (two In principal resource, Boolean) ∷ (two In (number 1) principal, None) ∷ (two In principal (single (number 1)), None) ∷ [])
ins = refl

-- an optional attribute is read behind its test, a required one of a record is there
attributes : Agree ((get principal b, Some string_type) ∷ (get context b, Number) ∷ (get principal a, None) ∷ (get principal (codes "c"), None) ∷ (get (number 1) a, None) ∷
    (get (rec (named a (truth true) (named b (number 1) no_named)) here) b, Number) ∷ (rec (named a faulty no_named) here, None) ∷
    (tests principal b, Boolean) ∷ (tests context b, True) ∷ (tests principal a, Boolean) ∷ (tests principal (codes "c"), False) ∷ (tests (slot slot_id.Resource here) a, Boolean) ∷ (tests (number 1) a, None) ∷ [])
attributes = refl

tags : Agree ((two HasTag principal (string a), Boolean) ∷ (two HasTag resource (string a), False) ∷ (two HasTag context (string a), None) ∷ (two HasTag principal (number 1), None) ∷ (two GetTag principal (string a), None) ∷ [])
tags = refl

others : Agree ((like (string a) [] here, Boolean) ∷ (like (number 1) [] here, None) ∷ (is_type principal user here, True) ∷ (is_type principal photo here, False) ∷ (is_type (slot slot_id.Resource here) photo here, Boolean) ∷ (is_type (number 1) user here, None) ∷ [])
others = refl

-- what is known behind a test
known : (k : Capability) → has_cap (k ∷ []) k ≡ true
known k = (known_decides (k ∷ []) k).1 (inl (alike_itself k))

first : (k m : Capability) → has_cap (k ∷ m ∷ []) k ≡ true
first k m = (known_decides (k ∷ m ∷ []) k).1 (inl (alike_itself k))

second : (k m : Capability) → has_cap (k ∷ m ∷ []) m ≡ true
second k m = (known_decides (k ∷ m ∷ []) m).1 (inr (inl (alike_itself m)))

guarded : type_of (both (tests principal a) (two Eq (get principal a) (number 1))) ≡ Boolean
guarded = rw (known (attribute_known principal a)) refl

known_again : type_of (both (tests principal a) (tests principal a)) ≡ Boolean
known_again = rw (known (attribute_known principal a)) refl

both_sides : type_of (both (both (tests principal a) (tests resource b)) (two Eq (get principal a) (get resource b))) ≡ Boolean
both_sides = rw (first (attribute_known principal a) (attribute_known resource b), second (attribute_known principal a) (attribute_known resource b)) refl

tag_guarded : type_of (both (two HasTag principal (string a)) (two Eq (two GetTag principal (string a)) (string b))) ≡ Boolean
tag_guarded = rw (known (tag_known principal (string a))) refl

tag_without_type : type_of (both (two HasTag resource (string a)) (two GetTag resource (string a))) ≡ False
tag_without_type = refl

-- what only one branch, or only one side of `||`, makes known is not known
one_branch : Agree ((both (choice (tests principal a) (truth true) (tests resource b)) (two Eq (get principal a) (number 1)), None) ∷ (both (either (tests principal a) (tests resource b)) (two Eq (get principal a) (number 1)), None) ∷ [])
one_branch = refl

-- a false left side: the right one is not reached
unreached_side : option_map (λ x. x.tree) (types schema env [] (both (truth false) faulty)) ≡ Some (conj (lit (literal.Bool false) (at false_type here)) unreached (at false_type here))
unreached_side = refl

-- calls: a text that can be read, one that can't, two texts, an expression in the place of a text, another type, an unknown function
abbrev calls : List ℕ → Trees (Mark (Unit {0})) → Plain
calls f xs = call f xs here

constructed : Agree ((calls (codes "decimal") (tree (string (codes "1.2345")) no_trees), Some decimal_type) ∷ (calls (codes "decimal") (tree (string (codes "1.23456")) no_trees), None) ∷
    (calls (codes "decimal") (tree (string (codes "1.0")) (tree (string (codes "2")) no_trees)), None) ∷ (calls (codes "decimal") (tree (get principal b) no_trees), None) ∷ (calls (codes "decimal") (tree (number 1) no_trees), None) ∷ [])
unfolding functions decimal_in
constructed = refl

unknown_function : type_of (calls (codes "nope") no_trees) ≡ None
unfolding functions decimal_functions ip_functions datetime_functions duration_functions
unknown_function = refl
