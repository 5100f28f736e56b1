-- Levels of conditions, and stores cut at them.
use Rattle.std.proofs.Common.{◌≡◌, ℕ, true, List, [], ◌∷◌, Option, Some, None, map, inl, refl, codes}
use Rattle.std.specs.Prelude.{option_map}
use Rattle.policy_values.specs.declared.entity_uid.EntityUID.{EntityUID}
use Rattle.policy_values.specs.Value.{entity as id_value, set, no_vals, val, Fields, no_fields, field}
use Rattle.entity_store.specs.declared.request.Request.{Request}
use Rattle.entity_store.specs.Store.{StoredEntity, Store}
use Rattle.schema_types.specs.declared.kinds.OpenTag.TheVariants.{ClosedAttributes}
use Rattle.schema_types.specs.Ty.{Ty, entity, record_of, Attrs, no_attrs, attr as attribute}
use Rattle.schema_core.specs.Kinds.{standard}
use Rattle.schema_core.specs.Schema.{SchemaData}
use Rattle.schema_core.specs.Environments.{environment}
use Rattle.schema_core.specs.EnvData.{EnvData, declared_action, action_in}
use Rattle.policy_expressions.specs.declared.kinds.Literal.TheVariants as literal
use Rattle.policy_expressions.specs.declared.kinds.Var.TheVariants.{Principal, Action, Resource, Context}
use Rattle.policy_expressions.specs.declared.kinds.BinaryOp.{BinaryOp}
use Rattle.policy_expressions.specs.declared.kinds.BinaryOp.TheVariants.{In, GetTag, HasTag}
use Rattle.policy_expressions.specs.Tree.{lit, var, ite, conj, binary, attr, has, is_type, rec, no_named, named, Mark}
use Rattle.policy_expressions.specs.Plain.{Plain}
use Rattle.typing_spec.specs.Capability.{Capability, has_cap}
use Rattle.typing_spec.specs.CapabilityLaws.{known_decides, alike_itself}
use Rattle.typing_spec.specs.Signatures.{bool_type}
use Rattle.typing_spec.specs.Typing.{tag_known, types}
use Rattle.level_spec.specs.Cut.{cut}
use Rattle.level_spec.specs.Findings.{LevelFault, needs_level, literal_target, level_faults}
use Rattle.level_spec.specs.Levels.{least_level}

abbrev user_name : List ℕ
user_name = codes "User"

abbrev photo_name : List ℕ
photo_name = codes "Photo"

abbrev uid : List ℕ → List ℕ → EntityUID
uid t e = record { entity_type = t; eid = e }

abbrev view : EntityUID
view = uid (codes "Action") (codes "view")

abbrev user : List ℕ
user = codes "user"

abbrev bool : List ℕ
bool = codes "bool"

abbrev nested : List ℕ
nested = codes "nested"

abbrev foo : List ℕ
foo = codes "foo"

abbrev bar : List ℕ
bar = codes "bar"

abbrev user_type : Ty
user_type = entity (user_name ∷ [])

abbrev with_user : Attrs
with_user = attribute user user_type true no_attrs

abbrev of_context : Attrs
of_context = attribute nested (record_of with_user ClosedAttributes) true with_user

abbrev schema : SchemaData
schema = record {
  entity_types =
      record { name = photo_name; descendants = []; kind = standard with_user None }
      ∷ record { name = user_name; descendants = user_name ∷ []; kind = standard (attribute bool bool_type true of_context) (Some user_type) }
      ∷ [];
  action_ids = record { name = view; principals = user_name ∷ []; resources = photo_name ∷ []; descendants = []; context = of_context } ∷ [];
}

abbrev env : EnvData
env = declared_action record { environment = environment user_name view photo_name; context = of_context; principal_slot = None; resource_slot = None }

abbrev here : Mark (Unit {0})
here = record { note = tt; loc = None }

abbrev principal : Plain
principal = var Principal here

abbrev resource : Plain
resource = var Resource here

abbrev action : Plain
action = var Action here

abbrev context : Plain
context = var Context here

abbrev id : EntityUID → Plain
id u = lit (literal.EntityUID u) here

abbrev get : Plain → List ℕ → Plain
get x n = attr x n here

abbrev two : BinaryOp → Plain → Plain → Plain
two o x y = binary o x y here

abbrev both : Plain → Plain → Plain
both x y = conj x y here

abbrev is_user : Plain → Plain
is_user x = is_type x user_name here

abbrev tag : Plain
tag = lit (literal.String (codes "t")) here

-- a condition with a type, and the least level at which it passes
abbrev levels_of : Plain → Option (Option ℕ)
levels_of e = option_map (λ x. least_level (action_in env) x.tree) (types schema env [] e)

known : (k : Capability) → has_cap (k ∷ []) k ≡ true
known k = (known_decides (k ∷ []) k).1 (inl (alike_itself k))

-- level 0
context_record : levels_of (is_user (get (get context nested) user)) ≡ Some (Some 0)
context_record = refl

record_literal : levels_of (is_user (get (rec (named foo principal no_named) here) foo)) ≡ Some (Some 0)
record_literal = refl

-- level 1
principal_record : levels_of (is_user (get (get principal nested) user)) ≡ Some (Some 1)
principal_record = refl

action_literal : levels_of (two In (id view) action) ≡ Some (Some 1)
action_literal = refl

context_user : levels_of (get (get context user) bool) ≡ Some (Some 1)
context_user = refl

-- level 2
tag_of_principal : levels_of (both (two HasTag principal tag) (get (two GetTag principal tag) bool)) ≡ Some (Some 2)
tag_of_principal = rw (known (tag_known principal tag)) refl

field_of_record : levels_of (get (get (rec (named foo (get principal user) no_named) here) foo) bool) ≡ Some (Some 2)
field_of_record = refl

right_operand : levels_of (two In principal (get (get principal user) user)) ≡ Some (Some 2)
right_operand = refl

-- level 3
tag_of_user : levels_of (both (two HasTag (get principal user) tag) (two In (two GetTag (get principal user) tag) (get resource user))) ≡ Some (Some 3)
tag_of_user = rw (known (tag_known (get principal user) tag)) refl

greater_branch : levels_of (get (ite (get (get principal user) bool) (get (get principal user) user) (get (get resource user) user) here) bool) ≡ Some (Some 3)
greater_branch = refl

-- level 4: the field that is not accessed counts
other_field : levels_of (get (get (rec (named foo principal (named bar (get (get (get (get principal user) user) user) user) no_named)) here) foo) bool) ≡ Some (Some 4)
other_field = refl

-- an id that is no action of the environment has no level
literal_user : levels_of (get (id (uid user_name (codes "alice"))) bool) ≡ Some None
literal_user = refl

-- a branch that is not reached does not count
one_branch : levels_of (get (ite (lit (literal.Bool true) here) principal (id (uid user_name (codes "alice"))) here) bool) ≡ Some (Some 1)
one_branch = refl

two_branches : levels_of (get (ite (get principal bool) principal (id (uid user_name (codes "alice"))) here) bool) ≡ Some None
two_branches = refl

-- `has` of the action asks for its entity
action_has : levels_of (has action foo here) ≡ Some (Some 1)
action_has = refl

-- a store cut at levels
abbrev alice : EntityUID
alice = uid user_name (codes "alice")

abbrev bob : EntityUID
bob = uid user_name (codes "bob")

abbrev x : EntityUID
x = uid photo_name (codes "x")

abbrev manager : EntityUID → Fields
manager u = field (codes "manager") (id_value u) no_fields

abbrev stored : EntityUID → Fields → Fields → StoredEntity
stored u fs ts = record { uid = u; attrs = fs; ancestors = []; tags = ts }

abbrev store : Store
store = stored x (field (codes "owner") (id_value bob) no_fields) no_fields ∷ stored alice (manager bob) no_fields ∷ stored bob (manager bob) no_fields ∷ []

abbrev request : Request
request = record { principal = Some alice; action = Some view; resource = Some x; context = Some no_fields }

level_0 : cut 0 request store ≡ []
level_0 = refl

level_1 : map (λ e. e.uid) (cut 1 request store) ≡ x ∷ alice ∷ []
level_1 = refl

level_2 : cut 2 request store ≡ store
level_2 = refl

-- what a tag holds is reached
tagged : map (λ e. e.uid) (cut 2 request (stored alice no_fields (manager bob) ∷ stored bob no_fields no_fields ∷ [])) ≡ alice ∷ bob ∷ []
tagged = refl

-- so is what stands in a set, though no expression takes it out of there
in_a_set : map (λ e. e.uid) (cut 2 request (stored alice (field (codes "s") (set (val (id_value bob) no_vals)) no_fields) no_fields ∷ stored bob no_fields no_fields ∷ [])) ≡ alice ∷ bob ∷ []
in_a_set = refl

-- what is found at a level
abbrev found_at : ℕ → Plain → Option (List LevelFault)
found_at n e = option_map (λ t. level_faults (action_in env) n t.tree) (types schema env [] e)

abbrev far : Mark (Unit {0})
far = record { note = tt; loc = Some (record { start = 3; end = 7 }) }

-- of a chain only the outermost is tested
chain : found_at 0 (get (get (get principal user) user) bool) ≡ Some (needs_level 3 None ∷ [])
chain = refl

-- the field that is not accessed is walked
walked_field : found_at 1 (get (get (rec (named bar (get (get principal user) user) (named foo principal no_named)) here) foo) bool) ≡ Some (needs_level 2 None ∷ [])
walked_field = refl

-- what is built on a literal has no level
built_on_literal : found_at 9 (get (get (id (uid user_name (codes "alice"))) user) bool) ≡ Some (literal_target None ∷ [])
built_on_literal = refl

-- what the right operand gives comes before what the dereference gives
right_first : found_at 0 (two In principal (attr principal user far)) ≡ Some (needs_level 1 far.loc ∷ needs_level 1 None ∷ [])
right_first = refl

-- the test of a target's `if` is walked
walked_test : found_at 1 (get (ite (get (get principal user) bool) principal principal here) bool) ≡ Some (needs_level 2 None ∷ [])
walked_test = refl

enough : found_at 3 (get (get (get principal user) user) bool) ≡ Some []
enough = refl
