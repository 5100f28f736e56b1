-- Worked cases.
use Rattle.std.proofs.Common.{◌≡◌, ℕ, true, false, List, [], ◌∷◌, Option, Some, None, refl}
use Rattle.std.specs.Prelude.{codes, option_map, map}
use Rattle.policy_values.specs.declared.entity_uid.EntityUID.{EntityUID}
use Rattle.policy_expressions.specs.declared.kinds.Literal.TheVariants as literal
use Rattle.policy_expressions.specs.declared.kinds.BinaryOp.TheVariants.{Less}
use Rattle.policy_expressions.specs.declared.kinds.SlotValues.{SlotValues}
use Rattle.policy_expressions.specs.Tree.{lit, binary}
use Rattle.schema_types.specs.Ty.{Ty, false_type, no_attrs}
use Rattle.schema_core.specs.EnvData.{principal_slot_in, unlinked}
use Rattle.schema_core.specs.Environments.{environment}
use Rattle.schema_core.specs.Kinds.{standard}
use Rattle.schema_core.specs.Schema.{TypeData, ActionData, SchemaData}
use Rattle.policy_expressions.specs.Plain.{Plain, unmarked}
use Rattle.typing_spec.specs.Signatures.{bool_type}
use Rattle.typing_spec.specs.Typing.{types}
use Rattle.policy_set.specs.declared.constraint.EntityReference.TheVariants.{Slot}
use Rattle.policy_set.specs.declared.constraint.Effect.TheVariants.{Permit}
use Rattle.policy_set.specs.declared.constraint.PrincipalOrResourceConstraint.{PrincipalOrResourceConstraint}
use Rattle.policy_set.specs.declared.constraint.PrincipalOrResourceConstraint.TheVariants.{Any, Eq, In, Is, IsIn}
use Rattle.policy_set.specs.declared.constraint.ActionConstraint.TheVariants as action
use Rattle.policy_set.specs.Data.{TemplateData}
use Rattle.policy_set.specs.Condition.{anything, condition_of}
use Rattle.policy_set.specs.Links.{own_condition, linked_of}
use Rattle.link_spec.specs.Linked.{types_around, linked_env, linked_envs}
use Rattle.findings.specs.Mentioned.{is_known_type}
use Rattle.policy_scope.specs.Scope.{is_applicable}

abbrev id : List ℕ → List ℕ → EntityUID
id t e = record { entity_type = t; eid = e }

abbrev standard_type : List ℕ → List (List ℕ) → TypeData
standard_type n below = record { name = n; descendants = below; kind = standard no_attrs None }

abbrev view : ActionData
view = record { name = id (codes "Action") (codes "view"); principals = codes "User" ∷ []; resources = codes "Photo" ∷ []; descendants = []; context = no_attrs }

-- users are in groups
abbrev photos : SchemaData
photos = record { entity_types = standard_type (codes "Group") (codes "User" ∷ []) ∷ standard_type (codes "Photo") [] ∷ standard_type (codes "User") [] ∷ []; action_ids = view ∷ [] }

-- users are in teams and teams in users
abbrev rings : SchemaData
rings = record { entity_types = standard_type (codes "Team") (codes "Team" ∷ codes "User" ∷ []) ∷ standard_type (codes "User") (codes "Team" ∷ codes "User" ∷ []) ∷ []; action_ids = [] }

abbrev asking : PrincipalOrResourceConstraint → Plain → TemplateData
asking c body = record { id = []; effect = Permit; principal = c; action = action.Any; resource = Any; body = body }

abbrev given : EntityUID → SlotValues
given u = record { principal = Some u; resource = None }

-- a body that has no type
abbrev faulty : Plain
faulty = binary Less (lit (literal.Bool true) unmarked) (lit (literal.Bool true) unmarked) unmarked

-- first those above, then the type itself; in a ring once, at its place
slot-types-of-in : map principal_slot_in (linked_envs photos (asking (In Slot) anything)) ≡ Some (codes "Group") ∷ Some (codes "User") ∷ []
slot-types-of-in = refl

slot-types-of-equal : map principal_slot_in (linked_envs photos (asking (Eq Slot) anything)) ≡ Some (codes "User") ∷ []
slot-types-of-equal = refl

slot-types-of-none : map principal_slot_in (linked_envs photos (asking (Is (codes "User")) anything)) ≡ None ∷ []
slot-types-of-none = refl

slot-types-in-ring : types_around rings (codes "User") ≡ codes "Team" ∷ codes "User" ∷ []
slot-types-in-ring = refl

-- types of conditions: in the linked environment with this type for the slot, and of a link
abbrev template_type : TemplateData → List ℕ → Option Ty
template_type t n = option_map (λ x. x.type) (types photos (linked_env view (environment (codes "User") view.name (codes "Photo")) (Some n) None) [] (condition_of t))

abbrev link_type : TemplateData → EntityUID → Option Ty
link_type t u = option_map (λ x. x.type) (types photos (unlinked view (environment (codes "User") view.name (codes "Photo"))) [] (own_condition (given u) t))

template-in : template_type (asking (In Slot) anything) (codes "Group") ≡ Some bool_type
template-in = refl

link-in-group : link_type (asking (In Slot) anything) (id (codes "Group") (codes "g")) ≡ Some bool_type
link-in-group = refl

link-in-photo : link_type (asking (In Slot) anything) (id (codes "Photo") (codes "x")) ≡ Some false_type
link-in-photo = refl

-- a link's scope part may be False where the template's is Bool: then its body is not reached
template-is-faulty : template_type (asking (In Slot) faulty) (codes "User") ≡ None
template-is-faulty = refl

link-hides-fault : link_type (asking (In Slot) faulty) (id (codes "Photo") (codes "x")) ≡ Some false_type
link-hides-fault = refl

-- a template that is False in all its environments: its links are False too
other-type : template_type (asking (IsIn (codes "Group") Slot) faulty) (codes "User") ≡ Some false_type
other-type = refl

other-type-linked : link_type (asking (IsIn (codes "Group") Slot) faulty) (id (codes "Group") (codes "g")) ≡ Some false_type
other-type-linked = refl

-- an id of an action's type is of a known type; that some action meets the link's scope is what refuses it
unknown-action : link_type (asking (Eq Slot) anything) (id (codes "Action") (codes "nope")) ≡ None
unknown-action = refl

its-type-is-known : is_known_type photos (codes "Action") ≡ true
its-type-is-known = refl

nothing-meets-it : is_applicable photos (linked_of (given (id (codes "Action") (codes "nope"))) (asking (Eq Slot) anything)) ≡ false
nothing-meets-it = refl
