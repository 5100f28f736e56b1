-- Links are typed, since their templates are.
use Rattle.std.specs.Prelude.{◌≡◌, ◌⊎◌, ◌&&◌, ℕ, Bool, true, false, List, [], Option, Some, None, IfSome, IsSomeAnd, IsTrue}
use Rattle.std.specs.List.{AllByRecursion}
use Rattle.policy_values.specs.declared.entity_uid.EntityUID.{EntityUID}
use Rattle.policy_expressions.specs.declared.kinds.BinaryOp.{BinaryOp}
use Rattle.policy_expressions.specs.declared.kinds.Literal.TheVariants as literal
use Rattle.policy_expressions.specs.declared.kinds.SlotId.{SlotId}
use Rattle.policy_expressions.specs.declared.kinds.SlotValues.{SlotValues}
use Rattle.policy_expressions.specs.Tree.{Mark, lit, slot, conj, binary, depth_of}
use Rattle.policy_core.specs.Eval.{eval}
use Rattle.policy_expressions.specs.Slots.{has_slot}
use Rattle.entity_store.specs.declared.request.Request.{Request}
use Rattle.entity_store.specs.Request.{principal_of, action_of, resource_of}
use Rattle.entity_store.specs.Store.{Store}
use Rattle.typing_spec.specs.Conforms.{RequestConforms, StoreConforms}
use Rattle.typing_spec.specs.Conditions.{IsCondition}
use Rattle.policy_expressions.specs.Keys.{HasKeysOnce}
use Rattle.policy_values.specs.Reaches.{has}
use Rattle.policy_values.specs.Uid.{text_cmp}
use Rattle.schema_types.specs.Ty.{Ty, false_type}
use Rattle.schema_core.specs.Environments.{Environment, environment}
use Rattle.schema_core.specs.EnvData.{unlinked, unlinked_envs}
use Rattle.schema_core.specs.Faults.{IsSchema}
use Rattle.schema_core.specs.Schema.{ActionData, SchemaData, action_at}
use Rattle.policy_expressions.specs.Plain.{Plain}
use Rattle.typing_spec.specs.Capability.{Capability}
use Rattle.typing_spec.specs.Typing.{Typed, Typing, unreached, types}
use Rattle.policy_set.specs.declared.constraint.PrincipalOrResourceConstraint.{PrincipalOrResourceConstraint}
use Rattle.policy_set.specs.Data.{TemplateData}
use Rattle.policy_set.specs.Condition.{condition_of, asks_slot}
use Rattle.policy_set.specs.Links.{own_condition, linked_of, HasPlainBody, Fills}
use Rattle.typecheck_rules.specs.Check.{checked, SaysWhy}
use Rattle.typecheck_rules.specs.Names.{has_known_names}
use Rattle.link_spec.specs.Linked.{linked_env, linked_envs}
use Rattle.policy_scope.specs.Scope.{is_applicable}
use Rattle.link_spec.specs.Accepted.{IsTyped, IsTypedIn, IsAcceptedTemplate, IsAcceptedLink}

-- a link's condition is the condition of its own scope and the template's body; it has no slot, and is as
-- deep as the template's
pub record IsWrittenOut (w : SlotValues) (t : TemplateData) : Type 0 where
  pub own : own_condition w t ≡ condition_of (linked_of w t)
  pub plain : has_slot (own_condition w t) ≡ false
  pub depth : depth_of (own_condition w t) ≡ depth_of (condition_of t)

abbrev pub LinksAreWrittenOut : Type 0
LinksAreWrittenOut = (t : TemplateData) → HasPlainBody t → (w : SlotValues) → Fills w t → IsWrittenOut w t

-- what stands for slots does not matter to an expression without slots
abbrev pub SlotsAreNotRead : Type 0
SlotsAreNotRead =
    (schema : SchemaData) (a : ActionData) (e : Environment) (p r p' r' : Option (List ℕ))
    (cs : List Capability) (x : Plain) → has_slot x ≡ false →
    types schema (linked_env a e p r) cs x ≡ types schema (linked_env a e p' r') cs x

-- the second typed expression is the first with ids in the places of slots, where fewer parts may be
-- reached: what stands on the right of a `&&` may be left out
pub data IsFilled : Typed → Typed → Type 0 where
  same : {x : Typed} → IsFilled x x
  with_id : {o : BinaryOp} {x : Typed} {i : SlotId} {u : EntityUID} {a b c d : Mark (Option Ty)} →
      IsFilled (binary o x (slot i a) b) (binary o x (lit (literal.EntityUID u) c) d)
  both : {x y x' y' : Typed} {a b : Mark (Option Ty)} → IsFilled x x' → IsFilled y y' →
      IsFilled (conj x y a) (conj x' y' b)
  left : {x y x' : Typed} {a b : Mark (Option Ty)} → IsFilled x x' →
      IsFilled (conj x y a) (conj x' unreached b)

-- a test of typed expressions that passes `&&` where it passes both sides, and does not look at an id on the
-- right of an operator
pub record LooksPastSlots (f : Typed → Bool) : Type 0 where
  pub both_sides : (x y : Typed) (a : Mark (Option Ty)) → f (conj x y a) ≡ (f x && f y)
  pub nothing : f unreached ≡ true
  pub filled_in :
      (o : BinaryOp) (x : Typed) (i : SlotId) (u : EntityUID) (a b c d : Mark (Option Ty)) →
      f (binary o x (slot i a) b) ≡ f (binary o x (lit (literal.EntityUID u) c) d)

-- what a template's typed expression passes, the link's passes
abbrev pub FilledKeeps : Type 0
FilledKeeps =
    (f : Typed → Bool) → LooksPastSlots f → (x y : Typed) → IsFilled x y → IsTrue (f x) → IsTrue (f y)

-- what is typed False makes nothing known; anything else is typed and makes known what the other does
abbrev pub IsSameOrFalse : Typing → Typing → Type 0
IsSameOrFalse x y = ((y.type ≡ false_type) × (y.caps ≡ [])) ⊎ ((y.type ≡ x.type) × (y.caps ≡ x.caps))

pub record IsFilledTyping (x y : Typing) : Type 0 where
  pub type : IsSameOrFalse x y
  pub tree : IsFilled x.tree y.tree

abbrev pub FollowsTyping : Option Typing → Option Typing → Type 0
FollowsTyping x y = IfSome x (λ a. IsSomeAnd y (IsFilledTyping a))

-- the type of the variable, where a slot stands
abbrev pub if_slot : Bool → List ℕ → Option (List ℕ)
if_slot true n = Some n
if_slot false n = None

abbrev pub own_slot : PrincipalOrResourceConstraint → List ℕ → Option (List ℕ)
own_slot c n = if_slot (asks_slot c) n

-- in every environment a link's condition is typed False, or as its template's is where an entity of the
-- variable's type stands for each slot
abbrev pub LinksFollowTemplates : Type 0
LinksFollowTemplates =
    (schema : SchemaData) → IsSchema schema → (t : TemplateData) → HasPlainBody t →
    (w : SlotValues) → Fills w t → IsTrue (is_applicable schema (linked_of w t)) →
    (a : ActionData) (e : Environment) →
    FollowsTyping
    (types schema (linked_env a e (own_slot t.principal e.principal) (own_slot t.resource e.resource)) []
    (condition_of t))
    (types schema (unlinked a e) [] (own_condition w t))

-- the condition of an accepted link of an accepted template has a type in every environment of the schema
abbrev pub LinksAreTyped : Type 0
LinksAreTyped =
    (schema : SchemaData) → IsSchema schema → (t : TemplateData) → HasPlainBody t →
    IsAcceptedTemplate schema t → (w : SlotValues) → Fills w t → IsAcceptedLink schema w t →
    IsTypedIn schema (own_condition w t) (unlinked_envs schema)

-- a policy without slots is looked at in the environments of the schema
abbrev pub StaticsAreUnlinked : Type 0
StaticsAreUnlinked =
    (schema : SchemaData) (t : TemplateData) → asks_slot t.principal ≡ false → asks_slot t.resource ≡ false →
    linked_envs schema t ≡ unlinked_envs schema

-- an accepted policy without slots has a type in every environment of the schema
abbrev pub StaticsAreTyped : Type 0
StaticsAreTyped =
    (schema : SchemaData) (t : TemplateData) → asks_slot t.principal ≡ false → asks_slot t.resource ≡ false →
    IsAcceptedTemplate schema t →
    IsTypedIn schema (condition_of t) (unlinked_envs schema)

-- what has a type in every environment of the schema has one in that of each action with a principal type
-- and a resource type that it applies to
abbrev pub TypedEverywhere : Type 0
TypedEverywhere =
    (schema : SchemaData) (x : Plain) → IsTypedIn schema x (unlinked_envs schema) → (u : EntityUID) →
    IfSome (action_at schema u) (λ a.
    (p r : List ℕ) → IsTrue (has text_cmp a.principals p) → IsTrue (has text_cmp a.resources r) →
    IsTyped schema x (unlinked a (environment p a.name r)))

-- each record of a link's condition has each of its keys once
abbrev pub LinksHaveKeysOnce : Type 0
LinksHaveKeysOnce =
    (t : TemplateData) → HasPlainBody t → HasKeysOnce t.body →
    (w : SlotValues) → Fills w t → HasKeysOnce (own_condition w t)

-- in the environment of the request the condition has a type, and keeps what typing promises of conditions
abbrev pub IsConditionFor : SchemaData → Plain → Request → Store → Type 0
IsConditionFor schema x q s =
    IsSomeAnd (action_at schema (action_of q)) (λ a.
    IsSomeAnd
    (types schema (unlinked a (environment (principal_of q).entity_type a.name (resource_of q).entity_type))
    [] x)
    (IsCondition q s (eval x q s)))

-- a condition that has a type in every environment of the schema has one for each request that conforms
abbrev pub TypedAreSound : Type 0
TypedAreSound =
    (schema : SchemaData) → IsSchema schema →
    (x : Plain) → has_slot x ≡ false → HasKeysOnce x → IsTypedIn schema x (unlinked_envs schema) →
    (q : Request) → RequestConforms schema q → (s : Store) → StoreConforms schema s →
    IsConditionFor schema x q s

-- so has that of an accepted link
abbrev pub LinksAreSound : Type 0
LinksAreSound =
    (schema : SchemaData) → IsSchema schema → (t : TemplateData) → HasPlainBody t → HasKeysOnce t.body →
    IsAcceptedTemplate schema t → (w : SlotValues) → Fills w t → IsAcceptedLink schema w t →
    (q : Request) → RequestConforms schema q → (s : Store) → StoreConforms schema s →
    IsConditionFor schema (own_condition w t) q s

-- and that of an accepted policy without slots
abbrev pub StaticsAreSound : Type 0
StaticsAreSound =
    (schema : SchemaData) → IsSchema schema → (t : TemplateData) → HasPlainBody t → HasKeysOnce t.body →
    asks_slot t.principal ≡ false → asks_slot t.resource ≡ false → IsAcceptedTemplate schema t →
    (q : Request) → RequestConforms schema q → (s : Store) → StoreConforms schema s →
    IsConditionFor schema (condition_of t) q s

-- where each name of a template is known, a check that fails in one of its environments says why
abbrev pub RefusalsAreReported : Type 0
RefusalsAreReported =
    (schema : SchemaData) (t : TemplateData) → IsTrue (has_known_names schema (condition_of t)) →
    AllByRecursion (λ env. SaysWhy (checked schema env (condition_of t))) (linked_envs schema t)
