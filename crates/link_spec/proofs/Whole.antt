-- The whole scope of a policy.
use Rattle.std.proofs.Common.{◌≡◌, inl, inr, ℕ, true, false, ◌&&◌, List, Option, IsTrue, IsSome, is_some, refl, sym, ap, subst, ◌∙◌}
use Rattle.std.specs.Option.{option_map_or}
use Rattle.policy_values.specs.Reaches.{has}
use Rattle.policy_values.specs.Basename.{is_action_type}
use Rattle.policy_values.specs.Uid.{text_cmp}
use Rattle.policy_values.specs.declared.entity_uid.EntityUID.{EntityUID}
use Rattle.policy_expressions.specs.declared.kinds.SlotId.{SlotId}
use Rattle.policy_expressions.specs.declared.kinds.SlotId.TheVariants.{Principal, Resource}
use Rattle.policy_expressions.specs.Tree.{conj}
use Rattle.policy_expressions.specs.Plain.{unmarked}
use Rattle.schema_core.specs.EnvData.{EnvData}
use Rattle.schema_core.specs.Environments.{Environment, environment}
use Rattle.schema_core.specs.Faults.{IsSchema}
use Rattle.schema_core.specs.Schema.{ActionData, SchemaData, action_at}
use Rattle.policy_set.specs.declared.constraint.PrincipalOrResourceConstraint.{PrincipalOrResourceConstraint}
use Rattle.policy_set.specs.declared.constraint.ActionConstraint.{ActionConstraint}
use Rattle.policy_set.specs.declared.constraint.PrincipalOrResourceConstraint.TheVariants.{Any, Eq, In, Is, IsIn}
use Rattle.policy_set.specs.declared.constraint.ActionConstraint.TheVariants as asked
use Rattle.policy_scope.specs.Scope.{type_meets, action_meets}
use Rattle.policy_set.specs.Condition.{scope_part, action_part, scope_of}
use Rattle.link_spec.specs.Linked.{linked_env}
use Rattle.policy_scope.specs.PlainScope.{is_plain_side, is_plain_action, is_plain_scope}
use Rattle.plain_lemmas.proofs.Booleans.{and_parts_of}
use Rattle.link_spec.specs.Parts.{side_part, action_part_of, joined, whole_part, Stands}
use Rattle.link_spec.specs.ScopeLaws.{IsEnvironment, ScopeIsDecided, ScopeIsMet}
use Rattle.link_spec.proofs.Joins.{Comes, joins}
use Rattle.link_spec.proofs.Sides.{name_of, slot_of, side}
use Rattle.link_spec.proofs.Actions.{action_comes}

module _ (schema : SchemaData) (ok : IsSchema schema) (a : ActionData) (e : Environment) (is : IsEnvironment schema a e) (s s' : Option (List ℕ)) where
  actions : (u : EntityUID) → IsSome (action_at schema u) → is_action_type u.entity_type ≡ true
  actions u h = ok.names.actions u h

  -- the types of an environment are none of actions
  no_action : (i : SlotId) → is_action_type (name_of schema a e s s' i) ≡ false
  no_action Principal = ok.names.types e.principal (ok.names.named_types e.principal (inl (inr (inl (a.name, ap (λ o. option_map_or (λ x. has text_cmp x.principals e.principal) o false) is.action ∙ is.principal)))))
  no_action Resource = ok.names.types e.resource (ok.names.named_types e.resource (inl (inr (inr (a.name, ap (λ o. option_map_or (λ x. has text_cmp x.resources e.resource) o false) is.action ∙ is.resource)))))

  pub side_comes : (i : SlotId) (c : PrincipalOrResourceConstraint) → IsTrue (is_plain_side schema c) → Stands c (name_of schema a e s s' i) (slot_of schema a e s s' i) →
      Comes schema (linked_env a e s s') (scope_part i c) (side_part schema i (name_of schema a e s s' i) (slot_of schema a e s s' i) c)
  side_comes i c plain f = side schema a e s s' actions i c (no_action i) plain f

pub whole_comes : (schema : SchemaData) → IsSchema schema → (a : ActionData) (e : Environment) → IsEnvironment schema a e →
    (p : PrincipalOrResourceConstraint) (c : ActionConstraint) (r : PrincipalOrResourceConstraint) → IsTrue (is_plain_scope schema p c r) →
    (s s' : Option (List ℕ)) → Stands p e.principal s → Stands r e.resource s' → Comes schema (linked_env a e s s') (scope_of p c r) (whole_part schema a e s s' p c r)
whole_comes schema ok a e is p c r plain s s' f g =
    joins schema env (conj (scope_part Principal p) (action_part c) unmarked) (scope_part Resource r) (joined (side_part schema Principal e.principal s p) (action_part_of schema a c)) (side_part schema Resource e.resource s' r)
    (joins schema env (scope_part Principal p) (action_part c) (side_part schema Principal e.principal s p) (action_part_of schema a c)
    (side_comes schema ok a e is s s' Principal p first.0 f)
    (subst (λ u. Comes schema (linked_env a (environment e.principal u e.resource) s s') (action_part c) (action_part_of schema a c)) (sym is.name)
    (action_comes schema (actions schema ok a e is s s') a (ap is_some is.action) e.principal e.resource s s' c first.1)))
    (side_comes schema ok a e is s s' Resource r parts.1 g)
  where
    env : EnvData
    env = linked_env a e s s'

    parts : (is_plain_side schema p && is_plain_action schema c ≡ true) × (is_plain_side schema r ≡ true)
    parts = and_parts_of (is_plain_side schema p && is_plain_action schema c) (is_plain_side schema r) plain

    first : (is_plain_side schema p ≡ true) × (is_plain_action schema c ≡ true)
    first = and_parts_of (is_plain_side schema p) (is_plain_action schema c) parts.0

pub scope_decided : ScopeIsDecided
scope_decided schema ok a e is p c r plain s s' f g cs = whole_comes schema ok a e is p c r plain s s' f g cs

-- whether a part is met is what the test of its scope says
pub side_met : (schema : SchemaData) (i : SlotId) (n : List ℕ) (o : Option (List ℕ)) (c : PrincipalOrResourceConstraint) → (side_part schema i n o c).meets ≡ type_meets schema c n
side_met schema i n o Any = refl
side_met schema i n o (Eq r) = refl
side_met schema i n o (In r) = refl
side_met schema i n o (Is m) = refl
side_met schema i n o (IsIn m r) = refl

action_met : (schema : SchemaData) (a : ActionData) (c : ActionConstraint) → (action_part_of schema a c).meets ≡ action_meets schema c a
action_met schema a asked.Any = refl
action_met schema a (asked.Eq u) = refl
action_met schema a (asked.In us) = refl

pub scope_met : ScopeIsMet
scope_met schema a e s s' p c r = λ j. (side_met schema Principal e.principal s p j && action_met schema a c j) && side_met schema Resource e.resource s' r j
