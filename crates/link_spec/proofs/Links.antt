-- Links are typed as their templates, or False.
use Rattle.std.proofs.Common.{◌≡◌, inl, inr, ℕ, Bool, true, false, ◌||◌, List, [], ◌∷◌, ◌++◌, map, Option, Some, None, IsTrue, refl, sym, ap, subst, ◌∙◌, IsSomeAnd}
use Rattle.std.specs.Prelude.{flat_map, if◌then◌else◌}
use Rattle.std.specs.List.{AllByRecursion}
use Rattle.std.specs.Ordering.{is_eq}
use Rattle.policy_values.specs.Reaches.{has}
use Rattle.policy_values.specs.Uid.{text_cmp}
use Rattle.policy_expressions.specs.declared.kinds.SlotId.TheVariants.{Principal, Resource}
use Rattle.policy_expressions.specs.Tree.{conj}
use Rattle.schema_core.specs.EnvData.{EnvData, unlinked, unlinked_of}
use Rattle.schema_core.specs.Environments.{Environment, environments_of}
use Rattle.schema_core.specs.Schema.{ActionData, SchemaData}
use Rattle.typing_spec.specs.Operands.{is_boolean}
use Rattle.typing_spec.specs.Typing.{Typing, types}
use Rattle.policy_set.specs.declared.constraint.EntityReference.TheVariants.{EUID, Slot}
use Rattle.policy_set.specs.declared.constraint.PrincipalOrResourceConstraint.{PrincipalOrResourceConstraint}
use Rattle.policy_set.specs.declared.constraint.PrincipalOrResourceConstraint.TheVariants.{Any, Eq, In, Is, IsIn}
use Rattle.link_spec.specs.Accepted.{IsTyped}
use Rattle.policy_set.specs.Data.{TemplateData}
use Rattle.policy_set.specs.Condition.{scope_part, action_part, condition_of}
use Rattle.policy_expressions.specs.Plain.{unmarked}
use Rattle.policy_set.specs.Links.{own_condition, linked}
use Rattle.link_spec.specs.Laws.{IsSameOrFalse, FollowsTyping, own_slot, LinksFollowTemplates, LinksAreTyped}
use Rattle.link_spec.specs.Linked.{linked_env, types_above, types_around, slot_types, linked_envs_with, linked_envs_at, linked_envs_of}
use Rattle.link_spec.proofs.Declared.{AreOfEntities, of_entities}
use Rattle.link_spec.proofs.Follow.{conj_follows}
use Rattle.policy_set.proofs.Linked.{condition_filled}
use Rattle.link_spec.proofs.Parts.{same_text, action_plain, plain_follows, part_follows}

pub links_follow : LinksFollowTemplates
links_follow schema ok t plain w fills scope a e =
    subst (λ x. FollowsTyping (types schema slots [] (condition_of t)) (types schema none [] x)) (sym (condition_filled w t plain))
    (conj_follows schema slots none
    (conj (conj (scope_part Principal t.principal) (action_part t.action) unmarked) (scope_part Resource t.resource) unmarked)
    (conj (conj (scope_part Principal (linked w.principal t.principal)) (action_part t.action) unmarked) (scope_part Resource (linked w.resource t.resource)) unmarked)
    t.body t.body unmarked
    (conj_follows schema slots none
    (conj (scope_part Principal t.principal) (action_part t.action) unmarked) (conj (scope_part Principal (linked w.principal t.principal)) (action_part t.action) unmarked)
    (scope_part Resource t.resource) (scope_part Resource (linked w.resource t.resource)) unmarked
    (conj_follows schema slots none (scope_part Principal t.principal) (scope_part Principal (linked w.principal t.principal)) (action_part t.action) (action_part t.action) unmarked
    (part_follows schema a e Principal t.principal w.principal fills.principal ids.0 r)
    (plain_follows schema a e p r (action_part t.action) (action_plain t.action)))
    (part_follows schema a e Resource t.resource w.resource fills.resource ids.1 p))
    (plain_follows schema a e p r t.body plain) [])
  where
    p : Option (List ℕ)
    p = own_slot t.principal e.principal

    r : Option (List ℕ)
    r = own_slot t.resource e.resource

    slots : EnvData
    slots = linked_env a e p r

    none : EnvData
    none = unlinked a e

    ids : AreOfEntities schema t w
    ids = of_entities schema ok t w scope

-- lists
module _ {X : Type 0} where
  pub all_split : (P : X → Type 0) (xs ys : List X) → AllByRecursion P (xs ++ ys) → AllByRecursion P xs × AllByRecursion P ys
  all_split P [] ys h = (tt, h)
  all_split P (x ∷ xs) ys h = let r = all_split P xs ys h.1 in ((h.0, r.0), r.1)

  all_both : (P : X → Type 0) (xs ys : List X) → AllByRecursion P xs → AllByRecursion P ys → AllByRecursion P (xs ++ ys)
  all_both P [] ys h k = k
  all_both P (x ∷ xs) ys h k = (h.0, all_both P xs ys h.1 k)

  pub all_more : (P Q : X → Type 0) → ((x : X) → P x → Q x) → (xs : List X) → AllByRecursion P xs → AllByRecursion Q xs
  all_more P Q f [] h = tt
  all_more P Q f (x ∷ xs) h = (f x h.0, all_more P Q f xs h.1)

module _ {X Y : Type 0} (P : Y → Type 0) where
  pub from_mapped : (f : X → Y) (xs : List X) → AllByRecursion P (map f xs) → AllByRecursion (λ x. P (f x)) xs
  from_mapped f [] h = tt
  from_mapped f (x ∷ xs) h = (h.0, from_mapped f xs h.1)

  pub to_mapped : (f : X → Y) (xs : List X) → AllByRecursion (λ x. P (f x)) xs → AllByRecursion P (map f xs)
  to_mapped f [] h = tt
  to_mapped f (x ∷ xs) h = (h.0, to_mapped f xs h.1)

  pub from_each : (f : X → List Y) (xs : List X) → AllByRecursion P (flat_map f xs) → AllByRecursion (λ x. AllByRecursion P (f x)) xs
  from_each f [] h = tt
  from_each f (x ∷ xs) h = let r = all_split P (f x) (flat_map f xs) h in (r.0, from_each f xs r.1)

  pub to_each : (f : X → List Y) (xs : List X) → AllByRecursion (λ x. AllByRecursion P (f x)) xs → AllByRecursion P (flat_map f xs)
  to_each f [] h = tt
  to_each f (x ∷ xs) h = all_both P (f x) (flat_map f xs) h.0 (to_each f xs h.1)

pub one_of : (P : List ℕ → Type 0) (n : List ℕ) (ns : List (List ℕ)) → AllByRecursion P ns → has text_cmp ns n ≡ true → P n
one_of P n [] h i = cc
one_of P n (m ∷ ms) h i = by (is_eq (text_cmp n m)) refl (one_of P n ms h.1) i
  where
    by : (b : Bool) → is_eq (text_cmp n m) ≡ b → (has text_cmp ms n ≡ true → P n) → (b || has text_cmp ms n) ≡ true → P n
    by true e rest k = subst P (sym (same_text n m e)) h.0
    by false e rest k = rest k

module _ (schema : SchemaData) where
  -- the type of the variable is among those that may stand for the slot
  itself_around : (P : List ℕ → Type 0) (n : List ℕ) → AllByRecursion P (types_around schema n) → P n
  itself_around P n h = by (has text_cmp (types_above schema n) n) refl h
    where
      by : (b : Bool) → has text_cmp (types_above schema n) n ≡ b → AllByRecursion P (if b then types_above schema n else types_above schema n ++ n ∷ []) → P n
      by true e k = one_of P n (types_above schema n) k e
      by false e k = (all_split P (types_above schema n) (n ∷ []) k).1.0

  own_among : (P : Option (List ℕ) → Type 0) (c : PrincipalOrResourceConstraint) (n : List ℕ) → AllByRecursion P (slot_types schema c n) → P (own_slot c n)
  own_among P (Eq Slot) n h = h.0
  own_among P (In Slot) n h = itself_around (λ m. P (Some m)) n (from_mapped P Some (types_around schema n) h)
  own_among P (IsIn m Slot) n h = itself_around (λ m. P (Some m)) n (from_mapped P Some (types_around schema n) h)
  own_among P Any n h = h.0
  own_among P (Is m) n h = h.0
  own_among P (Eq (EUID u)) n h = h.0
  own_among P (In (EUID u)) n h = h.0
  own_among P (IsIn m (EUID u)) n h = h.0

  -- of the environments that an environment of the schema gives, the one with the types of the variables
  pub own_env : (P : EnvData → Type 0) (t : TemplateData) (a : ActionData) (e : Environment) → AllByRecursion P (linked_envs_at schema t a e) →
      P (linked_env a e (own_slot t.principal e.principal) (own_slot t.resource e.resource))
  own_env P t a e h =
      own_among (λ r. P (linked_env a e (own_slot t.principal e.principal) r)) t.resource e.resource
      (from_mapped P (linked_env a e (own_slot t.principal e.principal)) (slot_types schema t.resource e.resource)
      (own_among (λ p. AllByRecursion P (linked_envs_with schema t a e p)) t.principal e.principal
      (from_each P (linked_envs_with schema t a e) (slot_types schema t.principal e.principal) h)))

boolean_follows : (x y : Option Typing) → FollowsTyping x y → IsSomeAnd x (λ a. IsTrue (is_boolean a.type)) → IsSomeAnd y (λ a. IsTrue (is_boolean a.type))
boolean_follows None y h k = absurd k
boolean_follows (Some a) None h k = absurd h
boolean_follows (Some a) (Some b) h k = by h.type
  where
    by : IsSameOrFalse a b → IsTrue (is_boolean b.type)
    by (inl e) = ap is_boolean e.0
    by (inr e) = ap is_boolean e.0 ∙ k

pub links_typed : LinksAreTyped
links_typed schema ok t plain accepted w fills link =
    to_each P unlinked_of schema.action_ids
    (all_more (λ a. AllByRecursion L (linked_envs_of schema t a)) (λ a. AllByRecursion P (unlinked_of a)) of_action schema.action_ids
    (from_each L (linked_envs_of schema t) schema.action_ids accepted.typed))
  where
    P : EnvData → Type 0
    P = IsTyped schema (own_condition w t)

    L : EnvData → Type 0
    L = IsTyped schema (condition_of t)

    of_env : (a : ActionData) (e : Environment) → AllByRecursion L (linked_envs_at schema t a e) → P (unlinked a e)
    of_env a e h =
        boolean_follows (types schema (linked_env a e (own_slot t.principal e.principal) (own_slot t.resource e.resource)) [] (condition_of t)) (types schema (unlinked a e) [] (own_condition w t))
        (links_follow schema ok t plain w fills link.scope a e) (own_env schema L t a e h)

    of_action : (a : ActionData) → AllByRecursion L (linked_envs_of schema t a) → AllByRecursion P (unlinked_of a)
    of_action a h =
        to_mapped P (unlinked a) (environments_of a)
        (all_more (λ e. AllByRecursion L (linked_envs_at schema t a e)) (λ e. P (unlinked a e)) (of_env a) (environments_of a)
        (from_each L (linked_envs_at schema t a) (environments_of a) h))
