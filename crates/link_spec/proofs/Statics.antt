-- Policies without slots, and what has a type everywhere.
use Rattle.std.proofs.Common.{◌≡◌, ℕ, ◌+◌, max, Bool, true, false, ◌&&◌, ◌||◌, List, [], ◌∷◌, map, cond, Option, Some, None, is_some, IsTrue, refl, sym, ap, subst, ◌∙◌, IfSome, IsSomeAnd}
use Rattle.std.specs.Prelude.{flat_map}
use Rattle.std.specs.List.{AllByRecursion, find}
use Rattle.policy_values.specs.Reaches.{has}
use Rattle.policy_values.specs.declared.entity_uid.EntityUID.{EntityUID}
use Rattle.policy_values.specs.Uid.{text_cmp, uid_cmp, exact_uid}
use Rattle.entity_store.specs.declared.request.Request.{Request}
use Rattle.entity_store.specs.Request.{principal_of, action_of, resource_of}
use Rattle.entity_store.specs.Store.{Store}
use Rattle.policy_expressions.specs.declared.kinds.SlotId.{SlotId}
use Rattle.policy_expressions.specs.declared.kinds.SlotId.TheVariants.{Principal, Resource}
use Rattle.policy_core.specs.Eval.{eval}
use Rattle.policy_expressions.specs.Slots.{has_slot}
use Rattle.policy_expressions.specs.Tree.{depth_of}
use Rattle.policy_values.specs.Ties.{equal_of}
use Rattle.schema_core.specs.EnvData.{LinkedEnvironment, declared_action, unlinked, unlinked_of}
use Rattle.schema_core.specs.Environments.{Environment, environment, environments_of, environments_at}
use Rattle.schema_core.specs.Schema.{ActionData, SchemaData, is_action_named, action_at}
use Rattle.typing_spec.specs.Conforms.{RequestConforms, Applies, IsOf}
use Rattle.typing_spec.specs.Conditions.{IsCondition, ConditionsAreSound}
use Rattle.typing_spec.specs.Operands.{is_boolean}
use Rattle.policy_expressions.specs.Keys.{HasKeysOnce, HaveKeysOnce}
use Rattle.typing_spec.specs.Typing.{Typing, unreached, types}
use Rattle.policy_set.specs.declared.constraint.EntityReference.TheVariants.{EUID, Slot}
use Rattle.policy_set.specs.declared.constraint.PrincipalOrResourceConstraint.{PrincipalOrResourceConstraint}
use Rattle.policy_set.specs.declared.constraint.PrincipalOrResourceConstraint.TheVariants.{Any, Eq, In, Is, IsIn}
use Rattle.policy_set.specs.declared.constraint.ActionConstraint.{ActionConstraint}
use Rattle.policy_set.specs.declared.constraint.ActionConstraint.TheVariants as action
use Rattle.link_spec.specs.Accepted.{IsTyped, IsTypedIn}
use Rattle.policy_expressions.specs.Plain.{Plain}
use Rattle.policy_set.specs.Data.{TemplateData}
use Rattle.policy_set.specs.Condition.{scope_part, literals, action_part, condition_of, asks_slot}
use Rattle.policy_set.specs.Links.{own_condition, linked, linked_of, HasPlainBody}
use Rattle.link_spec.specs.Laws.{StaticsAreUnlinked, StaticsAreTyped, StaticsAreSound, TypedEverywhere, LinksAreTyped, LinksHaveKeysOnce, LinksAreSound, TypedAreSound, LinksAreWrittenOut, same, with_id, both, left, FilledKeeps}
use Rattle.link_spec.specs.Linked.{linked_env, slot_types, linked_envs_at, linked_envs_of}
use Rattle.plain_lemmas.proofs.Booleans.{and_parts_of}
use Rattle.link_spec.proofs.Parts.{action_plain}
use Rattle.policy_set.proofs.Linked.{condition_filled}
use Rattle.link_spec.proofs.Links.{all_more, from_mapped, from_each, one_of}

flat_single : {X Y : Type 0} (f : X → Y) (xs : List X) → flat_map (λ x. f x ∷ []) xs ≡ map f xs
flat_single f [] = refl
flat_single f (x ∷ xs) = ap (λ ys. f x ∷ ys) (flat_single f xs)

no_slot_types : (schema : SchemaData) (c : PrincipalOrResourceConstraint) (n : List ℕ) → asks_slot c ≡ false → slot_types schema c n ≡ None ∷ []
no_slot_types schema Any n h = refl
no_slot_types schema (Is m) n h = refl
no_slot_types schema (Eq (EUID u)) n h = refl
no_slot_types schema (In (EUID u)) n h = refl
no_slot_types schema (IsIn m (EUID u)) n h = refl
no_slot_types schema (Eq Slot) n h = cc
no_slot_types schema (In Slot) n h = cc
no_slot_types schema (IsIn m Slot) n h = cc

pub statics_unlinked : StaticsAreUnlinked
statics_unlinked schema t no_principal no_resource = λ i. flat_map (λ a. of_action a i) schema.action_ids
  where
    of_env : (a : ActionData) (e : Environment) → linked_envs_at schema t a e ≡ unlinked a e ∷ []
    of_env a e = λ i. flat_map (λ p. map (linked_env a e p) (no_slot_types schema t.resource e.resource no_resource i)) (no_slot_types schema t.principal e.principal no_principal i)

    of_action : (a : ActionData) → linked_envs_of schema t a ≡ unlinked_of a
    of_action a = (λ i. flat_map (λ e. of_env a e i) (environments_of a)) ∙ flat_single (unlinked a) (environments_of a)

pub statics_typed : StaticsAreTyped
statics_typed schema t no_principal no_resource accepted = subst (IsTypedIn schema (condition_of t)) (statics_unlinked schema t no_principal no_resource) accepted.typed

all_found : {X : Type 0} (P : X → Type 0) (f : X → Bool) (xs : List X) → AllByRecursion P xs → IfSome (find f xs) P
all_found P f [] h = tt
all_found P f (x ∷ xs) h = by (f x) (all_found P f xs h.1)
  where
    by : (b : Bool) → IfSome (find f xs) P → IfSome (cond b (Some x) (find f xs)) P
    by true k = h.0
    by false k = k

-- what holds in each environment of each action holds in that of each action with a principal type and a resource type that it applies to
pub everywhere : (schema : SchemaData) (Q : ActionData → Environment → Type 0) → AllByRecursion (λ a. AllByRecursion (Q a) (environments_of a)) schema.action_ids → (u : EntityUID) →
    IfSome (action_at schema u) (λ a. (p r : List ℕ) → IsTrue (has text_cmp a.principals p) → IsTrue (has text_cmp a.resources r) → Q a (environment p a.name r))
everywhere schema Q h u = all_found At (is_action_named u) schema.action_ids (all_more (λ a. AllByRecursion (Q a) (environments_of a)) At of_action schema.action_ids h)
  where
    At : ActionData → Type 0
    At a = (p r : List ℕ) → IsTrue (has text_cmp a.principals p) → IsTrue (has text_cmp a.resources r) → Q a (environment p a.name r)

    of_action : (a : ActionData) → AllByRecursion (Q a) (environments_of a) → At a
    of_action a k p r i j =
        one_of (λ r. Q a (environment p a.name r)) r a.resources
        (from_mapped (Q a) (environment p a.name) a.resources
        (one_of (λ p. AllByRecursion (Q a) (environments_at a p)) p a.principals (from_each (Q a) (environments_at a) a.principals k) i)) j

pub typed_at : TypedEverywhere
typed_at schema x h u =
    everywhere schema (λ a e. IsTyped schema x (unlinked a e))
    (all_more (λ a. AllByRecursion (IsTyped schema x) (unlinked_of a)) (λ a. AllByRecursion (λ e. IsTyped schema x (unlinked a e)) (environments_of a)) (λ a k. from_mapped (IsTyped schema x) (unlinked a) (environments_of a) k) schema.action_ids
    (from_each (IsTyped schema x) unlinked_of schema.action_ids h)) u

-- no part of the scope has a record
plain_once : (i : SlotId) (c : PrincipalOrResourceConstraint) → HasKeysOnce (scope_part i c)
plain_once i Any = tt
plain_once i (Is n) = tt
plain_once i (Eq (EUID u)) = (tt, tt)
plain_once i (In (EUID u)) = (tt, tt)
plain_once i (IsIn n (EUID u)) = (tt, (tt, tt))
plain_once i (Eq Slot) = (tt, tt)
plain_once i (In Slot) = (tt, tt)
plain_once i (IsIn n Slot) = (tt, (tt, tt))

literals_once : (us : List EntityUID) → HaveKeysOnce (literals us)
literals_once [] = tt
literals_once (u ∷ us) = (tt, literals_once us)

action_once : (c : ActionConstraint) → HasKeysOnce (action_part c)
action_once action.Any = tt
action_once (action.Eq u) = (tt, tt)
action_once (action.In us) = (tt, literals_once us)

pub condition_once : (t : TemplateData) → HasKeysOnce t.body → HasKeysOnce (condition_of t)
condition_once t body = (((plain_once Principal t.principal, action_once t.action), plain_once Resource t.resource), body)

pub links_once : LinksHaveKeysOnce
links_once t plain body w fills = subst HasKeysOnce (sym (condition_filled w t plain)) (condition_once (linked_of w t) body)

part_plain : (i : SlotId) (c : PrincipalOrResourceConstraint) (v : Option EntityUID) → is_some v ≡ asks_slot c → has_slot (scope_part i (linked v c)) ≡ false
part_plain i Any v h = refl
part_plain i (Is n) v h = refl
part_plain i (Eq (EUID u)) v h = refl
part_plain i (In (EUID u)) v h = refl
part_plain i (IsIn n (EUID u)) v h = refl
part_plain i (Eq Slot) None h = cc
part_plain i (Eq Slot) (Some u) h = refl
part_plain i (In Slot) None h = cc
part_plain i (In Slot) (Some u) h = refl
part_plain i (IsIn n Slot) None h = cc
part_plain i (IsIn n Slot) (Some u) h = refl

part_depth : (i : SlotId) (c : PrincipalOrResourceConstraint) (v : Option EntityUID) → depth_of (scope_part i (linked v c)) ≡ depth_of (scope_part i c)
part_depth i Any v = refl
part_depth i (Is n) v = refl
part_depth i (Eq (EUID u)) v = refl
part_depth i (In (EUID u)) v = refl
part_depth i (IsIn n (EUID u)) v = refl
part_depth i (Eq Slot) None = refl
part_depth i (Eq Slot) (Some u) = refl
part_depth i (In Slot) None = refl
part_depth i (In Slot) (Some u) = refl
part_depth i (IsIn n Slot) None = refl
part_depth i (IsIn n Slot) (Some u) = refl

pub written_out : LinksAreWrittenOut
written_out t plain w fills = record {
  own = own;
  plain = ap has_slot own ∙ (λ i. ((part_plain Principal t.principal w.principal fills.principal i || action_plain t.action i) || part_plain Resource t.resource w.resource fills.resource i) || plain i);
  depth = ap depth_of own ∙ (λ i. max (max (max (part_depth Principal t.principal w.principal i) (depth_of (action_part t.action)) + 1) (part_depth Resource t.resource w.resource i) + 1) (depth_of t.body) + 1);
}
  where
    own : own_condition w t ≡ condition_of (linked_of w t)
    own = condition_filled w t plain

pub keeps_filled : FilledKeeps
keeps_filled f past x y same h = h
keeps_filled f past x y (with_id {o = o} {x = l} {i = i} {u = u} {a = a} {b = b} {c = c} {d = d}) h = sym (past.filled_in o l i u a b c d) ∙ h
keeps_filled f past x y (both {x = l} {y = r} {x' = l'} {y' = r'} {a = a} {b = b} p q) h =
    let k = and_parts_of (f l) (f r) (sym (past.both_sides l r a) ∙ h) in
    past.both_sides l' r' b ∙ (λ i. keeps_filled f past l l' p k.0 i && keeps_filled f past r r' q k.1 i)
keeps_filled f past x y (left {x = l} {y = r} {x' = l'} {a = a} {b = b} p) h =
    let k = and_parts_of (f l) (f r) (sym (past.both_sides l r a) ∙ h) in
    past.both_sides l' unreached b ∙ (λ i. keeps_filled f past l l' p k.0 i && past.nothing i)

-- what is found for an id has the id
named : (xs : List ActionData) (u : EntityUID) → IfSome (find (is_action_named u) xs) (λ a. u ≡ a.name)
named [] u = tt
named (y ∷ ys) u = by (is_action_named u y) refl (named ys u)
  where
    by : (b : Bool) → is_action_named u y ≡ b → IfSome (find (is_action_named u) ys) (λ a. u ≡ a.name) → IfSome (cond b (Some y) (find (is_action_named u) ys)) (λ a. u ≡ a.name)
    by true e rest = exact_uid u y.name (equal_of (uid_cmp u y.name) e)
    by false e rest = rest

-- the environment of a request, by its action
abbrev pub env_for : ActionData → Request → LinkedEnvironment
env_for a q = record { environment = environment (principal_of q).entity_type a.name (resource_of q).entity_type; context = a.context; principal_slot = None; resource_slot = None }

-- a request that conforms has an action, which applies to it, and is of the environment
pub for_request : {R : Type 0} (schema : SchemaData) (q : Request) → RequestConforms schema q → ((a : ActionData) → action_at schema (action_of q) ≡ Some a → Applies schema q a → IsOf schema q (env_for a q) → R) → R
for_request {R = R} schema q conforms k = by (action_at schema (action_of q)) refl conforms.action
  where
    by : (o : Option ActionData) → action_at schema (action_of q) ≡ o → IsSomeAnd o (λ a. Applies schema q a) → R
    by None e h = absurd h
    by (Some a) e h = k a e h record {
      principal = refl;
      action = name;
      resource = refl;
      context = subst (λ u. IsSomeAnd (action_at schema u) (λ b. a.context ≡ b.context)) name (subst (λ o. IsSomeAnd o (λ b. a.context ≡ b.context)) (sym e) refl);
    }
      where
        name : action_of q ≡ a.name
        name = subst (λ o. IfSome o (λ a. action_of q ≡ a.name)) e (named schema.action_ids (action_of q))

condition_for : (o : Option Typing) (x : Plain) (q : Request) (s : Store) → IsSomeAnd o (λ y. IsTrue (is_boolean y.type)) → IfSome o (λ y. IsTrue (is_boolean y.type) → IsCondition q s (eval x q s) y) → IsSomeAnd o (IsCondition q s (eval x q s))
condition_for None x q s h k = absurd h
condition_for (Some y) x q s h k = k h

pub typed_sound : ConditionsAreSound → TypedAreSound
typed_sound sound schema ok x plain once typed q conforms s stored =
    for_request schema q conforms (λ a e h of.
    subst (λ o. IsSomeAnd o (λ a. IsSomeAnd (types schema (declared_action (env_for a q)) [] x) (IsCondition q s (eval x q s)))) (sym e)
    (condition_for (types schema (declared_action (env_for a q)) [] x) x q s
    (subst (λ o. IfSome o (λ a. (p r : List ℕ) → IsTrue (has text_cmp a.principals p) → IsTrue (has text_cmp a.resources r) → IsTyped schema x (unlinked a (environment p a.name r)))) e (typed_at schema x typed (action_of q))
    (principal_of q).entity_type (resource_of q).entity_type h.principal h.resource)
    (sound schema ok (env_for a q) q conforms of s stored x plain once)))

pub links_sound : LinksAreTyped → LinksAreWrittenOut → LinksHaveKeysOnce → TypedAreSound → LinksAreSound
links_sound typed written once sound schema ok t plain body accepted w fills link q conforms s stored =
    sound schema ok (own_condition w t) (written t plain w fills).plain (once t plain body w fills) (typed schema ok t plain accepted w fills link) q conforms s stored

no_slots : (i : SlotId) (c : PrincipalOrResourceConstraint) → asks_slot c ≡ false → has_slot (scope_part i c) ≡ false
no_slots i Any h = refl
no_slots i (Is n) h = refl
no_slots i (Eq (EUID u)) h = refl
no_slots i (In (EUID u)) h = refl
no_slots i (IsIn n (EUID u)) h = refl
no_slots i (Eq Slot) h = cc
no_slots i (In Slot) h = cc
no_slots i (IsIn n Slot) h = cc

pub condition_plain : (t : TemplateData) → HasPlainBody t → asks_slot t.principal ≡ false → asks_slot t.resource ≡ false → has_slot (condition_of t) ≡ false
condition_plain t plain no_principal no_resource = λ i. ((no_slots Principal t.principal no_principal i || action_plain t.action i) || no_slots Resource t.resource no_resource i) || plain i

pub statics_sound : StaticsAreTyped → TypedAreSound → StaticsAreSound
statics_sound typed sound schema ok t plain body no_principal no_resource accepted q conforms s stored =
    sound schema ok (condition_of t)
    (condition_plain t plain no_principal no_resource)
    (condition_once t body) (typed schema t no_principal no_resource accepted) q conforms s stored
