-- Levels of links and of policies without slots.
use Rattle.std.proofs.Common.{◌≡◌, ℕ, true, false, List, [], Option, Some, None, IsTrue, refl, subst, IfSome, IsSomeAnd}
use Rattle.std.proofs.lemmas.List.Folds.{list_all-append}
use Rattle.policy_values.specs.Reaches.{has}
use Rattle.policy_values.specs.declared.entity_uid.EntityUID.{EntityUID}
use Rattle.policy_values.specs.Uid.{text_cmp}
use Rattle.entity_store.specs.declared.request.Request.{Request}
use Rattle.entity_store.specs.Request.{principal_of, action_of, resource_of}
use Rattle.entity_store.specs.Store.{Store}
use Rattle.policy_core.specs.Eval.{eval}
use Rattle.schema_core.specs.EnvData.{EnvData, declared_action, unlinked}
use Rattle.schema_core.specs.Environments.{environment}
use Rattle.schema_core.specs.Schema.{ActionData}
use Rattle.policy_expressions.specs.Plain.{Plain}
use Rattle.typing_spec.specs.Operands.{is_boolean}
use Rattle.typing_spec.specs.Typing.{Typing, types}
use Rattle.link_spec.specs.Accepted.{IsTyped}
use Rattle.policy_set.specs.Data.{TemplateData}
use Rattle.policy_set.specs.Condition.{condition_of, asks_slot}
use Rattle.policy_set.specs.Links.{own_condition}
use Rattle.link_spec.specs.Laws.{LooksPastSlots, FilledKeeps, FollowsTyping, if_slot, own_slot, LinksFollowTemplates, LinksAreWrittenOut, LinksHaveKeysOnce}
use Rattle.link_spec.specs.Linked.{linked_env}
use Rattle.link_spec.proofs.Own.{own_everywhere}
use Rattle.link_spec.proofs.Statics.{env_for, for_request, condition_plain, condition_once}
use Rattle.level_spec.specs.Cut.{cut}
use Rattle.level_spec.specs.Levels.{is_below, dereferences, passes}
use Rattle.level_spec.specs.Policies.{PassesIn, LinkLevelsAreSound, StaticLevelsAreSound}
use Rattle.level_spec.specs.Sound.{LevelsAreSound}

-- what passes does not look at the ids that stand for slots
past_slots : (action : Option EntityUID) (n : ℕ) → LooksPastSlots (passes action n)
past_slots action n = record {
  both_sides = λ x y a. list_all-append (is_below n) (dereferences action x) (dereferences action y);
  nothing = refl;
  filled_in = λ o x i u a b c d. refl;
}

-- the link's typing, by its template's
link_here : (q : Request) (s : Store) (n : ℕ) (action : Option EntityUID) (x : Plain) (o p : Option Typing) → FilledKeeps → FollowsTyping o p → IsSomeAnd o (λ a. IsTrue (is_boolean a.type)) → IfSome o (λ a. passes action n a.tree ≡ true) →
    IfSome p (λ r. passes action n r.tree ≡ true → eval x q (cut n q s) ≡ eval x q s) → eval x q (cut n q s) ≡ eval x q s
link_here q s n action x None p keeps f b h k = absurd b
link_here q s n action x (Some a) None keeps f b h k = absurd f
link_here q s n action x (Some a) (Some r) keeps f b h k = k (keeps (passes action n) (past_slots action n) a.tree r.tree f.tree h)

-- what holds in the environment of a request's action
abbrev At : (ActionData → List ℕ → List ℕ → Type 0) → ActionData → Type 0
At P a = (p r : List ℕ) → IsTrue (has text_cmp a.principals p) → IsTrue (has text_cmp a.resources r) → P a p r

pub link_levels : LevelsAreSound → LinksFollowTemplates → LinksAreWrittenOut → LinksHaveKeysOnce → FilledKeeps → LinkLevelsAreSound
link_levels levels follows written once keeps schema ok t plain body accepted n passes_at w fills link q conforms s stored =
    for_request schema q conforms (λ a e h of.
    link_here q s n (Some a.name) (own_condition w t)
    (types schema (linked_env a (environment (principal_of q).entity_type a.name (resource_of q).entity_type) (own_slot t.principal (principal_of q).entity_type) (own_slot t.resource (resource_of q).entity_type)) [] (condition_of t))
    (types schema (declared_action (env_for a q)) [] (own_condition w t)) keeps
    (follows schema ok t plain w fills link.scope a (environment (principal_of q).entity_type a.name (resource_of q).entity_type))
    (subst (λ o. IfSome o (At (λ a p r. IsTyped schema (condition_of t) (linked_env a (environment p a.name r) (own_slot t.principal p) (own_slot t.resource r))))) e
    (own_everywhere schema (IsTyped schema (condition_of t)) t accepted.typed (action_of q)) (principal_of q).entity_type (resource_of q).entity_type h.principal h.resource)
    (subst (λ o. IfSome o (At (λ a p r. PassesIn schema n (condition_of t) (linked_env a (environment p a.name r) (own_slot t.principal p) (own_slot t.resource r))))) e
    (own_everywhere schema (PassesIn schema n (condition_of t)) t passes_at (action_of q)) (principal_of q).entity_type (resource_of q).entity_type h.principal h.resource)
    (levels schema ok (env_for a q) q conforms of s stored n (own_condition w t) (written t plain w fills).plain (once t plain body w fills)))

-- of a policy without slots nothing stands for them
unlinked_here : (P : EnvData → Type 0) (t : TemplateData) → asks_slot t.principal ≡ false → asks_slot t.resource ≡ false → (a : ActionData) (p r : List ℕ) →
    P (linked_env a (environment p a.name r) (own_slot t.principal p) (own_slot t.resource r)) → P (unlinked a (environment p a.name r))
unlinked_here P t no_principal no_resource a p r = subst P (λ i. linked_env a (environment p a.name r) (if_slot (no_principal i) p) (if_slot (no_resource i) r))

static_here : (q : Request) (s : Store) (n : ℕ) (action : Option EntityUID) (x : Plain) (o : Option Typing) → IsSomeAnd o (λ a. IsTrue (is_boolean a.type)) → IfSome o (λ a. passes action n a.tree ≡ true) →
    IfSome o (λ r. passes action n r.tree ≡ true → eval x q (cut n q s) ≡ eval x q s) → eval x q (cut n q s) ≡ eval x q s
static_here q s n action x None b h k = absurd b
static_here q s n action x (Some a) b h k = k h

pub static_levels : LevelsAreSound → StaticLevelsAreSound
static_levels levels schema ok t plain body no_principal no_resource accepted n passes_at q conforms s stored =
    for_request schema q conforms (λ a e h of.
    static_here q s n (Some a.name) (condition_of t) (types schema (declared_action (env_for a q)) [] (condition_of t))
    (unlinked_here (IsTyped schema (condition_of t)) t no_principal no_resource a (principal_of q).entity_type (resource_of q).entity_type
    (subst (λ o. IfSome o (At (λ a p r. IsTyped schema (condition_of t) (linked_env a (environment p a.name r) (own_slot t.principal p) (own_slot t.resource r))))) e
    (own_everywhere schema (IsTyped schema (condition_of t)) t accepted.typed (action_of q)) (principal_of q).entity_type (resource_of q).entity_type h.principal h.resource))
    (unlinked_here (PassesIn schema n (condition_of t)) t no_principal no_resource a (principal_of q).entity_type (resource_of q).entity_type
    (subst (λ o. IfSome o (At (λ a p r. PassesIn schema n (condition_of t) (linked_env a (environment p a.name r) (own_slot t.principal p) (own_slot t.resource r))))) e
    (own_everywhere schema (PassesIn schema n (condition_of t)) t passes_at (action_of q)) (principal_of q).entity_type (resource_of q).entity_type h.principal h.resource))
    (levels schema ok (env_for a q) q conforms of s stored n (condition_of t) (condition_plain t plain no_principal no_resource) (condition_once t body)))
