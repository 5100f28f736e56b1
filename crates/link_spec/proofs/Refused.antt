-- A check of a template that fails says why.
use Rattle.std.proofs.Common.{ℕ, Bool, true, false, List, [], ◌∷◌, cond, Option, Some, None, IsSome, refl, sym, subst}
use Rattle.std.specs.Cmp.{tied_itself}
use Rattle.std.specs.List.{AllByRecursion, find}
use Rattle.std.specs.Ordering.{is_eq}
use Rattle.policy_values.specs.declared.entity_uid.EntityUID.{EntityUID}
use Rattle.policy_values.specs.Uid.{uid_cmp_total}
use Rattle.schema_core.specs.EnvData.{EnvData, action_type_in, id_type, literal_type}
use Rattle.schema_core.specs.Environments.{Environment, environment, environments_of, environments_at}
use Rattle.schema_core.specs.Schema.{TypeData, ActionData, SchemaData, is_action_named, type_at, action_at}
use Rattle.policy_set.specs.Data.{TemplateData}
use Rattle.policy_set.specs.Condition.{condition_of}
use Rattle.typecheck_rules.specs.Check.{checked, SaysWhy, RefusalIsReported}
use Rattle.link_spec.specs.Laws.{RefusalsAreReported}
use Rattle.link_spec.specs.Linked.{linked_env, slot_types, linked_envs_with, linked_envs_at, linked_envs_of, linked_envs}
use Rattle.link_spec.proofs.Links.{all_more, to_mapped, to_each}

each : {X : Type 0} (P : X → Type 0) → ((x : X) → P x) → (xs : List X) → AllByRecursion P xs
each P h [] = tt
each P h (x ∷ xs) = (h x, each P h xs)

-- each action of a list is found by its id
more : (a y : ActionData) (o : Option ActionData) → IsSome o → IsSome (cond (is_action_named a.name y) (Some y) o)
more a y o h = by (is_action_named a.name y)
  where
    by : (b : Bool) → IsSome (cond b (Some y) o)
    by true = refl
    by false = h

here : (xs : List ActionData) → AllByRecursion (λ a. IsSome (find (is_action_named a.name) xs)) xs
here [] = tt
here (y ∷ ys) = (
  subst (λ o. IsSome (cond (is_eq o) (Some y) (find (is_action_named y.name) ys))) (sym (tied_itself uid_cmp_total y.name)) refl,
  all_more (λ a. IsSome (find (is_action_named a.name) ys)) (λ a. IsSome (find (is_action_named a.name) (y ∷ ys))) (λ a h. more a y (find (is_action_named a.name) ys) h) ys (here ys),
)

has_type : (schema : SchemaData) (u : EntityUID) → IsSome (action_at schema u) → IsSome (literal_type schema u)
has_type schema u h = by (action_at schema u) (type_at schema u.entity_type) h
  where
    by : (a : Option ActionData) (t : Option TypeData) → IsSome a → IsSome (id_type u a t)
    by (Some a) t h = refl
    by None t h = absurd (cc)

-- the action of each environment of a template is declared
actions_declared : (schema : SchemaData) (t : TemplateData) → AllByRecursion (λ env. IsSome (action_type_in schema env)) (linked_envs schema t)
actions_declared schema t = to_each Q (linked_envs_of schema t) schema.action_ids (all_more (λ a. IsSome (action_at schema a.name)) (λ a. AllByRecursion Q (linked_envs_of schema t a)) of_action schema.action_ids (here schema.action_ids))
  where
    Q : EnvData → Type 0
    Q env = IsSome (action_type_in schema env)

    of_env : (a : ActionData) → IsSome (action_at schema a.name) → (p r : List ℕ) → AllByRecursion Q (linked_envs_at schema t a (environment p a.name r))
    of_env a h p r =
        to_each Q (linked_envs_with schema t a (environment p a.name r)) (slot_types schema t.principal p)
        (each (λ o. AllByRecursion Q (linked_envs_with schema t a (environment p a.name r) o)) (λ o.
        to_mapped Q (linked_env a (environment p a.name r) o) (slot_types schema t.resource r) (each (λ q. Q (linked_env a (environment p a.name r) o q)) (λ q. has_type schema a.name h) (slot_types schema t.resource r)))
        (slot_types schema t.principal p))

    of_action : (a : ActionData) → IsSome (action_at schema a.name) → AllByRecursion Q (linked_envs_of schema t a)
    of_action a h =
        to_each Q (linked_envs_at schema t a) (environments_of a)
        (to_each R (environments_at a) a.principals (each (λ p. AllByRecursion R (environments_at a p)) (λ p. to_mapped R (environment p a.name) a.resources (each (λ r. R (environment p a.name r)) (of_env a h p) a.resources)) a.principals))
      where
        R : Environment → Type 0
        R e = AllByRecursion Q (linked_envs_at schema t a e)

pub refusals_reported : RefusalIsReported → RefusalsAreReported
refusals_reported reported schema t names =
    all_more (λ env. IsSome (action_type_in schema env)) (λ env. SaysWhy (checked schema env (condition_of t))) (λ env h. reported schema env h (condition_of t) names) (linked_envs schema t) (actions_declared schema t)
