-- The environment of a request is the one of its type.
use Rattle.std.proofs.Common.{◌≡◌, List, [], ◌∷◌, map, Option, Some, None, IsTrue, IfSome, refl, sym, ap, ◌∙◌, subst, inl, inr}
use Rattle.std.specs.Prelude.{ℕ, option_map, IsSome}
use Rattle.std.specs.List.{AllByRecursion, find}
use Rattle.std.specs.List.Sorted.{IsStrictlySortedBy}
use Rattle.std.specs.Cmp.{tied_itself}
use Rattle.std.specs.declared.cmp.Ordering.TheVariants.{Less}
use Rattle.std.proofs.lemmas.Cmp.{eq_by_cmp_equiv}
use Rattle.std.proofs.lemmas.Map.Keys.{sorted_head, sorted_tail}
use Rattle.plain_lemmas.proofs.Options.{some_injective}
use Rattle.policy_values.specs.declared.entity_uid.EntityUID.{EntityUID}
use Rattle.policy_values.specs.Uid.{uid_cmp, uid_cmp_total, text_cmp}
use Rattle.entity_store.specs.declared.request.Request.{Request}
use Rattle.entity_store.specs.declared.request.RequestType.{RequestType}
use Rattle.entity_store.specs.Request.{known, principal_of, action_of, resource_of, type_of_ids}
use Rattle.policy_values.specs.Reaches.{has}
use Rattle.schema_core.specs.EnvData.{EnvData, declared_action, request_type_in, unlinked, unlinked_of, unlinked_envs}
use Rattle.schema_core.specs.Environments.{Environment, environment, environments_at, environments_of}
use Rattle.schema_core.specs.Schema.{ActionData, SchemaData, is_action_named, action_at}
use Rattle.typing_spec.specs.Conforms.{Applies}
use Rattle.link_spec.proofs.Links.{all_more, from_mapped, from_each}
use Rattle.link_spec.proofs.Statics.{everywhere, env_for, for_request}
use Rattle.reads_spec.proofs.Lists.{IsIn, in_map_out, flat_map_out}
use Rattle.manifest_computation.specs.Environments.{EnvironmentsAreOfTypes, EnvironmentsAreThere}

-- environments of an action have it
pub env_action : (a : ActionData) (e : Environment) → IsIn e (environments_of a) → a.name ≡ e.action
env_action a e i =
    let p = flat_map_out (environments_at a) e a.principals i in
    let r = in_map_out (environment p.from a.name) e a.resources p.gives in
    ap (λ z. z.action) r.2

all_later : (k : EntityUID) (a : ActionData) (xs : List ActionData) → AllByRecursion (λ y. uid_cmp k y ≡ Less) (map (λ z. z.name) xs) → IsIn a xs → uid_cmp k a.name ≡ Less
all_later k a [] h i = absurd i
all_later k a (x ∷ xs) h (inl e) = subst (λ z. uid_cmp k z.name ≡ Less) e h.0
all_later k a (x ∷ xs) h (inr i) = all_later k a xs h.1 i

-- an action of the schema is found by its name
pub member_found : (a : ActionData) (xs : List ActionData) → IsStrictlySortedBy uid_cmp (map (λ z. z.name) xs) → IsIn a xs → find (is_action_named a.name) xs ≡ Some a
member_found a [] h i = absurd i
member_found a (x ∷ xs) h (inl e) = rw (e, tied_itself uid_cmp_total a.name) refl
member_found a (x ∷ xs) h (inr i) =
    let later = all_later x.name a xs (sorted_head uid_cmp x.name (map (λ z. z.name) xs) h) i in
    rw ((eq_by_cmp_equiv uid_cmp_total).symm a.name x.name, later) (member_found a xs (sorted_tail uid_cmp x.name (map (λ z. z.name) xs) h) i)

-- what a request type says of the ids of a request
pub types_known : (p a r : Option EntityUID) (t : RequestType) → type_of_ids p a r ≡ Some t → ((known p).entity_type ≡ t.principal) × (known a ≡ t.action) × ((known r).entity_type ≡ t.resource)
types_known (Some p) (Some a) (Some r) t h =
    let same : record { principal = p.entity_type; action = a; resource = r.entity_type } ≡ t = some_injective h in
    (ap (λ z. z.principal) same, ap (λ z. z.action) same, ap (λ z. z.resource) same)
types_known None a r t h = absurd (cc)
types_known (Some p) None r t h = absurd (cc)
types_known (Some p) (Some a) None t h = absurd (cc)

pub of_types : EnvironmentsAreOfTypes
of_types schema valid env among q t typed has =
    let a = flat_map_out unlinked_of env schema.action_ids among in
    let e = in_map_out (unlinked a.from) env (environments_of a.from) a.gives in
    let named = env_action a.from e.0 e.1 in
    let ids = types_known q.principal q.action q.resource t has in
    let same : record { principal = e.0.principal; action = e.0.action; resource = e.0.resource } ≡ t = some_injective (ap request_type_in e.2 ∙ typed) in
    let found : action_at schema (action_of q) ≡ Some a.from = ap (action_at schema) (ids.1 ∙ sym (ap (λ z. z.action) same) ∙ sym named) ∙ member_found a.from schema.action_ids valid.actions_ascend a.among in
    let is : environment (principal_of q).entity_type a.from.name (resource_of q).entity_type ≡ e.0 =
    λ i. record { principal = (ids.0 ∙ sym (ap (λ z. z.principal) same)) i; action = named i; resource = (ids.2 ∙ sym (ap (λ z. z.resource) same)) i } in
    ap (option_map (λ b. unlinked b (environment (principal_of q).entity_type b.name (resource_of q).entity_type))) found
    ∙ ap (λ z. Some (unlinked a.from z)) is
    ∙ ap Some e.2

-- ---- a request that conforms has one

-- the ids of a whole request, and its type
whole_type : (p a r : Option EntityUID) → IsSome p → IsSome a → IsSome r → type_of_ids p a r ≡ Some (record { principal = (known p).entity_type; action = known a; resource = (known r).entity_type })
whole_type (Some p) (Some a) (Some r) i j k = refl
whole_type None a r i j k = absurd (cc)
whole_type (Some p) None r i j k = absurd (cc)
whole_type (Some p) (Some a) None i j k = absurd (cc)

each_in : {X : Type 0} (P : X → Type 0) (xs : List X) → ((x : X) → IsIn x xs → P x) → AllByRecursion P xs
each_in P [] f = tt
each_in P (x ∷ xs) f = (f x (inl refl), each_in P xs (λ y i. f y (inr i)))

module _ (schema : SchemaData) (q : Request) where
  abbrev IsAmong : EnvData → Type 0
  IsAmong env = IsIn env (unlinked_envs schema)

  all_among : AllByRecursion IsAmong (unlinked_envs schema)
  all_among = each_in IsAmong (unlinked_envs schema) (λ env i. i)

  among_at : (a : ActionData) → action_at schema (action_of q) ≡ Some a → Applies schema q a → IsAmong (declared_action (env_for a q))
  among_at a is applies =
      subst (λ o. IfSome o (λ b. (p r : List ℕ) → IsTrue (has text_cmp b.principals p) → IsTrue (has text_cmp b.resources r) → IsAmong (unlinked b (environment p b.name r)))) is
      (everywhere schema (λ b e. IsAmong (unlinked b e))
      (all_more (λ b. AllByRecursion IsAmong (unlinked_of b)) (λ b. AllByRecursion (λ e. IsAmong (unlinked b e)) (environments_of b)) (λ b k. from_mapped IsAmong (unlinked b) (environments_of b) k) schema.action_ids
      (from_each IsAmong unlinked_of schema.action_ids all_among)) (action_of q))
      (principal_of q).entity_type (resource_of q).entity_type applies.principal applies.resource

pub are_there : EnvironmentsAreThere
are_there schema q whole conforms =
    for_request schema q conforms (λ a is applies of.
    record {
      env = declared_action (env_for a q);
      is = ap (option_map (λ b. unlinked b (environment (principal_of q).entity_type b.name (resource_of q).entity_type))) is;
      among = among_at schema q a is applies;
      type = record { principal = (principal_of q).entity_type; action = a.name; resource = (resource_of q).entity_type };
      in_env = refl;
      of_request = whole_type q.principal q.action q.resource whole.principal whole.action whole.resource ∙ ap (λ u. Some (record { principal = (principal_of q).entity_type; action = u; resource = (resource_of q).entity_type })) of.action;
    })
