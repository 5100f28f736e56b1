-- What holds in each environment of a template holds, for each request that conforms, in that where an entity of the variable's type stands for each slot.
use Rattle.std.proofs.Common.{ℕ, List, IsTrue, IfSome}
use Rattle.std.specs.List.{AllByRecursion}
use Rattle.policy_values.specs.Reaches.{has}
use Rattle.policy_values.specs.declared.entity_uid.EntityUID.{EntityUID}
use Rattle.policy_values.specs.Uid.{text_cmp}
use Rattle.schema_core.specs.EnvData.{EnvData}
use Rattle.schema_core.specs.Environments.{environment, environments_of}
use Rattle.schema_core.specs.Schema.{SchemaData, action_at}
use Rattle.policy_set.specs.Data.{TemplateData}
use Rattle.link_spec.specs.Laws.{own_slot}
use Rattle.link_spec.specs.Linked.{linked_env, linked_envs, linked_envs_at, linked_envs_of}
use Rattle.link_spec.proofs.Links.{all_more, from_each, own_env}
use Rattle.link_spec.proofs.Statics.{everywhere}

pub own_everywhere : (schema : SchemaData) (P : EnvData → Type 0) (t : TemplateData) → AllByRecursion P (linked_envs schema t) → (u : EntityUID) →
    IfSome (action_at schema u) (λ a. (p r : List ℕ) → IsTrue (has text_cmp a.principals p) → IsTrue (has text_cmp a.resources r) → P (linked_env a (environment p a.name r) (own_slot t.principal p) (own_slot t.resource r)))
own_everywhere schema P t h u =
    everywhere schema (λ a e. P (linked_env a e (own_slot t.principal e.principal) (own_slot t.resource e.resource)))
    (all_more (λ a. AllByRecursion P (linked_envs_of schema t a)) (λ a. AllByRecursion (λ e. P (linked_env a e (own_slot t.principal e.principal) (own_slot t.resource e.resource))) (environments_of a))
    (λ a k.
    all_more (λ e. AllByRecursion P (linked_envs_at schema t a e)) (λ e. P (linked_env a e (own_slot t.principal e.principal) (own_slot t.resource e.resource))) (λ e. own_env schema P t a e) (environments_of a)
    (from_each P (linked_envs_at schema t a) (environments_of a) k)) schema.action_ids
    (from_each P (linked_envs_of schema t) schema.action_ids h)) u
